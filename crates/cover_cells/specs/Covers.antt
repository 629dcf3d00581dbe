-- What contracts claim of the cells of a cover.
use Rattle.std.specs.Prelude.{ℕ, ◌+◌, ◌*◌, ◌≡◌, ◌≢◌, ◌⊎◌, ◌&&◌, Bool, true, false, not, List, [], length, sum_by, get_or, nat_lt, cond}
use Rattle.std.specs.List.{list_any}
use Rattle.netlist_core.specs.OwnWeight.{literals, rows_weight}
use Rattle.netlist_meaning.specs.CoverValue.{product_holds, any_holds, cover_value}
use Rattle.cell_core.specs.declared.cells.Src.{Src}
use Rattle.cell_core.specs.declared.cells.Src.TheVariants.{One}
use Rattle.cell_core.specs.declared.list.CellList.{CellList}
use Rattle.cell_core.specs.Sources.{is_one}
use Rattle.cell_meaning.specs.Needs.{has_no_positive}
use Rattle.cell_sharing.specs.Grown.{bits_of, Answers}

-- the source at a place, or constant 1 if it is not among the first so many
abbrev pub start_of : List Src → ℕ → ℕ → Src
start_of sources first width = cond (nat_lt first width) (get_or sources first One) One

abbrev pub some_is_one : List Src → Bool
some_is_one sources = list_any is_one sources

-- the row needs constant 1: a source is constant 1, or the row has no `1`
abbrev pub RowNeedsOne : List Src → List ℕ → Type 0
RowNeedsOne sources row =
    (some_is_one sources ≡ true) ⊎ (has_no_positive (length sources) row ≡ true)

abbrev pub RowsNeedOne : List Src → List (List ℕ) → Type 0
RowsNeedOne sources rows =
    (some_is_one sources ≡ true) ⊎ (list_any (has_no_positive (length sources)) rows ≡ true)

abbrev pub CoverNeedsOne : List Src → List (List ℕ) → Bool → Type 0
CoverNeedsOne sources rows on = RowsNeedOne sources rows ⊎ ((on ≡ false) × (rows ≢ []))

-- the source has the value of the row, with at most two new cells for each literal
abbrev pub AnswersRow : CellList → CellList → List Src → List ℕ → Src → Type 0
AnswersRow old new sources row src =
    Answers old new (2 * literals row) (RowNeedsOne sources row) src
    (λ inputs state. product_holds row (bits_of old sources inputs state))

-- the source is 1 exactly if a row's product holds, with at most one new cell for each row and two
-- for each literal
abbrev pub AnswersRows : CellList → CellList → List Src → List (List ℕ) → Src → Type 0
AnswersRows old new sources rows src =
    Answers old new (length rows + 2 * sum_by literals rows) (RowsNeedOne sources rows) src
    (λ inputs state. any_holds rows (bits_of old sources inputs state))

-- the cover has no rows, or one that ends in `1`
abbrev pub is_product : List (List ℕ) → Bool → Bool
is_product rows on = on && nat_lt (length rows) 2

-- how many cells a cover takes at most: a product two for each literal, and another cover twice its
-- weight
abbrev pub most_cells_of_cover : List (List ℕ) → Bool → ℕ
most_cells_of_cover rows on =
    cond (is_product rows on) (2 * sum_by literals rows) (2 * rows_weight rows)

-- the source has the value of the cover, with at most as many new cells as that
abbrev pub AnswersCover : CellList → CellList → List Src → List (List ℕ) → Bool → Src → Type 0
AnswersCover old new sources rows on src =
    Answers old new (most_cells_of_cover rows on) (CoverNeedsOne sources rows on) src
    (λ inputs state. cover_value rows on (bits_of old sources inputs state))
