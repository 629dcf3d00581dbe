-- Sums of products.
use Rattle.std.proofs.Common.{◌≡◌, refl, sym, ◌∙◌, ap, ap₂, subst, ℕ, ◌+◌, ◌*◌, ◌<◌, Bool, true, ◌||◌, List, [], ◌∷◌, take, length, get_or, sum_by, ◌⊎◌, inl, inr, ⊎_elim, arith}
use Rattle.std.specs.Prelude.{slice_get, Some}
use Rattle.std.proofs.Math.Bool.{or-false}
use Rattle.std.proofs.lemmas.Bool.{or_left}
use Rattle.std.proofs.lemmas.Option.{none-some, same_Some}
use Rattle.std.proofs.lemmas.List.Sums.{sum_by_more, sum_by-cons}
use Rattle.std.proofs.lemmas.List.Folds.{list_any_more, list_any_at}
use Rattle.netlist_core.specs.OwnWeight.{literals}
use Rattle.netlist_meaning.specs.CoverValue.{product_holds, any_holds}
use Rattle.cell_core.specs.declared.cells.Src.{Src}
use Rattle.cell_core.specs.declared.list.CellList.{CellList}
use Rattle.cell_core.specs.Sources.{is_one}
use Rattle.cell_core.specs.Meaning.{bit_in}
use Rattle.cell_sharing.specs.Grown.{HasSources, bits_of, Grows, Answers}
use Rattle.cell_meaning.specs.Needs.{has_no_positive}
use Rattle.cover_cells.specs.Covers.{RowNeedsOne, RowsNeedOne, CoverNeedsOne, most_cells_of_cover, AnswersRow, AnswersCover}
use Rattle.cell_sharing.proofs.Growing.{grows, grows_refl, answers, bit_after, bits_after}

-- what a sum has, as far as it has come
abbrev pub SumsTo : CellList → CellList → List Src → List (List ℕ) → ℕ → Src → Type 0
SumsTo old new sources rows i sum =
    Answers old new (i + 2 * sum_by literals (take i rows)) (RowsNeedOne sources rows) sum (λ inputs state. any_holds (take i rows) (bits_of old sources inputs state))

row_reason : (sources : List Src) (rows : List (List ℕ)) (i : ℕ) → i < length rows → RowNeedsOne sources (get_or rows i []) → RowsNeedOne sources rows
row_reason sources rows i within (inl e) = inl e
row_reason sources rows i within (inr e) = inr (list_any_at (has_no_positive (length sources)) rows i [] within e)

-- one row that ends in `1`
pub row_alone : (l l' : CellList) (sources : List Src) (row : List ℕ) (src : Src) → AnswersRow l l' sources row src → AnswersCover l l' sources (row ∷ []) true src
row_alone l l' sources row src h =
    answers l l l' 0 _ _ (RowNeedsOne sources row) _ _ src _ (grows_refl l (RowNeedsOne sources row)) h reason reason
    (let e : most_cells_of_cover (row ∷ []) true ≡ 2 * sum_by literals (row ∷ []) = refl in let f : sum_by literals (row ∷ []) ≡ literals row + 0 = sum_by-cons literals row [] in omega (arith, e, f))
    _ (λ inputs state. sym (or-false (product_holds row (bits_of l sources inputs state))))
  where
    reason : RowNeedsOne sources row → CoverNeedsOne sources (row ∷ []) true
    reason why = inl (⊎_elim inl (λ e. inr (or_left _ _ e)) why)

-- the product of the first row is that of all, if there are no more
pub first_alone : (l l' : CellList) (sources : List Src) (rows : List (List ℕ)) (row : List ℕ) (src : Src) → length rows < 2 → slice_get rows 0 ≡ Some row → AnswersRow l l' sources row src
    → AnswersCover l l' sources rows true src
first_alone l l' sources [] row src few e h = absurd (none-some row e)
first_alone l l' sources (own ∷ []) row src few e h = subst (λ r. AnswersCover l l' sources (r ∷ []) true src) (sym (same_Some _ _ e)) (row_alone l l' sources row src h)
first_alone l l' sources (own ∷ other ∷ rows) row src few e h = absurd (omega (arith, few))

pub row_added : (l l' l'' l''' : CellList) (sources : List Src) (rows : List (List ℕ)) (sum product new : Src) (i : ℕ) → i < length rows → HasSources l sources
    → SumsTo l l' sources rows i sum
    → AnswersRow l' l'' sources (get_or rows i []) product
    → Answers l'' l''' 1 ((is_one sum ≡ true) ⊎ (is_one product ≡ true)) new (λ inputs state. bit_in l''.cells inputs state sum || bit_in l''.cells inputs state product)
    → SumsTo l l''' sources rows (i + 1) new
row_added l l' l'' l''' sources rows sum product new i within there first then last =
    let whole : Grows l l'' (i + 2 * sum_by literals (take i rows) + 2 * literals (get_or rows i [])) (RowsNeedOne sources rows) =
    grows l l' l'' _ _ _ _ _ _ first.grows then.grows (λ p. p) (row_reason sources rows i within) (omega arith) in
    answers l l'' l''' _ _ _ _ _ _ new _ whole last (λ p. p)
    (λ q. ⊎_elim first.one (λ e. row_reason sources rows i within (then.one e)) q)
    (let e : sum_by literals (take (i + 1) rows) ≡ sum_by literals (take i rows) + literals (get_or rows i []) = sum_by_more literals rows i [] within in omega arith)
    _ (λ inputs state.
    let bits : List Bool = bits_of l sources inputs state in
    ap₂ (λ a b. a || b) (bit_after l' l'' _ _ then.grows sum first.there inputs state ∙ first.bit inputs state)
    (then.bit inputs state ∙ ap (product_holds (get_or rows i [])) (bits_after l l' _ _ first.grows sources there inputs state))
    ∙ sym (list_any_more (λ row. product_holds row bits) rows i [] within))
