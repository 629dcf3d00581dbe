-- Where the next item begins.
use Rattle.std.proofs.Common.{◌+◌, ◌≡◌, refl, ap, ◌∙◌, false, not, List, ◌∷◌, arith}
use Rattle.std.specs.Prelude.{take_while, sum_by}
use Rattle.std.proofs.lemmas.List.Sums.{take_while-cons, sum_by-cons}
use Rattle.pattern_reading.specs.Items.{Item, Cells, RowEnds, End, Blank, CutOff, NoItem, cell_count, column_after, is_row_end, row_after, row_end_count}
use Rattle.pattern_reading.specs.Laws.{HasNextPlace}

row_step : (item : Item) (before : List Item) → row_after (item ∷ before) ≡ row_end_count item + row_after before
row_step item before = sum_by-cons row_end_count item before

-- an item that ends no row goes on from the column before
kept_item : (item : Item) (before : List Item) → is_row_end item ≡ false → take_while (λ i. not (is_row_end i)) (item ∷ before) ≡ item ∷ take_while (λ i. not (is_row_end i)) before
kept_item item before e = take_while-cons (λ i. not (is_row_end i)) item before ∙ rw e refl

column_step : (item : Item) (before : List Item) → is_row_end item ≡ false → column_after (item ∷ before) ≡ cell_count item + column_after before
column_step item before e =
    ap (sum_by cell_count) (kept_item item before e) ∙ sum_by-cons cell_count item (take_while (λ i. not (is_row_end i)) before)

pub next_place : (item : Item) (before : List Item) → HasNextPlace item before
next_place (Cells n state) before =
    (column_step (Cells n state) before refl ∙ omega arith, row_step (Cells n state) before ∙ omega arith)
next_place (RowEnds n) before =
    (ap (sum_by cell_count) (take_while-cons (λ i. not (is_row_end i)) (RowEnds n) before), row_step (RowEnds n) before ∙ omega arith)
next_place End before = (column_step End before refl ∙ omega arith, row_step End before ∙ omega arith)
next_place Blank before = (column_step Blank before refl ∙ omega arith, row_step Blank before ∙ omega arith)
next_place CutOff before = (column_step CutOff before refl ∙ omega arith, row_step CutOff before ∙ omega arith)
next_place NoItem before = (column_step NoItem before refl ∙ omega arith, row_step NoItem before ∙ omega arith)
