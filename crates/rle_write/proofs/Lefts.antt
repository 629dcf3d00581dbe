-- What is left to write, by the cells of a row and by rows.
use Rattle.std.proofs.Common.{◌≡◌, ℕ, ◌+◌, ◌≤◌, ◌<◌, List, [], ◌++◌, map, drop, length, replicate, get_or, ap, ◌∙◌, drop_of_length-le}
use Rattle.std.proofs.lemmas.List.{drop_more}
use Rattle.ww_rule.specs.declared.pattern.State.{State}
use Rattle.ww_rule.specs.declared.pattern.State.TheVariants.{Empty}
use Rattle.pattern_writing.specs.Writer.{tag_of}
use Rattle.rle_write.specs.Left.{rows_left, row_left, text_left}
use Rattle.rle_write.proofs.Tags.{rows_left_none}

-- the text that is left, by the rest of the row
pub left_by : (held : List ℕ) (column ends count tag : ℕ) (rows : List (List State)) {l l' : List ℕ} → l ≡ l'
    → text_left held column (row_left ends (replicate count tag ++ l) rows) ≡ text_left held column (row_left ends (replicate count tag ++ l') rows)
left_by held column ends count tag rows e = ap (λ l. text_left held column (row_left ends (replicate count tag ++ l) rows)) e

-- the rest of a row begins with its next cell, and nothing follows its last one
pub cell_next : (row : List State) (x : ℕ) → x < length row
    → map tag_of (drop x row) ≡ replicate 1 (tag_of (get_or row x Empty)) ++ map tag_of (drop (x + 1) row)
cell_next row x inside = ap (map tag_of) (drop_more row x Empty inside)

pub cells_none : (row : List State) (x : ℕ) → length row ≤ x → map tag_of (drop x row) ≡ []
cells_none row x past = ap (map tag_of) (drop_of_length-le row past)

-- after the rows only the `!` is left
pub past_rows : (rows : List (List State)) (held : List ℕ) (column ends y : ℕ) → length rows ≤ y
    → text_left held column (rows_left ends (drop y rows)) ≡ text_left held column []
past_rows rows held column ends y past =
    ap (λ l. text_left held column (rows_left ends l)) (drop_of_length-le rows past) ∙ ap (text_left held column) (rows_left_none ends)
