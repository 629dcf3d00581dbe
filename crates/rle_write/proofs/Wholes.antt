-- The whole text of a box of cells and a port table.
use Rattle.std.proofs.Common.{◌≡◌, ℕ, List, [], ◌∷◌, ◌++◌, sym, ap, ◌∙◌, append_assoc}
use Rattle.ww_rule.specs.Grid.{Grid}
use Rattle.pattern_reading.specs.declared.ports.Ports.{Ports}
use Rattle.pattern_writing.specs.Writer.{item_texts, wrapped}
use Rattle.pattern_writing.specs.WrittenText.{pattern_text}
use Rattle.rle_write.specs.Opening.{opening_text}

-- what follows the header
abbrev pub items_text : Grid → List ℕ
items_text grid = wrapped 0 (item_texts grid.rows) ++ 10 ∷ []

-- the text is what is to be written, where nothing is held at first
pub whole_text : (grid : Grid) (ports : Ports) (here : List ℕ) (size : ℕ × ℕ) → here ≡ [] → size ≡ (grid.width, grid.height)
    → pattern_text grid ports ≡ here ++ (opening_text ports size.0 size.1 ++ items_text grid)
whole_text grid ports here size none same =
    append_assoc (opening_text ports grid.width grid.height) (wrapped 0 (item_texts grid.rows)) (10 ∷ [])
    ∙ ap (λ (s : ℕ × ℕ). opening_text ports s.0 s.1 ++ items_text grid) (sym same)
    ∙ ap (λ k. k ++ (opening_text ports size.0 size.1 ++ items_text grid)) (sym none)
