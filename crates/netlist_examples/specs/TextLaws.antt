-- Laws of the models that lines describe, on which nothing else stands.
use Rattle.std.specs.Prelude.{Bool, ◌≡◌, List, [], ◌∷◌, ◌++◌, true, false}
use Rattle.std.specs.Str.Lines.{lines}
use Rattle.blif_text.specs.declared.logical.Logical.{Logical}
use Rattle.blif_text.specs.Models.{models_of, begins_model, is_row, first_word}
use Rattle.blif_text.specs.LineFaults.{is_annotation}

-- Annotations add nothing: one that stands before another directive, or at the end, may be left
-- out.
abbrev pub begins_with_row : List Logical → Bool
begins_with_row [] = false
begins_with_row (l ∷ lines) = is_row l

abbrev pub AnnotationsGiveNothing : Type 0
AnnotationsGiveNothing =
    (before : List Logical) (line : Logical) (after : List Logical) → is_row line ≡ false
    → is_annotation (first_word line) ≡ true → begins_with_row after ≡ false
    → models_of (before ++ line ∷ after) ≡ models_of (before ++ after)

-- Lines are cut before each `.model`: the lines before it and the lines from it on have their own
-- models.
abbrev pub ModelsAreCut : Type 0
ModelsAreCut =
    (before : List Logical) (line : Logical) (after : List Logical) → begins_model line ≡ true
    → models_of (before ++ line ∷ after) ≡ models_of before ++ models_of (line ∷ after)
