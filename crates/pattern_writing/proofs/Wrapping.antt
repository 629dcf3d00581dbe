-- What wrapping puts between items.
use Rattle.std.proofs.Common.{◌≡◌, ℕ, Bool, true, false, if◌then◌else◌, List, [], ◌∷◌, ◌++◌, flat_map, not, ◌==◌, refl, sym, ap, ◌∙◌, append_assoc}
use Rattle.std.proofs.lemmas.List.Elements.{filter-append}
use Rattle.pattern_writing.specs.Writer.{fits_after, line_break, used_after, wrapped}
use Rattle.pattern_writing.specs.Laws.{without_line_ends}

break_left_out : (b : Bool) (rest : List ℕ) → without_line_ends ((if b then [] else 10 ∷ []) ++ rest) ≡ without_line_ends rest
break_left_out true rest = refl
break_left_out false rest = refl

joined : (a b : List ℕ) → without_line_ends (a ++ b) ≡ without_line_ends a ++ without_line_ends b
joined a b = filter-append (λ x. not (x == 10)) a b

pub wrapping_keeps : (used : ℕ) (items : List (List ℕ)) → without_line_ends (wrapped used items) ≡ without_line_ends (flat_map (λ item. item) items)
wrapping_keeps used [] = refl
wrapping_keeps used (item ∷ items) =
    let rest : List ℕ = wrapped (used_after used item) items in
    ap without_line_ends (append_assoc (line_break used item) item rest)
    ∙ break_left_out (fits_after used item) (item ++ rest)
    ∙ joined item rest
    ∙ ap (λ l. without_line_ends item ++ l) (wrapping_keeps (used_after used item) items)
    ∙ sym (joined item (flat_map (λ i. i) items))
