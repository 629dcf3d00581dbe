-- What a set of names has after one more.
use Rattle.std.proofs.Common.{◌≡◌, sym, ap, ◌∙◌, ℕ, ◌+◌, ◌<◌, true, ◌||◌, List, [], ◌∷◌, length, take, get_or, map}
use Rattle.std.proofs.lemmas.List.Folds.{list_any-append}
use Rattle.std.proofs.lemmas.List.{map_more}
use Rattle.std.specs.BTreeSet.{BTreeSet, UpdatesBy}
use Rattle.std.specs.Cmp.Lexicographic.{slice_cmp}
use Rattle.std.specs.Ordering.{nat_cmp}
use Rattle.std.specs.Str.{bytes_eq}
use Rattle.std.proofs.Math.Bool.{or-false}
use denote.Ref.{Bor}
use Rattle.netlist_core.specs.declared.model.Pin.{Pin}
use Rattle.netlist_core.specs.declared.model.Port.{Port}
use Rattle.netlist_core.specs.Names.{at_line, has_name, is_named}
use Rattle.model_words.specs.NameSets.{HasNames}
use Rattle.lists.proofs.NameSets.{name_added}

-- one more formal of a line
pub formal_added : (old new : BTreeSet (Bor (List ℕ))) (key : Bor (List ℕ)) (line : ℕ) (pins : List Pin) (i : ℕ) (pin : Pin) → i < length pins → pin ≡ get_or pins i pin → key.now ≡ pin.formal → HasNames old (is_named (map (λ (p : Pin). at_line line p.formal) (take i pins))) → UpdatesBy (λ x y. slice_cmp nat_cmp x.now y.now) (λ k. slice_cmp nat_cmp key.now k.now) old new true → HasNames new (is_named (map (λ (p : Pin). at_line line p.formal) (take (i + 1) pins)))
formal_added old new key line pins i pin within is named had updates name =
    name_added old new key name updates
    ∙ ap (λ b. b || bytes_eq key.now name) (had name)
    ∙ ap (λ (n : List ℕ). is_named (map at pins-before) name || bytes_eq n name) (named ∙ ap (λ (p : Pin). p.formal) is)
    ∙ ap (λ b. is_named (map at pins-before) name || b) (sym (or-false (bytes_eq (get_or pins i pin).formal name)))
    ∙ sym (list_any-append (has_name name) (map at pins-before) (at (get_or pins i pin) ∷ []))
    ∙ ap (λ ports. is_named ports name) (sym (map_more at pins i pin within))
  where
    at : Pin → Port
    at p = at_line line p.formal

    pins-before : List Pin
    pins-before = take i pins
