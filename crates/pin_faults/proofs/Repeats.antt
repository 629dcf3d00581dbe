-- Names that stand twice on one line.
use Rattle.std.proofs.Common.{◌≡◌, refl, sym, ap, ap₂, ◌∙◌, ℕ, ◌+◌, ◌<◌, ◌≤◌, Bool, false, not, ◌&&◌, ◌||◌, List, [], ◌∷◌, ◌++◌, length, take, get_or, map, Option, arith, append_assoc}
use Rattle.std.proofs.Math.Bool.{and-true, and-false, or-false, or_comm, or_assoc, not-not}
use Rattle.std.proofs.lemmas.Bool.{le-leb, le-ltb}
use Rattle.std.proofs.lemmas.List.{append-nil, take_more}
use Rattle.std.specs.Bool.{then_some}
use Rattle.std.specs.BTreeSet.{BTreeSet}
use Rattle.std.specs.List.{AllByRecursion, list_any}
use Rattle.std.specs.Option.{option_to_list}
use denote.Ref.{Bor}
use Rattle.netlist_core.specs.declared.model.Pin.{Pin}
use Rattle.netlist_core.specs.declared.model.Port.{Port}
use Rattle.netlist_core.specs.Names.{Name, at_line, has_name, is_named}
use Rattle.netlist_rules.specs.Drivers.{same_name_up_to, same_name_before, stands_earlier, repeats_after, repeats}
use Rattle.model_words.specs.Words.{earliest_after}
use Rattle.model_words.proofs.EarliestWords.{earliest_after-append}
use Rattle.model_words.specs.NameSets.{HasNames}
use Rattle.lists.specs.Names.{holds_name}
use Rattle.netlist_rules.proofs.Faultless.{formal_at}

-- what stands after on the same line does not stand earlier
none_after : (line : ℕ) (name : Name) (pins : List Pin) → list_any (same_name_before (at_line line name)) (map (formal_at line) pins) ≡ false
none_after line name [] = refl
none_after line name (pin ∷ pins) =
    ap (λ b. (has_name name (formal_at line pin) && b) || list_any (same_name_before (at_line line name)) (map (formal_at line) pins)) (le-ltb line line (omega arith))
    ∙ ap (λ b. b || list_any (same_name_before (at_line line name)) (map (formal_at line) pins)) (and-false (has_name name (formal_at line pin)))
    ∙ none_after line name pins

-- what stands before on lines up to this one stands earlier
all_before : (line : ℕ) (name : Name) (before : List Port) → AllByRecursion (λ (p : Port). p.line ≤ line) before → list_any (same_name_up_to (at_line line name)) before ≡ is_named before name
all_before line name [] up_to = refl
all_before line name (p ∷ before) up_to = ap₂ (λ a b. a || b) (ap (λ b. has_name name p && b) (le-leb p.line line up_to.0) ∙ and-true (has_name name p)) (all_before line name before up_to.1)

earlier_is : (line : ℕ) (pin : Pin) (before : List Port) (pins : List Pin) → AllByRecursion (λ (p : Port). p.line ≤ line) before → stands_earlier before (formal_at line pin) (map (formal_at line) pins) ≡ is_named before pin.formal
earlier_is line pin before pins up_to = ap₂ (λ a b. a || b) (all_before line pin.formal before up_to) (none_after line pin.formal pins) ∙ or-false (is_named before pin.formal)

-- one more formal at the end of a line
repeated_last : (line : ℕ) (pin : Pin) (before : List Port) (pins : List Pin) → AllByRecursion (λ (p : Port). p.line ≤ line) before → repeats_after before (map (formal_at line) (pins ++ pin ∷ [])) ≡ repeats_after before (map (formal_at line) pins) ++ option_to_list (then_some (is_named before pin.formal || is_named (map (formal_at line) pins) pin.formal) (formal_at line pin))
repeated_last line pin before [] up_to =
    append-nil (option_to_list (then_some (stands_earlier before (formal_at line pin) []) (formal_at line pin)))
    ∙ ap (λ b. option_to_list (then_some b (formal_at line pin))) (earlier_is line pin before [] up_to ∙ sym (or-false (is_named before pin.formal)))
repeated_last line pin before (first ∷ pins) up_to =
    ap₂ (λ a b. option_to_list (then_some a (formal_at line first)) ++ b) (earlier_is line first before (pins ++ pin ∷ []) up_to ∙ sym (earlier_is line first before pins up_to)) (repeated_last line pin (formal_at line first ∷ before) pins (omega arith, up_to))
    ∙ ap (λ b. option_to_list (then_some (stands_earlier before (formal_at line first) (map (formal_at line) pins)) (formal_at line first)) ++ (repeats_after (formal_at line first ∷ before) (map (formal_at line) pins) ++ option_to_list (then_some b (formal_at line pin)))) (ap (λ c. c || is_named (map (formal_at line) pins) pin.formal) (or_comm (has_name pin.formal (formal_at line first)) (is_named before pin.formal)) ∙ or_assoc (is_named before pin.formal) (has_name pin.formal (formal_at line first)) (is_named (map (formal_at line) pins) pin.formal))
    ∙ sym (append_assoc (option_to_list (then_some (stands_earlier before (formal_at line first) (map (formal_at line) pins)) (formal_at line first))) (repeats_after (formal_at line first ∷ before) (map (formal_at line) pins)) _)

pub repeats_push : (line : ℕ) (pin : Pin) (pins : List Pin) → repeats (map (formal_at line) (pins ++ pin ∷ [])) ≡ repeats (map (formal_at line) pins) ++ option_to_list (then_some (is_named (map (formal_at line) pins) pin.formal) (formal_at line pin))
repeats_push line pin pins = repeated_last line pin [] pins tt

pub repeated_more : (line : ℕ) (found was now : Option Port) (pins : List Pin) (i : ℕ) (pin : Pin) (old : BTreeSet (Bor (List ℕ))) (name : List ℕ) (is_new : Bool) → i < length pins → pin ≡ get_or pins i pin → name ≡ pin.formal → HasNames old (is_named (map (formal_at line) (take i pins))) → is_new ≡ not (holds_name old name) → was ≡ earliest_after found (repeats (map (formal_at line) (take i pins))) → now ≡ earliest_after was (option_to_list (then_some (not is_new) (at_line line name))) → now ≡ earliest_after found (repeats (map (formal_at line) (take (i + 1) pins)))
repeated_more line found was now pins i pin old name is_new within is named has added before after =
    after
    ∙ ap (λ o. earliest_after o (option_to_list (then_some (not is_new) (at_line line name)))) before
    ∙ ap (λ b. earliest_after (earliest_after found (repeats (map (formal_at line) (take i pins)))) (option_to_list (then_some b (at_line line name)))) (ap not added ∙ not-not (holds_name old name) ∙ has name)
    ∙ ap (λ (n : List ℕ). earliest_after (earliest_after found (repeats (map (formal_at line) (take i pins)))) (option_to_list (then_some (is_named (map (formal_at line) (take i pins)) n) (at_line line n)))) named
    ∙ earliest_after-append found (repeats (map (formal_at line) (take i pins))) (option_to_list (then_some (is_named (map (formal_at line) (take i pins)) pin.formal) (formal_at line pin)))
    ∙ ap (earliest_after found) (sym (repeats_push line pin (take i pins)))
    ∙ ap (λ (p : Pin). earliest_after found (repeats (map (formal_at line) (take i pins ++ p ∷ [])))) is
    ∙ ap (λ ps. earliest_after found (repeats (map (formal_at line) ps))) (sym (take_more pins i pin within))
