-- Inputs that have no pin.
use Rattle.std.proofs.Common.{◌≡◌, refl, sym, ap, ◌∙◌, ℕ, Bool, List, ◌++◌, map, Option, Some, None, option_map, slice_get}
use Rattle.std.proofs.Math.Path.{fun_ext}
use Rattle.std.proofs.lemmas.List.Elements.{filter_map-append}
use Rattle.std.specs.BTreeSet.{BTreeSet}
use Rattle.std.specs.Option.{option_map_or, option_to_list}
use denote.Ref.{Bor}
use Rattle.netlist_core.specs.declared.model.Model.{Model}
use Rattle.netlist_core.specs.declared.model.Port.{Port}
use Rattle.netlist_core.specs.declared.model.Subckt.{Subckt}
use Rattle.netlist_core.specs.Names.{Name, is_named, model_named}
use Rattle.netlist_rules.specs.declared.fault.Fault.{Fault}
use Rattle.netlist_rules.specs.declared.fault.FaultKind.TheVariants.{PinMissing}
use Rattle.netlist_rules.specs.ModelFaults.{earliest, fault_of_port, formals_of, missing_pin, on_line, unpinned_inputs}
use Rattle.model_words.specs.Words.{earliest_after}
use Rattle.model_words.proofs.EarliestWords.{earliest_after-append}
use Rattle.model_words.specs.NameSets.{HasNames}
use Rattle.pin_faults.specs.NotNamed.{ports_unless}
use Rattle.lists.specs.Names.{holds_name}

-- the first of a line's inputs without a pin, by their lines in the placed model
pub first_unpinned : (s : Subckt) (placed : Model) (set : BTreeSet (Bor (List ℕ))) (first after_ins after_clocks : Option Port) → HasNames set (is_named (formals_of s)) → first ≡ None → after_ins ≡ earliest_after first (ports_unless (holds_name set) placed.ins) → after_clocks ≡ earliest_after after_ins (ports_unless (holds_name set) placed.clocks) → after_clocks ≡ earliest (unpinned_inputs s placed)
first_unpinned s placed set first after_ins after_clocks has none ins clocks =
    clocks
    ∙ ap (λ o. earliest_after o (ports_unless (holds_name set) placed.clocks)) (ins ∙ ap (λ o. earliest_after o (ports_unless (holds_name set) placed.ins)) none)
    ∙ earliest_after-append None (ports_unless (holds_name set) placed.ins) (ports_unless (holds_name set) placed.clocks)
    ∙ ap earliest (sym (filter_map-append _ placed.ins placed.clocks))
    ∙ ap (λ (test : Name → Bool). earliest (ports_unless test (placed.ins ++ placed.clocks))) (fun_ext (λ (name : Name). has name))

-- the first word of a line that lacks a pin
one_on_line : (line : ℕ) (o : Option Port) → slice_get (map (on_line line) (option_to_list o)) 0 ≡ option_map (on_line line) o
one_on_line line None = refl
one_on_line line (Some p) = refl

abbrev moved_to : ℕ → Option Fault → Option Fault
moved_to line found = option_map (λ (fault : Fault). record fault { line = line }) found

on_its_line : (line : ℕ) (o : Option Port) → moved_to line (option_map (fault_of_port PinMissing) o) ≡ option_map (fault_of_port PinMissing) (option_map (on_line line) o)
on_its_line line None = refl
on_its_line line (Some p) = refl

pub line_fault_is : (models : List Model) (s : Subckt) (placed : Model) (word : Option Port) (fault found : Option Fault) → model_named models s.model ≡ Some placed → word ≡ earliest (unpinned_inputs s placed) → fault ≡ option_map (fault_of_port PinMissing) word → found ≡ moved_to s.line fault → found ≡ option_map (fault_of_port PinMissing) (slice_get (missing_pin models s) 0)
line_fault_is models s placed word fault found named first is moved =
    moved
    ∙ ap (moved_to s.line) (is ∙ ap (option_map (fault_of_port PinMissing)) first)
    ∙ on_its_line s.line (earliest (unpinned_inputs s placed))
    ∙ ap (option_map (fault_of_port PinMissing)) (sym (one_on_line s.line (earliest (unpinned_inputs s placed))))
    ∙ ap (λ o. option_map (fault_of_port PinMissing) (slice_get (map (on_line s.line) (option_to_list (option_map_or (λ (m : Model). earliest (unpinned_inputs s m)) o None))) 0)) (sym named)
