-- What has been offered after one more element.
use Rattle.std.proofs.Common.{◌≡◌, refl, sym, ap, ◌∙◌, ℕ, ◌+◌, ◌<◌, ◌≤◌, Bool, not, List, [], ◌∷◌, ◌++◌, length, take, get_or, flat_map, Option, option_map, arith}
use Rattle.std.proofs.lemmas.Grind.{flat_map-append}
use Rattle.std.proofs.lemmas.List.{get_or-map, length-map, take-map, take_all}
use Rattle.std.proofs.lemmas.Result.{IfOk-weaker}
use Rattle.std.specs.Bool.{then_some}
use Rattle.std.specs.Prelude.{Result, IfOk}
use Rattle.std.specs.BTreeSet.{BTreeSet}
use Rattle.std.specs.Option.{option_to_list}
use denote.Ref.{Bor}
use Rattle.netlist_core.specs.declared.model.Model.{Model}
use Rattle.netlist_core.specs.declared.model.Pin.{Pin}
use Rattle.netlist_core.specs.declared.model.Port.{Port}
use Rattle.netlist_core.specs.declared.model.Subckt.{Subckt}
use Rattle.netlist_core.specs.Names.{Name, at_line}
use Rattle.netlist_rules.specs.declared.fault.Fault.{Fault}
use Rattle.netlist_rules.specs.declared.fault.FaultKind.{FaultKind}
use Rattle.netlist_rules.specs.ModelFaults.{earliest, fault_of_port}
use Rattle.model_words.specs.Words.{earliest_after}
use Rattle.model_words.proofs.OfferedWords.{offered_more}
use Rattle.pin_faults.specs.NotNamed.{formal_unless, port_unless}
use Rattle.lists.specs.Names.{holds_name}
use Rattle.pin_faults.specs.SubcktLines.{lines_now}

-- words of elements that do not pass a test
pub formal_offered : (test : Name → Bool) (line : ℕ) (pin : Pin) (name : Name) (found : Bool) → found ≡ test name → name ≡ pin.formal → option_to_list (then_some (not found) (at_line line name)) ≡ option_to_list (formal_unless test line pin)
formal_offered test line pin name found e d =
    ap (λ b. option_to_list (then_some (not b) (at_line line name))) e
    ∙ ap (λ n. option_to_list (then_some (not (test n)) (at_line line n))) d

pub port_offered : (names : BTreeSet (Bor (List ℕ))) (port : Port) (name : List ℕ) (found : Bool) → found ≡ holds_name names name → name ≡ port.name → option_to_list (then_some (not found) (at_line port.line name)) ≡ option_to_list (port_unless (holds_name names) port)
port_offered names port name found e d =
    ap (λ b. option_to_list (then_some (not b) (at_line port.line name))) e
    ∙ ap (λ n. option_to_list (then_some (not (holds_name names n)) (at_line port.line n))) d

-- words of lines
pub lines_more : (f : Subckt → List Port) (was now : Option Port) (lines : List (Bor Subckt)) (i : ℕ) (line : Bor Subckt) → i < length lines → line ≡ get_or lines i line → was ≡ earliest (flat_map f (lines_now (take i lines))) → now ≡ earliest_after was (f line.now) → now ≡ earliest (flat_map f (lines_now (take (i + 1) lines)))
lines_more f was now lines i line within is before after =
    let many : length (lines_now lines) ≡ length lines = length-map lines (λ (l : Bor Subckt). l.now) in
    offered_more f (lines_now lines) i line.now was now (omega arith)
    (ap (λ (l : Bor Subckt). l.now) is ∙ sym (get_or-map (λ (l : Bor Subckt). l.now) lines i line line.now within))
    (before ∙ ap (λ ls. earliest (flat_map f ls)) (sym (take-map (λ (l : Bor Subckt). l.now) i lines)))
    after
    ∙ ap (λ ls. earliest (flat_map f ls)) (take-map (λ (l : Bor Subckt). l.now) (i + 1) lines)

-- the lines of models are those of each model
over_models : (f : Subckt → List Port) (models : List Model) → flat_map f (flat_map (λ (m : Model). m.subckts) models) ≡ flat_map (λ (m : Model). flat_map f m.subckts) models
over_models f [] = refl
over_models f (m ∷ models) = flat_map-append f m.subckts (flat_map (λ (n : Model). n.subckts) models) ∙ ap (λ ws. flat_map f m.subckts ++ ws) (over_models f models)

-- the fault at the earliest word of all lines
pub first_of_lines : (kind : FaultKind) (f : List Model → Subckt → List Port) (named models : List Model) (lines : List (Bor Subckt)) (i : ℕ) (word : Option Port) (found : Option Fault) → named ≡ models → lines_now lines ≡ flat_map (λ (m : Model). m.subckts) models → length lines ≤ i → word ≡ earliest (flat_map (f named) (lines_now (take i lines))) → found ≡ option_map (fault_of_port kind) word → found ≡ option_map (fault_of_port kind) (earliest (flat_map (λ (m : Model). flat_map (f models) m.subckts) models))
first_of_lines kind f named models lines i word found same are all is e =
    e ∙ ap (option_map (fault_of_port kind)) (is ∙ ap (λ ls. earliest (flat_map (f named) (lines_now ls))) (take_all i lines all) ∙ ap (λ ls. earliest (flat_map (f named) ls)) are ∙ ap earliest (over_models (f named) models) ∙ ap (λ ms. earliest (flat_map (λ (m : Model). flat_map (f ms) m.subckts) models)) same)

pub if_ok_first : {E : Type 0} (kind : FaultKind) (f : List Model → Subckt → List Port) (named models : List Model) (lines : List (Bor Subckt)) (i : ℕ) (word : Option Port) (r : Result (Option Fault) E) → named ≡ models → lines_now lines ≡ flat_map (λ (m : Model). m.subckts) models → length lines ≤ i → word ≡ earliest (flat_map (f named) (lines_now (take i lines))) → IfOk r (λ found. found ≡ option_map (fault_of_port kind) word) → IfOk r (λ found. found ≡ option_map (fault_of_port kind) (earliest (flat_map (λ (m : Model). flat_map (f models) m.subckts) models)))
if_ok_first kind f named models lines i word r same are all is =
    IfOk-weaker r (λ found. found ≡ option_map (fault_of_port kind) word) (λ found. found ≡ option_map (fault_of_port kind) (earliest (flat_map (λ (m : Model). flat_map (f models) m.subckts) models))) (λ found. first_of_lines kind f named models lines i word found same are all is)
