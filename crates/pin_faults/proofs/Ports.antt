-- The formals of a line that are no ports.
use Rattle.std.proofs.Common.{◌≡◌, refl, sym, ap, ◌∙◌, ℕ, suc, ◌+◌, ◌<◌, List, [], ◌∷◌, ◌++◌, length, filter_map, flat_map, Option, Some, None, arith}
use Rattle.std.proofs.lemmas.List.{length-append, length-map}
use denote.Ref.{Bor}
use Rattle.netlist_core.specs.declared.model.Model.{Model}
use Rattle.netlist_core.specs.declared.model.Pin.{Pin}
use Rattle.netlist_core.specs.declared.model.Port.{Port}
use Rattle.netlist_core.specs.declared.model.Subckt.{Subckt}
use Rattle.netlist_core.specs.Names.{model_named}
use Rattle.netlist_rules.specs.ModelFaults.{formal_if, is_portless, unknown_formals}
use Rattle.model_words.specs.Words.{earliest_after}
use Rattle.model_words.proofs.EarliestWords.{earliest_after-none}
use Rattle.model_words.specs.declared.ports.PortNames.{PortNames}
use Rattle.model_words.specs.Placed.{AreNamesOfPorts, ArePlacedNames, ArePlain, has_port}
use Rattle.pin_faults.specs.NotNamed.{formals_unless}
use Rattle.pin_faults.specs.SubcktLines.{lines_now}

-- where no model has the name
no_formals : (line : ℕ) (pins : List Pin) → filter_map (formal_if (is_portless None) line) pins ≡ []
no_formals line [] = refl
no_formals line (pin ∷ pins) = no_formals line pins

pub unknown_nowhere : (models : List Model) (s : Subckt) → model_named models s.model ≡ None → unknown_formals models s ≡ []
unknown_nowhere models s e = ap (λ o. filter_map (formal_if (is_portless o) s.line) s.pins) e ∙ no_formals s.line s.pins

-- by the names of the model's ports
pub unknown_at : (models : List Model) (s : Subckt) (names : PortNames) (placed : Option Model) (found new : Option Port) → model_named models s.model ≡ placed → ArePlacedNames placed (Some names) →
    ((m : Model) → AreNamesOfPorts names m → new ≡ earliest_after found (formals_unless (λ name. has_port name m) s)) → new ≡ earliest_after found (unknown_formals models s)
unknown_at models s names None found new is none offered = absurd none
unknown_at models s names (Some m) found new is has offered = offered m has ∙ ap (λ o. earliest_after found (filter_map (formal_if (is_portless o) s.line) s.pins)) (sym is)

pub unknown_without : (models : List Model) (s : Subckt) (placed : Option Model) (found : Option Port) → model_named models s.model ≡ placed → ArePlacedNames placed None → found ≡ earliest_after found (unknown_formals models s)
unknown_without models s None found is none = sym (ap (earliest_after found) (unknown_nowhere models s is) ∙ earliest_after-none found)
unknown_without models s (Some m) found is none = absurd none

-- where there are lines, some model has one
no_lines : (models : List Model) → ArePlain models → length (flat_map (λ (m : Model). m.subckts) models) ≡ 0
no_lines [] plain = refl
no_lines (m ∷ models) plain =
    let here : length m.subckts ≡ 0 = plain 0 m (omega arith) in
    let later : length (flat_map (λ (n : Model). n.subckts) models) ≡ 0 = no_lines models (λ k d within. plain (suc k) d (omega arith)) in
    let joined : length (m.subckts ++ flat_map (λ (n : Model). n.subckts) models) ≡ length m.subckts + length (flat_map (λ (n : Model). n.subckts) models) = length-append m.subckts (flat_map (λ (n : Model). n.subckts) models) in
    omega arith

pub placing : (models : List Model) (lines : List (Bor Subckt)) (i : ℕ) → i < length lines → lines_now lines ≡ flat_map (λ (m : Model). m.subckts) models → ¬ ArePlain models
placing models lines i within are plain =
    let many : length (lines_now lines) ≡ length lines = length-map lines (λ (l : Bor Subckt). l.now) in
    let all : length (lines_now lines) ≡ length (flat_map (λ (m : Model). m.subckts) models) = ap length are in
    let none : length (flat_map (λ (m : Model). m.subckts) models) ≡ 0 = no_lines models plain in
    absurd (omega arith)
