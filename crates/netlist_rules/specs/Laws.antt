-- Laws of the rules on models: what the first fault is, that there is one or none, and what models
-- without a fault have.
use Rattle.std.specs.Prelude.{◌≡◌, ◌≢◌, ℕ, ◌<◌, ◌⊎◌, ◌↔◌, List, [], ◌∷◌, ◌++◌, map, bytes_eq, Contains, flat_map, ◌≤◌, Some, None}
use Rattle.std.specs.List.{AllByRecursion, IsDistinct}
use Rattle.netlist_core.specs.declared.model.Port.{Port}
use Rattle.netlist_core.specs.declared.model.Pin.{Pin}
use Rattle.netlist_core.specs.declared.model.Subckt.{Subckt}
use Rattle.netlist_core.specs.declared.model.Model.{Model}
use Rattle.netlist_rules.specs.declared.fault.Fault.{Fault}
use Rattle.netlist_rules.specs.declared.fault.FaultKind.{FaultKind}
use Rattle.netlist_rules.specs.FaultNames.{number_of}
use Rattle.netlist_core.specs.Names.{at_line}
use Rattle.netlist_rules.specs.Circles.{Leads}
use Rattle.netlist_rules.specs.ModelFaults.{model_fault, words_at_fault, AreFaultless, HasModelFault}

-- the port is the earliest of a list: those before it in the list stand on later lines, and those
-- after it on no earlier line
pub record IsEarliest (ports : List Port) (p : Port) : Type 0 where
  pub front : List Port
  pub back : List Port
  pub are_ports : ports ≡ front ++ p ∷ back
  pub front_later : AllByRecursion (λ (q : Port). p.line < q.line) front
  pub back_no_earlier : AllByRecursion (λ (q : Port). p.line ≤ q.line) back

-- all words at which the models break a rule
abbrev pub all_words_at_fault : FaultKind → List Model → List Port
all_words_at_fault kind models = flat_map (words_at_fault kind models) models

-- The fault is by the lowest rule that the models break, at the earliest word that breaks it.
pub record IsFirstModelFault (models : List Model) (fault : Fault) : Type 0 where
  pub some_model : models ≢ []
  pub is_earliest : IsEarliest (all_words_at_fault fault.kind models)
      (at_line fault.line fault.word)
  pub is_lowest : (kind : FaultKind) → number_of kind < number_of fault.kind
      → all_words_at_fault kind models ≡ []

-- Models, if there are any, have no such fault exactly if they break no rule at any word.
abbrev pub NoModelFault : Type 0
NoModelFault =
    (models : List Model) → models ≢ [] → (model_fault models ≡ None)
    ↔ ((kind : FaultKind) → all_words_at_fault kind models ≡ [])

abbrev pub ModelFaultIsFirst : Type 0
ModelFaultIsFirst =
    (models : List Model) (fault : Fault) → ((model_fault models ≡ Some fault) × (models ≢ []))
    ↔ IsFirstModelFault models fault

-- Models break no rule on models, or have a fault by one.
abbrev pub FaultlessOrFault : Type 0
FaultlessOrFault =
    (models : List Model) → AreFaultless models ⊎ ((f : Fault) × HasModelFault models f)

-- In models without a fault, the pins of a subckt line have distinct formals.
abbrev pub FormalsAreDistinct : Type 0
FormalsAreDistinct =
    (models : List Model) → AreFaultless models → (m : Model) (s : Subckt) → Contains models m
    → Contains m.subckts s → IsDistinct bytes_eq (map (λ (pin : Pin). pin.formal) s.pins)

-- In models without a fault, none leads back to itself by subckt lines.
abbrev pub NoModelIsInItself : Type 0
NoModelIsInItself =
    (models : List Model) → AreFaultless models → (name : List ℕ) (names : List (List ℕ))
    → ¬ (Leads models name names name)
