-- The rules on models, 22 and 12 to 19, which are checked if no line breaks a rule.
use Rattle.std.specs.Prelude.{◌||◌, ◌≡◌, ℕ, Bool, false, not, cond, nat_le, List, [], ◌∷◌, ◌++◌, map, codes, ◌⊎◌, Option, Some, None, option_map, option_to_list, filter_map, flat_map}
use Rattle.std.specs.List.{list_any}
use Rattle.std.specs.Bool.{then_some}
use Rattle.std.specs.Option.{option_or, option_map_or}
use Rattle.netlist_core.specs.declared.model.Port.{Port}
use Rattle.netlist_core.specs.declared.model.Pin.{Pin}
use Rattle.netlist_core.specs.declared.model.Subckt.{Subckt}
use Rattle.netlist_core.specs.declared.model.Model.{Model}
use Rattle.netlist_rules.specs.declared.fault.Fault.{Fault}
use Rattle.netlist_rules.specs.declared.fault.FaultKind.{FaultKind}
use Rattle.netlist_rules.specs.declared.fault.FaultKind.TheVariants.{DuplicatePort, MultipleDrivers, Undriven, NoSuchModel, NoSuchPin, PinTwice, PinMissing, NoModel}
use Rattle.netlist_rules.specs.FaultNames.{fault_on}
use Rattle.netlist_core.specs.Names.{at_line, is_named, model_named}
use Rattle.netlist_rules.specs.Drivers.{same_name_before, same_name_up_to, stands_earlier, repeats, has_input, has_output, is_unknown_pin, actuals, drivers_of, readings_of}
use Rattle.netlist_rules.specs.Circles.{IsOnCircle, IsCircleFault}

-- 12: a name stands twice in `.inputs`, twice in `.clock`, twice in `.outputs`, or among the inputs
-- and in `.outputs`. A list is cut into the names before and the names after: these are the names
-- after that stand earlier in it, or pass the test.
abbrev pub doubles_after : (Port → Bool) → List Port → List Port → List Port
doubles_after test before [] = []
doubles_after test before (p ∷ after) =
    option_to_list (then_some (stands_earlier before p after || test p) p)
    ++ doubles_after test (p ∷ before) after

-- whether an input stands in `.outputs` on an earlier line; whether an output stands among the
-- inputs up to its line
abbrev pub is_output_before : Model → Port → Bool
is_output_before m p = list_any (same_name_before p) m.outs

abbrev pub is_input_by_then : Model → Port → Bool
is_input_by_then m p = list_any (same_name_up_to p) (m.ins ++ m.clocks)

abbrev pub duplicate_ports : Model → List Port
duplicate_ports m =
    doubles_after (is_output_before m) [] m.ins ++ doubles_after (is_output_before m) [] m.clocks
    ++ doubles_after (is_input_by_then m) [] m.outs

-- 13: a net has two drivers
abbrev pub second_drivers : List Model → Model → List Port
second_drivers models m = repeats (drivers_of models m)

-- the name, unless it is in the list
abbrev pub unless_named : List Port → Port → Option Port
unless_named drivers p = then_some (not (is_named drivers p.name)) p

-- 14: a net is read and has no driver; here a pin whose model or formal is unknown counts as a
-- driver
abbrev pub undriven_readings : List Model → Model → List Port
undriven_readings models m =
    filter_map (unless_named (drivers_of models m ++ actuals models is_unknown_pin m))
    (readings_of models m)

-- 15: a subckt line names no model
abbrev pub unplaced : Option Model → Subckt → List Port
unplaced None s = at_line s.line s.model ∷ []
unplaced (Some placed) s = []

abbrev pub missing_model : List Model → Subckt → List Port
missing_model models s = unplaced (model_named models s.model) s

-- 16: a formal is no port of its model
abbrev pub lacks_port : List ℕ → Model → Bool
lacks_port name m = not (has_input name m || has_output name m)

abbrev pub is_portless : Option Model → Pin → Bool
is_portless placed pin = option_map_or (lacks_port pin.formal) placed false

abbrev pub formal_if : (Pin → Bool) → ℕ → Pin → Option Port
formal_if test line pin = then_some (test pin) (at_line line pin.formal)

abbrev pub unknown_formals : List Model → Subckt → List Port
unknown_formals models s =
    filter_map (formal_if (is_portless (model_named models s.model)) s.line) s.pins

-- 17: a subckt line names a formal twice
abbrev pub formals_of : Subckt → List Port
formals_of s = map (λ (pin : Pin). at_line s.line pin.formal) s.pins

-- 18: an input formal has no pin; the word is the first such formal, in the order of the model's
-- own text
abbrev pub earlier_of : Port → Option Port → Option Port
earlier_of p None = Some p
earlier_of p (Some q) = Some (cond (nat_le p.line q.line) p q)

-- the port on the earliest line, and on one line the first
abbrev pub earliest : List Port → Option Port
earliest [] = None
earliest (p ∷ ports) = earlier_of p (earliest ports)

abbrev pub unpinned_inputs : Subckt → Model → List Port
unpinned_inputs s placed = filter_map (unless_named (formals_of s)) (placed.ins ++ placed.clocks)

abbrev pub on_line : ℕ → Port → Port
on_line line p = at_line line p.name

abbrev pub missing_pin : List Model → Subckt → List Port
missing_pin models s =
    map (on_line s.line) (option_to_list
    (option_map_or (λ (placed : Model). earliest (unpinned_inputs s placed))
    (model_named models s.model) None))

-- the words at which a model breaks this rule, with their lines; words of one line stand in its
-- order, since each list of a model does
abbrev pub words_at_fault : FaultKind → List Model → Model → List Port
words_at_fault DuplicatePort models m = duplicate_ports m
words_at_fault MultipleDrivers models m = second_drivers models m
words_at_fault Undriven models m = undriven_readings models m
words_at_fault NoSuchModel models m = flat_map (missing_model models) m.subckts
words_at_fault NoSuchPin models m = flat_map (unknown_formals models) m.subckts
words_at_fault PinTwice models m = flat_map (λ (s : Subckt). repeats (formals_of s)) m.subckts
words_at_fault PinMissing models m = flat_map (missing_pin models) m.subckts
words_at_fault _ models m = []

-- the rules on models but the one on circles, in the order of their numbers
abbrev pub model_rules : List FaultKind
model_rules =
    DuplicatePort ∷ MultipleDrivers ∷ Undriven ∷ NoSuchModel ∷ NoSuchPin ∷ PinTwice ∷ PinMissing
    ∷ []

abbrev pub fault_of_port : FaultKind → Port → Fault
fault_of_port kind p = fault_on kind p.line p.name

abbrev pub first_broken_by : List FaultKind → List Model → Option Fault
first_broken_by [] models = None
first_broken_by (kind ∷ kinds) models =
    option_or (option_map (fault_of_port kind)
    (earliest (flat_map (words_at_fault kind models) models))) (first_broken_by kinds models)

-- 22: there is no model, so the text has no logical line
abbrev pub no_model : List Model → Option Fault
no_model [] = Some (fault_on NoModel 1 (codes "-"))
no_model (m ∷ models) = None

-- The fault by the lowest rule that the models break, the rule on circles aside, at the earliest
-- word that breaks it.
abbrev pub model_fault : List Model → Option Fault
model_fault models = option_or (no_model models) (first_broken_by model_rules models)

-- The fault of a list of models: by the lowest rule that they break, where the rule on circles
-- comes last.
abbrev pub HasModelFault : List Model → Fault → Type 0
HasModelFault models fault =
    (model_fault models ≡ Some fault) ⊎ ((model_fault models ≡ None) × IsCircleFault models fault)

-- The models break no rule on models.
pub record AreFaultless (models : List Model) : Type 0 where
  pub no_fault : model_fault models ≡ None
  pub no_circle : (line : ℕ) (names : List (List ℕ)) → ¬ (IsOnCircle models line names)
