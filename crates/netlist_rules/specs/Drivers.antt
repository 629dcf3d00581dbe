-- What drives the nets of a model, and what reads them, each with its line.
use Rattle.std.specs.Prelude.{ℕ, Bool, false, not, ◌&&◌, ◌||◌, nat_le, nat_lt, List, [], ◌∷◌, ◌++◌, map, Option, option_to_list, filter_map, flat_map}
use Rattle.std.specs.Bool.{then_some}
use Rattle.std.specs.Option.{option_map_or}
use Rattle.std.specs.List.{list_any}
use Rattle.netlist_core.specs.declared.model.Port.{Port}
use Rattle.netlist_core.specs.declared.model.Pin.{Pin}
use Rattle.netlist_core.specs.declared.model.Cover.{Cover}
use Rattle.netlist_core.specs.declared.model.LatchRow.{LatchRow}
use Rattle.netlist_core.specs.declared.model.Subckt.{Subckt}
use Rattle.netlist_core.specs.declared.model.Model.{Model}
use Rattle.netlist_core.specs.Names.{at_line, has_name, is_named, model_named}

-- whether q is the same name as p, on a line up to that of p; on a line before it
abbrev pub same_name_up_to : Port → Port → Bool
same_name_up_to p q = has_name p.name q && nat_le q.line p.line

abbrev pub same_name_before : Port → Port → Bool
same_name_before p q = has_name p.name q && nat_lt q.line p.line

-- whether the name stands earlier: on an earlier line, or on the same line earlier in the list
abbrev pub stands_earlier : List Port → Port → List Port → Bool
stands_earlier before p after =
    list_any (same_name_up_to p) before || list_any (same_name_before p) after

-- A list is cut into the names before and the names after: these are the names after that stand
-- earlier too, and those that do not.
abbrev pub repeats_after : List Port → List Port → List Port
repeats_after before [] = []
repeats_after before (p ∷ after) =
    option_to_list (then_some (stands_earlier before p after) p) ++ repeats_after (p ∷ before) after

abbrev pub firsts_after : List Port → List Port → List Port
firsts_after before [] = []
firsts_after before (p ∷ after) =
    option_to_list (then_some (not (stands_earlier before p after)) p)
    ++ firsts_after (p ∷ before) after

-- the names of a list that stand earlier too; the first of each name
abbrev pub repeats : List Port → List Port
repeats ports = repeats_after [] ports

abbrev pub firsts : List Port → List Port
firsts ports = firsts_after [] ports

-- A `.clock` name counts among the inputs, and a name in `.inputs` and `.clock` is one input, where
-- it first stands.
abbrev pub inputs_of : Model → List Port
inputs_of m = firsts (m.ins ++ m.clocks)

-- what a formal is in the model that a subckt line names: an input, an output, or unknown
abbrev pub has_input : List ℕ → Model → Bool
has_input name m = is_named (m.ins ++ m.clocks) name

abbrev pub has_output : List ℕ → Model → Bool
has_output name m = is_named m.outs name

abbrev pub is_input_pin : Option Model → Pin → Bool
is_input_pin placed pin = option_map_or (has_input pin.formal) placed false

abbrev pub is_output_pin : Option Model → Pin → Bool
is_output_pin placed pin = option_map_or (has_output pin.formal) placed false

-- whether the model or the formal of a pin is unknown
abbrev pub is_unknown_pin : Option Model → Pin → Bool
is_unknown_pin placed pin = not (is_input_pin placed pin || is_output_pin placed pin)

-- the actuals of the pins of one kind, with their lines
abbrev pub actual_if : (Pin → Bool) → ℕ → Pin → Option Port
actual_if test line pin = then_some (test pin) (at_line line pin.actual)

abbrev pub actuals_on : List Model → (Option Model → Pin → Bool) → Subckt → List Port
actuals_on models test s = filter_map (actual_if (test (model_named models s.model)) s.line) s.pins

abbrev pub actuals : List Model → (Option Model → Pin → Bool) → Model → List Port
actuals models test m = flat_map (actuals_on models test) m.subckts

-- The drivers of a model's nets: its inputs, a cover's output, a latch's output, the actual of an
-- output formal.
abbrev pub cover_output : Cover → Port
cover_output c = at_line c.line c.out

abbrev pub latch_output : LatchRow → Port
latch_output l = at_line l.line l.output

abbrev pub drivers_of : List Model → Model → List Port
drivers_of models m =
    inputs_of m ++ map cover_output m.covers ++ map latch_output m.latches
    ++ actuals models is_output_pin m

-- The readings of a model's nets: a cover's input, a latch's data or control, the actual of an
-- input formal, a name in `.outputs`.
abbrev pub cover_readings : Cover → List Port
cover_readings c = map (at_line c.line) c.ins

abbrev pub latch_readings : LatchRow → List Port
latch_readings l = at_line l.line l.input ∷ map (at_line l.line) (option_to_list l.control)

abbrev pub readings_of : List Model → Model → List Port
readings_of models m =
    m.outs ++ flat_map cover_readings m.covers ++ flat_map latch_readings m.latches
    ++ actuals models is_input_pin m
