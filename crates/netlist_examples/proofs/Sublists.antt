-- The words at fault stand in the order of the models' own lists.
use Rattle.std.proofs.Common.{ℕ, List, [], ◌∷◌, ◌++◌, map, Bool, true, false, ◌||◌, not}
use Rattle.std.specs.Prelude.{filter_map, option_to_list}
use Rattle.std.specs.Bool.{then_some}
use Rattle.std.specs.List.{cons_option}
use Rattle.netlist_core.specs.declared.model.Port.{Port}
use Rattle.netlist_core.specs.declared.model.Pin.{Pin}
use Rattle.netlist_core.specs.Names.{at_line, model_named, is_named}
use Rattle.netlist_rules.specs.Drivers.{stands_earlier, repeats_after, drivers_of, readings_of, actuals, is_unknown_pin}
use Rattle.netlist_rules.specs.ModelFaults.{doubles_after, is_output_before, is_input_by_then, unless_named, formal_if, formals_of, is_portless}
use Rattle.netlist_examples.specs.DesignLaws.{IsSublist, WordsKeepOrder}
use Rattle.netlist_examples.specs.DesignLaws.IsSublist.{nothing, without, with}

kept_if : (b : Bool) (p : Port) (some all : List Port) → IsSublist some all → IsSublist (option_to_list (then_some b p) ++ some) (p ∷ all)
kept_if true p some all s = with s
kept_if false p some all s = without s

joined : (a b c d : List Port) → IsSublist a b → IsSublist c d → IsSublist (a ++ c) (b ++ d)
joined a b c d nothing t = t
joined a b c d (without s) t = without (joined _ _ c d s t)
joined a b c d (with s) t = with (joined _ _ c d s t)

doubles_in : (test : Port → Bool) (before ports : List Port) → IsSublist (doubles_after test before ports) ports
doubles_in test before [] = nothing
doubles_in test before (p ∷ after) = kept_if (stands_earlier before p after || test p) p (doubles_after test (p ∷ before) after) after (doubles_in test (p ∷ before) after)

repeats_in : (before ports : List Port) → IsSublist (repeats_after before ports) ports
repeats_in before [] = nothing
repeats_in before (p ∷ after) = kept_if (stands_earlier before p after) p (repeats_after (p ∷ before) after) after (repeats_in (p ∷ before) after)

chosen_if : (b : Bool) (p : Port) (some all : List Port) → IsSublist some all → IsSublist (cons_option (then_some b p) some) (p ∷ all)
chosen_if true p some all s = with s
chosen_if false p some all s = without s

unless_in : (names ports : List Port) → IsSublist (filter_map (unless_named names) ports) ports
unless_in names [] = nothing
unless_in names (p ∷ ports) = chosen_if (not (is_named names p.name)) p (filter_map (unless_named names) ports) ports (unless_in names ports)

formals_in : (test : Pin → Bool) (line : ℕ) (pins : List Pin) → IsSublist (filter_map (formal_if test line) pins) (map (λ (pin : Pin). at_line line pin.formal) pins)
formals_in test line [] = nothing
formals_in test line (pin ∷ pins) = chosen_if (test pin) (at_line line pin.formal) (filter_map (formal_if test line) pins) (map (λ (q : Pin). at_line line q.formal) pins) (formals_in test line pins)

pub words_keep_order : WordsKeepOrder
words_keep_order = record {
  ports = λ m. joined _ _ _ _ (joined _ _ _ _ (doubles_in (is_output_before m) [] m.ins) (doubles_in (is_output_before m) [] m.clocks)) (doubles_in (is_input_by_then m) [] m.outs);
  drivers = λ models m. repeats_in [] (drivers_of models m);
  readings = λ models m. unless_in (drivers_of models m ++ actuals models is_unknown_pin m) (readings_of models m);
  formals = λ models s. formals_in (is_portless (model_named models s.model)) s.line s.pins;
  formals_twice = λ s. repeats_in [] (formals_of s);
}
