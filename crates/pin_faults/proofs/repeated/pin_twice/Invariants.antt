use Rattle.std.proofs.Common.{◌≡◌, flat_map, take}
use Rattle.netlist_core.specs.declared.model.Subckt.{Subckt}
use Rattle.netlist_rules.specs.Drivers.{repeats}
use Rattle.netlist_rules.specs.ModelFaults.{earliest, formals_of}
use Rattle.model_words.specs.Words.{earliest_word}
use Rattle.pin_faults.specs.SubcktLines.{lines_now}
use Rattle.pin_faults.proofs.repeated.pin_twice.Given as goal

abbrev pub invariant-loop-line : goal.invariant-loop-line
invariant-loop-line l = earliest_word l.earliest ≡ earliest (flat_map (λ (s : Subckt). repeats (formals_of s)) (lines_now (take l.line-index l.line-items)))
