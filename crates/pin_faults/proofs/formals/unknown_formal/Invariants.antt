use Rattle.std.proofs.Common.{◌≡◌, flat_map, take}
use Rattle.netlist_rules.specs.ModelFaults.{earliest, unknown_formals}
use Rattle.model_words.specs.Words.{earliest_word}
use Rattle.pin_faults.specs.SubcktLines.{lines_now}
use Rattle.pin_faults.proofs.formals.unknown_formal.Given as goal

abbrev pub invariant-loop-line : goal.invariant-loop-line
invariant-loop-line l = earliest_word l.earliest ≡ earliest (flat_map (unknown_formals l.models) (lines_now (take l.line-index l.line-items)))
