use Rattle.std.proofs.Common.{◌≡◌, take}
use Rattle.netlist_meaning.specs.Flat.{names_of_ports}
use Rattle.pattern_reading.specs.Ports.{names_of}
use Rattle.routed_plans.proofs.tables.lines_of.Given as goal

abbrev pub invariant-loop-i : goal.invariant-loop-i
invariant-loop-i l = names_of l.lines.items ≡ take l.i (names_of_ports l.flat l.named)
