use Rattle.std.proofs.Common.{◌≡◌, ◌++◌, map, take}
use Rattle.netlist_meaning.specs.FlatOf.{flat_latch}
use Rattle.netlist_flatten.specs.Numbered.{place_at}
use Rattle.netlist_flatten.proofs.latches.push_latches.Given as goal

abbrev pub invariant-loop-latch : goal.invariant-loop-latch
invariant-loop-latch l = l.latches.items ≡ l.initial.latches.items ++ map (flat_latch l.numbers (place_at l.numbers l.at)) (take l.latch-index l.latch-items)
