use Rattle.std.proofs.Common.{◌≡◌, ◌++◌, map}
use Rattle.std.specs.List.{range_with_len}
use Rattle.cell_core.specs.declared.cells.Src.TheVariants.{Latch}
use Rattle.circuit_plans.proofs.entry.push_loops.Given as goal

abbrev pub invariant-loop-number : goal.invariant-loop-number
invariant-loop-number l = l.sources.items ≡ l.initial.sources.items ++ map Latch (range_with_len 0 l.number)
