use Rattle.loop_check.specs.Tables.{IsTableBefore}
use Rattle.loop_check.proofs.table.drivers.Given as goal

abbrev pub invariant-loop-n : goal.invariant-loop-n
invariant-loop-n l = IsTableBefore l.flat l.n l.table.items
