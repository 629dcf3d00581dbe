use Rattle.loop_check.specs.Tables.{AreFirstsBefore}
use Rattle.loop_check.proofs.table.first_nets.Given as goal

abbrev pub invariant-loop-n : goal.invariant-loop-n
invariant-loop-n l = AreFirstsBefore l.flat l.n l.firsts.items
