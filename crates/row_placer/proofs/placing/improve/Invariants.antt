use Rattle.std.proofs.Common.{max, length}
use Rattle.row_placer.specs.Placed.{IsPlacedWithin}
use Rattle.row_placer.proofs.placing.improve.Given as goal

abbrev pub invariant-loop-spare : goal.invariant-loop-spare
invariant-loop-spare l = IsPlacedWithin l.list (max l.list.inputs (length l.list.outs)) l.best.program
