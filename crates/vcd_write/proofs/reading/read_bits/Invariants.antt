use Rattle.std.proofs.Common.{◌+◌}
use Rattle.vcd_write.proofs.DueSteps.{Progress, left}
use Rattle.vcd_write.proofs.reading.read_bits.Given as goal

abbrev pub invariant-bits : goal.invariant-bits
invariant-bits l = Progress l.raster l.fn.first.items l.fn.run l.run l.due l.bits

abbrev pub decreases-bits : goal.decreases-bits
decreases-bits l = left l.raster.bits l.due.unbegun.items + left l.raster.bits l.due.begun.items
