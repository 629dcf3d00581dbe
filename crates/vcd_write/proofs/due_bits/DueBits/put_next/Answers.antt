use Rattle.std.proofs.Common.{◌+◌, ◌*◌, ◌≤◌, arith}
use Rattle.vcd_write.proofs.due_bits.DueBits.put_next.Goals as goal

pub overflow_add-bit : goal.overflow_add-bit
overflow_add-bit c =
    let bit = c.args.bit in
    let raster = c.args.raster.now in
    let more = c.if-raster-bit.false in
    let place = c.requires.place in
    let early : bit.generation + 1 * raster.period ≤ raster.last = c.requires.early 1 (omega (arith, more, place)) in
    omega (arith, early, c.fits-raster)
