use Rattle.std.specs.Int.RustNames.{bit_or, bit_xor}
use Rattle.lane_kernel.proofs.Four.{given, zip}
use Rattle.lane_kernel.proofs.lanes.new_wires_lanes.Goals as goal

pub returns : goal.returns
returns c = zip bit_or (zip bit_xor (given c.args.wires c.requires.wires) (given c.args.new_heads c.requires.new_heads)) (given c.args.tails c.requires.tails)
