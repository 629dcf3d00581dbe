use Rattle.std.proofs.Common.{◌+◌, ◌-◌, arith}
use Rattle.lane_kernel.proofs.Four.{loaded}
use Rattle.lane_kernel.proofs.lanes.lanes_across.Goals as goal

pub returns-clause-before : goal.returns-clause-before
returns-clause-before c = loaded (c.args.j - c.args.stride) c.args.plane.now (omega (arith, c.requires.from, c.requires.to))

pub returns-clause-here : goal.returns-clause-here
returns-clause-here c = loaded c.args.j c.args.plane.now (omega (arith, c.requires.to))

pub returns-clause-after : goal.returns-clause-after
returns-clause-after c = loaded (c.args.j + c.args.stride) c.args.plane.now (omega (arith, c.requires.to))
