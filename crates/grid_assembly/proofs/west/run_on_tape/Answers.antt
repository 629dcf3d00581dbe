use Rattle.std.proofs.Common.{arith}
use Rattle.grid_assembly.proofs.Near.{shift_near}
use Rattle.grid_assembly.proofs.west.run_on_tape.Goals as goal

pub wire_run-requires-clause-near : goal.wire_run-requires-clause-near
wire_run-requires-clause-near c = omega (arith, c.requires.west, shift_near c.args.plan.now c.requires.admissible)
