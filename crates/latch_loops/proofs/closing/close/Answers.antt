use Rattle.std.proofs.Common.{length}
use Rattle.latch_loops.proofs.Limits.{closed_more}
use Rattle.latch_loops.proofs.closing.close.Goals as goal

pub returns-clause-closed : goal.returns-clause-closed
returns-clause-closed c =
    closed_more c.args.program.now c.args.columns.items (length c.args.starts.now) c.in_ok-bare.bare c.in_ok-plan.plan c.in_ok-bare.ensures.closed c.in_ok-plan.ensures.padded
