use Rattle.std.proofs.lemmas.Result.{on_ok_weaker}
use Rattle.clock_check.proofs.Faults.{no_clock_fault}
use Rattle.clock_check.proofs.check.check_clock.Goals as goal

pub returns-clause-none : goal.returns-clause-none
returns-clause-none c = on_ok_weaker c.check_uses.result (no_clock_fault c.args.flat.now c.in_ok-check_latches.ensures.one) c.check_uses.ensures.unused
