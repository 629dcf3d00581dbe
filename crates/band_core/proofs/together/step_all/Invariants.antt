use Rattle.band_core.proofs.MovedOn.{HaveFirstMovedOn}
use Rattle.band_core.proofs.together.step_all.Given as goal

abbrev pub invariant-loop-b : goal.invariant-loop-b
invariant-loop-b l = HaveFirstMovedOn l.b l.columns l.height l.rows l.fn.bands l.bands
