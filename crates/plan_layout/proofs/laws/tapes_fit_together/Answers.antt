use Rattle.plan_layout.proofs.TapesFit.{fits_together}
use Rattle.plan_layout.proofs.laws.tapes_fit_together.Goals as goal

pub returns : goal.returns
returns c = fits_together
