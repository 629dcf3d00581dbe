use Rattle.std.proofs.Common.{subst}
use Rattle.lane_kernel.proofs.Places.{Fit}
use Rattle.band_rows.proofs.GoneOn.{gone_one}
use Rattle.band_rows.proofs.field.Field.step_alone.Goals as goal

pub returns : goal.returns
returns c = gone_one c.args.self.now c.step.new.self (subst Fit c.deref.ensures.value c.all_fit.ensures) c.requires.closed c.step.ensures.stepped
