use Rattle.std.proofs.Common.{subst}
use Rattle.lane_kernel.proofs.Places.{Fit}
use Rattle.band_rows.proofs.FieldSteps.{field_shows}
use Rattle.band_rows.proofs.field.Field.step.Goals as goal

pub returns-then-self-len-clause-shows : goal.returns-then-self-len-clause-shows
returns-then-self-len-clause-shows c =
    field_shows c.args.self.now c.step_by_list.new.self c.requires.is c.requires.on_cells (subst Fit c.deref.ensures.value c.all_fit.ensures) c.step_by_list.ensures

pub returns-clause-shows : goal.returns-clause-shows
returns-clause-shows c =
    field_shows c.args.self.now c.step_by_plane.new.self c.requires.is c.requires.on_cells (subst Fit c.deref.ensures.value c.all_fit.ensures) c.step_by_plane.ensures
