use Rattle.cell_plans.proofs.Alike.{small_by}
use Rattle.cell_plans.proofs.planning.planned_by_at.Goals as goal

pub planned_at-requires : goal.planned_at-requires
planned_at-requires c = record { short = small_by c.args.list.now c.args.other.now c.requires.alike c.requires.short }
