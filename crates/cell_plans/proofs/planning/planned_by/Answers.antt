use Rattle.cell_plans.proofs.Alike.{small_by}
use Rattle.cell_plans.proofs.planning.planned_by.Goals as goal

pub planned-requires : goal.planned-requires
planned-requires c = record { short = small_by c.args.list.now c.args.other.now c.requires.alike c.requires.short }
