use Rattle.cell_plans.proofs.Single.{only}
use Rattle.cell_plans.proofs.choosing.one_plan.Goals as goal

pub returns : goal.returns
returns c = only c.args.list.now c.from_ref.result.now c.in_ok-chosen.chosen.list c.in_ok-chosen.chosen.plan c.from_ref.ensures.value c.in_ok-chosen.ensures
