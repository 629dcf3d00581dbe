use Rattle.cell_plans.specs.PlanOf.{IsPlanOfOne}
use Rattle.cell_plans.proofs.choosing.best_plain.Given as goal

abbrev pub invariant-loop-number : goal.invariant-loop-number
invariant-loop-number l = IsPlanOfOne l.lists l.best.list l.best.plan
