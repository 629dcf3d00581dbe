use Rattle.std.proofs.lemmas.Result.{IfOk-weaker}
use Rattle.cell_plans.proofs.choosing.plan_of.Goals as goal

pub returns-clause-admissible : goal.returns-clause-admissible
returns-clause-admissible c = IfOk-weaker c.one_plan.result _ _ (λ plan is. is.admissible) c.one_plan.ensures

pub returns-clause-edges : goal.returns-clause-edges
returns-clause-edges c = IfOk-weaker c.one_plan.result _ _ (λ plan is. is.edges) c.one_plan.ensures

pub returns-clause-starts : goal.returns-clause-starts
returns-clause-starts c = IfOk-weaker c.one_plan.result _ _ (λ plan is. is.starts) c.one_plan.ensures

pub returns-clause-computes : goal.returns-clause-computes
returns-clause-computes c = IfOk-weaker c.one_plan.result _ _ (λ plan is. is.computes) c.one_plan.ensures

pub returns-clause-lanes : goal.returns-clause-lanes
returns-clause-lanes c = IfOk-weaker c.one_plan.result _ _ (λ plan is. is.lanes) c.one_plan.ensures

pub returns-clause-empty : goal.returns-clause-empty
returns-clause-empty c = IfOk-weaker c.one_plan.result _ _ (λ plan is. is.empty) c.one_plan.ensures

pub returns-clause-entries : goal.returns-clause-entries
returns-clause-entries c = IfOk-weaker c.one_plan.result _ _ (λ plan is. is.entries) c.one_plan.ensures

pub returns-clause-exits : goal.returns-clause-exits
returns-clause-exits c = IfOk-weaker c.one_plan.result _ _ (λ plan is. is.exits) c.one_plan.ensures

pub returns-clause-instrs : goal.returns-clause-instrs
returns-clause-instrs c = IfOk-weaker c.one_plan.result _ _ (λ plan is. is.instrs) c.one_plan.ensures

pub returns-clause-columns : goal.returns-clause-columns
returns-clause-columns c = IfOk-weaker c.one_plan.result _ _ (λ plan is. is.columns) c.one_plan.ensures
