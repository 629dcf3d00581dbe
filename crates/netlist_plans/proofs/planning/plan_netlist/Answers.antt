use Rattle.std.proofs.Common.{◌∙◌}
use Rattle.std.proofs.lemmas.Result.{err_from_is_err_and}
use Rattle.netlist_plans.proofs.planning.plan_netlist.Goals as goal

pub of_plan-requires-clause-in_range : goal.of_plan-requires-clause-in_range
of_plan-requires-clause-in_range c = c.requires.compilable.sound.in_range

pub of_plan-requires-clause-ports : goal.of_plan-requires-clause-ports
of_plan-requires-clause-ports c = c.in_ok-plan.ensures.ports

pub returns-in_err-plan : goal.returns-in_err-plan
returns-in_err-plan c =
    let p = (err_from_is_err_and c.from_residual.result c.from_residual.ensures.1).1 in
    record { admissible = rw p tt; edges = rw p tt; bare = rw p tt; planned = rw p tt; table = rw p tt; carries = rw p tt; small = rw p tt; cells = rw p tt; lanes = rw p tt; places = rw p tt; period = rw p tt; at_zero = rw p tt }

pub returns-clause-admissible : goal.returns-clause-admissible
returns-clause-admissible c = c.in_ok-plan.ensures.planned.is.admissible

pub returns-clause-carries : goal.returns-clause-carries
returns-clause-carries c = c.in_ok-plan.ensures.carries c.in-Ok.ports c.in-Ok.ensures

pub returns-clause-small : goal.returns-clause-small
returns-clause-small c = c.in_ok-plan.ensures.small

pub returns-clause-cells : goal.returns-clause-cells
returns-clause-cells c = c.in_ok-plan.ensures.cells

pub returns-clause-lanes : goal.returns-clause-lanes
returns-clause-lanes c = c.in_ok-plan.ensures.lanes

pub returns-clause-places : goal.returns-clause-places
returns-clause-places c = c.in_ok-plan.ensures.places

pub returns-clause-period : goal.returns-clause-period
returns-clause-period c none e = c.in-Ok.ensures.period ∙ c.in_ok-plan.ensures.period none e

pub returns-clause-at_zero : goal.returns-clause-at_zero
returns-clause-at_zero c spares = c.in-Ok.ensures.period ∙ c.in_ok-plan.ensures.at_zero spares
