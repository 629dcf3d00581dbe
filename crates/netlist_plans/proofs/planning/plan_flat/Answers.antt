use Rattle.std.proofs.lemmas.Result.{IfOk-weaker}
use Rattle.plan_carries.proofs.Carried.{starts_as_flat}
use Rattle.plan_carries.proofs.Written.{texts_carry_flats}
use Rattle.netlist_plans.proofs.Bounds.{is_small, computes_cells, loops_many, short_period}
use Rattle.netlist_plans.proofs.Compiled.{planned_compiled, planned_ports}
use Rattle.netlist_plans.proofs.Lanes.{has_lanes}
use Rattle.netlist_plans.proofs.NetPlaces.{net_places}
use Rattle.netlist_plans.proofs.Sparing.{short}
use Rattle.netlist_plans.proofs.planning.plan_flat.Goals as goal

pub returns-clause-ports : goal.returns-clause-ports
returns-clause-ports c = IfOk-weaker c.plan_of_cells.result _ _ (λ plan p. planned_ports c.args.flat.now plan p) c.plan_of_cells.ensures.planned

pub returns-clause-carries : goal.returns-clause-carries
returns-clause-carries c = IfOk-weaker c.plan_of_cells.result _ _ (λ plan p ports table.
    texts_carry_flats c.args.flat.now p.list plan ports (planned_compiled c.args.flat.now c.args.order.now.nodes plan ports c.requires.compilable p table)
    (starts_as_flat c.args.flat.now p.list plan p.computes p.is.starts)) c.plan_of_cells.ensures.planned

pub returns-clause-small : goal.returns-clause-small
returns-clause-small c = IfOk-weaker c.plan_of_cells.result _ _ (λ plan p.
    is_small c.args.flat.now p.list p.computes.mapped c.requires.weighed plan p.is.admissible p.is.computes p.is.lanes p.is.columns p.is.instrs) c.plan_of_cells.ensures.planned

pub returns-clause-cells : goal.returns-clause-cells
returns-clause-cells c = IfOk-weaker c.plan_of_cells.result _ _ (λ plan p.
    computes_cells c.args.flat.now p.list p.computes.mapped c.requires.weighed plan p.is.admissible p.is.computes p.is.starts p.is.entries p.is.exits) c.plan_of_cells.ensures.planned

pub returns-clause-lanes : goal.returns-clause-lanes
returns-clause-lanes c = IfOk-weaker c.plan_of_cells.result _ _ (λ plan p.
    has_lanes c.args.flat.now p.list p.computes.mapped plan p.is.admissible p.is.computes c.requires.compilable.sound c.requires.weighed p.is.empty) c.plan_of_cells.ensures.planned

pub returns-clause-places : goal.returns-clause-places
returns-clause-places c = IfOk-weaker c.plan_of_cells.result _ _ (λ plan p.
    net_places c.args.flat.now p.list p.computes.mapped plan (loops_many c.args.flat.now p.list p.computes.mapped c.requires.weighed plan p.is.admissible p.is.computes)
    p.is.entries p.is.exits) c.plan_of_cells.ensures.planned

pub returns-clause-period : goal.returns-clause-period
returns-clause-period c = IfOk-weaker c.plan_of_cells.result _ _ (λ plan p none e.
    short_period c.args.flat.now p.list p.computes.mapped c.requires.weighed plan p.is.admissible p.is.computes none e) c.plan_of_cells.ensures.planned

pub returns-clause-at_zero : goal.returns-clause-at_zero
returns-clause-at_zero c = IfOk-weaker c.plan_of_cells.result _ _ (λ plan spared spares. short plan (spared spares)) c.plan_of_cells.ensures.spares
