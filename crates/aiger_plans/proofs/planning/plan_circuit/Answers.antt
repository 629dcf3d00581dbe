use Rattle.std.proofs.Common.{arith}
use Rattle.aiger_plans.proofs.Named.{port_names, table_places}
use Rattle.aiger_plans.proofs.OfFlat.{is_plan}
use Rattle.aiger_plans.proofs.planning.plan_circuit.Goals as goal

pub plan_netlist-requires-clause-compilable : goal.plan_netlist-requires-clause-compilable
plan_netlist-requires-clause-compilable c =
    let flat = c.in_ok-lowered.lowered.flat in
    let e = c.in_ok-lowered.ensures in
    record {
      sound = e.lowered.sound;
      ordered = e.order;
      named = e.lowered.named;
      names = port_names c.args.aig.now flat e.lowered c.requires;
      places = table_places c.args.aig.now flat e.lowered;
    }

pub plan_netlist-requires-clause-small : goal.plan_netlist-requires-clause-small
plan_netlist-requires-clause-small c = omega (arith, c.in_ok-lowered.ensures.lowered.weight, c.in_ok-lowered.ensures.light)

pub returns-in-Ok-clause-plan : goal.returns-in-Ok-clause-plan
returns-in-Ok-clause-plan c =
    let made = c.in-Ok.ensures in
    is_plan c.args.aig.now c.in_ok-lowered.lowered.flat c.in_ok-lowered.lowered.order.nodes c.requires c.in_ok-lowered.ensures.is_flat c.in_ok-lowered.ensures.lowered
    c.in_ok-lowered.ensures.order c.in-Ok.planned.plan c.in-Ok.planned.ports made.admissible made.edges made.bare made.planned made.small made.table made.period made.at_zero made.carries

pub returns-clause-refused : goal.returns-clause-refused
returns-clause-refused c = tt
