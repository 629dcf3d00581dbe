use Rattle.std.proofs.Common.{subst, Option}
use Rattle.std.specs.Prelude.{IfSome}
use Rattle.route_lines.specs.GateLines.{AreGateLines}
use Rattle.routed_plans.specs.declared.routes.Routed.{Routed}
use Rattle.routed_plans.specs.Carried.{IsRoutedFor}
use Rattle.wwroute_tool.proofs.Drawings.{compilable, lanes_show, lanes_told, routed_told, weighed_of}
use Rattle.netlist_text.proofs.SoundParts.{small}
use Rattle.wwroute_tool.proofs.route.drawn.Goals as goal

pub route_netlist-requires-clause-compilable : goal.route_netlist-requires-clause-compilable
route_netlist-requires-clause-compilable c = compilable c.args.netlist.now.design c.args.netlist.now.flat _ c.requires.parts c.requires.names

pub route_netlist-requires-clause-weighed : goal.route_netlist-requires-clause-weighed
route_netlist-requires-clause-weighed c = weighed_of c.args.netlist.now.design c.args.netlist.now.flat _ c.requires.parts

pub plan_netlist-requires-clause-compilable : goal.plan_netlist-requires-clause-compilable
plan_netlist-requires-clause-compilable c = compilable c.args.netlist.now.design c.args.netlist.now.flat _ c.requires.parts c.requires.names

pub plan_netlist-requires-clause-weighed : goal.plan_netlist-requires-clause-weighed
plan_netlist-requires-clause-weighed c = weighed_of c.args.netlist.now.design c.args.netlist.now.flat _ c.requires.parts

pub plan_netlist-requires-clause-small : goal.plan_netlist-requires-clause-small
plan_netlist-requires-clause-small c = small c.args.netlist.now.design c.args.netlist.now.flat _ c.requires.parts

pub returns-clause-shows : goal.returns-clause-shows
returns-clause-shows c =
    lanes_show c.args.netlist.now.design c.args.netlist.now.flat _ c.requires.parts c.in_ok-planned.planned.plan c.in_ok-planned.planned.ports c.args.nets c.in_ok-planned.ensures.carries

pub returns-clause-tells : goal.returns-clause-tells
returns-clause-tells c =
    lanes_told c.args.netlist.now.design c.args.netlist.now.flat _ c.requires.parts c.in_ok-planned.planned.plan c.in_ok-planned.planned.ports c.requires.names c.in_ok-planned.ensures.admissible c.in_ok-planned.ensures.table

pub returns-then-is_no_plan-clause-tells : goal.returns-then-is_no_plan-clause-tells
returns-then-is_no_plan-clause-tells c =
    let flat = c.args.netlist.now.flat in
    routed_told flat c.in-Some.routed
    (subst (λ (o : Option Routed). IfSome o (IsRoutedFor flat)) c.in-Some.is c.in_ok-routed.ensures.routed)
    (subst (λ (o : Option Routed). IfSome o (λ routed. AreGateLines routed.lines)) c.in-Some.is c.in_ok-routed.ensures.lines)
    (c.is_no_plan.ensures c.if-is_no_plan.true)
