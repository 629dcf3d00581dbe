use Rattle.std.proofs.Common.{rules, sym, subst, ◌∙◌, map, reverse}
use Rattle.netlist_meaning.specs.Flat.{node_at}
use Rattle.netlist_meaning.specs.FlatOrder.{IsOrder}
use Rattle.depth_walk.specs.Reasons.{IsWalkRefusal}
use Rattle.depth_walk.specs.declared.error.WalkError.TheVariants.{Circle}
use Rattle.loop_check.specs.Tables.{AreFirstsFor}
use Rattle.loop_check.proofs.Linked.{is_order}
use Rattle.loop_check.proofs.Loops.{is_loop, first_loop, no_loop}
use Rattle.loop_check.proofs.ordering.order_by.Goals as goal

pub returns-in_ok-as_nodes-in-Ok-clause-order : goal.returns-in_ok-as_nodes-in-Ok-clause-order
returns-in_ok-as_nodes-in-Ok-clause-order c =
    subst (IsOrder c.args.flat.now) (sym (c.in_ok-as_nodes-in-Ok.ensures ∙ c.as_slice.ensures))
    (is_order c.args.flat.now c.args.links.now c.requires.links _ c.in-Ok.ensures.order)

pub returns-in_ok-as_nodes-in-Ok-clause-no_loop : goal.returns-in_ok-as_nodes-in-Ok-clause-no_loop
returns-in_ok-as_nodes-in-Ok-clause-no_loop c =
    no_loop c.args.flat.now c.requires.sound c.in_ok-as_nodes-in-Ok.field-0
    (subst (IsOrder c.args.flat.now) (sym (c.in_ok-as_nodes-in-Ok.ensures ∙ c.as_slice.ensures))
    (is_order c.args.flat.now c.args.links.now c.requires.links _ c.in-Ok.ensures.order))

pub returns-in_ok-outputs_back-in-Err-Circle-clause-refused : goal.returns-in_ok-outputs_back-in-Err-Circle-clause-refused
returns-in_ok-outputs_back-in-Err-Circle-clause-refused c =
    let h : IsWalkRefusal c.args.links.now (Circle c.in-Err-Circle.circle) = search rules in
    first_loop c.args.flat.now _ c.in_ok-outputs_back-in-Err-Circle.field-0
    (is_loop c.args.flat.now c.requires.sound c.args.links.now c.requires.links c.in-Err-Circle.circle h)
    (subst (λ nodes. AreFirstsFor c.args.flat.now (reverse (map (λ n. (node_at c.args.flat.now n).out) nodes)) c.in_ok-outputs_back-in-Err-Circle.field-0) c.as_slice-in-Err-Circle.ensures c.in_ok-outputs_back-in-Err-Circle.ensures)
