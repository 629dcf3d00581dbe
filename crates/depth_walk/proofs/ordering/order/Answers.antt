use Rattle.std.proofs.Common.{sym, subst, arith}
use Rattle.depth_walk.specs.Order.{IsOrderOf}
use Rattle.depth_walk.specs.Walk.{IsWalk}
use Rattle.depth_walk.proofs.Orders.{is_order}
use Rattle.depth_walk.proofs.ordering.order.Goals as goal

pub returns-clause-order : goal.returns-clause-order
returns-clause-order c =
    let w = c.loop-n.walk in
    subst (λ v. IsOrderOf c.args.links.now v) (sym c.of.ensures)
    (is_order c.args.links.now w.marks.items w.next.items w.order.items (subst (λ v. IsWalk c.args.links.now w.marks.items w.next.items v w.order.items) c.loop-n.invariant.1 c.loop-n.invariant.0) (λ n l. c.loop-n.invariant.2 n (omega arith)))
