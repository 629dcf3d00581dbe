use Rattle.std.proofs.Common.{subst, sym, length, ◌<◌, drop, ap, ◌∙◌}
use Rattle.depth_walk.specs.Order.{IsCircleOf}
use Rattle.depth_walk.specs.Walk.{IsMet}
use Rattle.depth_walk.specs.declared.walk.Met.TheVariants.{Nothing, Fresh, Again}
use Rattle.depth_walk.proofs.Steps.{met_nothing, met_fresh, on_ok, from_is}
use Rattle.depth_walk.proofs.Walks.{walk_same}
use Rattle.depth_walk.proofs.Circling.{met_again, again_within}
use Rattle.depth_walk.proofs.walk.Walk.step.Goals as goal

pub returns-in-Nothing-clause-walk : goal.returns-in-Nothing-clause-walk
returns-in-Nothing-clause-walk c = on_ok c.close.result c.close.ensures.marks c.close.ensures.stack c.close.ensures.order
    (λ m s o. walk_same c.args.links.now _ _ _ _ _ _ _ _
    (met_nothing c.args.links.now _ _ _ _ c.args.n c.index.result.now c.requires.walk c.requires.top
    (from_is c.args.links.now c.args.self.now.marks.items c.args.self.now.next.items c.args.self.now.stack.items c.args.self.now.order.items c.args.n c.index.result.now c.requires.walk c.requires.top c.index.ensures)
    (subst (λ v. IsMet c.args.links.now v c.args.n c.index.result.now Nothing) c.deref.ensures.value c.in-Nothing.ensures))
    m c.close.ensures.next s o)

pub returns-in-Fresh-clause-walk : goal.returns-in-Fresh-clause-walk
returns-in-Fresh-clause-walk c = on_ok c.open.result c.open.ensures.marks c.open.ensures.stack c.open.ensures.stack
    (λ m s o. walk_same c.args.links.now _ _ _ _ _ _ _ _
    (met_fresh c.args.links.now _ _ _ _ c.args.n c.index.result.now c.in-Fresh.step c.in-Fresh.other c.requires.walk c.requires.top
    (from_is c.args.links.now c.args.self.now.marks.items c.args.self.now.next.items c.args.self.now.stack.items c.args.self.now.order.items c.args.n c.index.result.now c.requires.walk c.requires.top c.index.ensures)
    (subst (λ v. IsMet c.args.links.now v c.args.n c.index.result.now (Fresh c.in-Fresh.step c.in-Fresh.other)) c.deref.ensures.value c.in-Fresh.ensures))
    m c.open.ensures.next s c.open.ensures.order)

pub path_from-requires : goal.path_from-requires
path_from-requires c =
    let s = c.args.self.now in
    subst (λ v. c.in-Again.place < length v) (sym c.deref-in-Again.ensures.value)
    (again_within c.args.links.now s.marks.items s.next.items s.stack.items s.order.items c.args.n c.index.result.now c.in-Again.step c.in-Again.place c.requires.walk
    (subst (λ v. IsMet c.args.links.now v c.args.n c.index.result.now (Again c.in-Again.step c.in-Again.place)) c.deref.ensures.value c.in-Again.ensures))

pub returns-in_ok-path_from-in-Again-clause-refused : goal.returns-in_ok-path_from-in-Again-clause-refused
returns-in_ok-path_from-in-Again-clause-refused c =
    let s = c.args.self.now in
    subst (IsCircleOf c.args.links.now) (sym (c.in_ok-path_from-in-Again.ensures ∙ ap (drop c.in-Again.place) c.deref-in-Again.ensures.value))
    (met_again c.args.links.now s.marks.items s.next.items s.stack.items s.order.items c.args.n c.index.result.now c.in-Again.step c.in-Again.place c.requires.walk c.requires.top
    (subst (λ v. IsMet c.args.links.now v c.args.n c.index.result.now (Again c.in-Again.step c.in-Again.place)) c.deref.ensures.value c.in-Again.ensures))
