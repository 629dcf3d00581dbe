use Rattle.std.proofs.Common.{◌≡◌, arith}
use Rattle.depth_walk.specs.Walk.{mark_of}
use Rattle.depth_walk.specs.declared.walk.Mark.TheVariants.{Unseen}
use Rattle.depth_walk.proofs.Steps.{begins}
use Rattle.depth_walk.proofs.walk.Walk.reach.Goals as goal

pub loop-top-init : goal.loop-top-init
loop-top-init c =
    let s = c.args.self.now in
    let unseen : mark_of s.marks.items c.args.n ≡ Unseen = grind arith in
    begins c.args.links.now s.marks.items _ s.next.items _ s.stack.items _ s.order.items _ c.args.n c.requires.walk c.requires.idle c.requires.number unseen c.in_ok-open.ensures.marks c.in_ok-open.ensures.next c.in_ok-open.ensures.stack c.in_ok-open.ensures.order
