use Rattle.std.proofs.Common.{◌<◌, ◌≡◌, ◌+◌, ◌-◌, ◌≤◌, sym, subst, arith}
use Rattle.channel_router.specs.Routes.{Brings}
use Rattle.channel_router.proofs.Swaps.{grown, shrunk}
use Rattle.channel_router.proofs.route.bring.Goals as goal

pub loop-at-preserved : goal.loop-at-preserved
loop-at-preserved c =
    let i = c.loop-at.invariant in
    let less : c.loop-at.at < c.args.to = omega (arith, c.loop-at-test.true) in
    let b = grown c.args.lanes c.args.from c.loop-at.at c.loop-at.instrs.items i.0 i.1.order (omega (arith, less, c.requires.to)) in (
      subst (Brings c.args.lanes c.args.from (c.loop-at.at + 1)) (sym c.in_ok-push.ensures.items) b,
      record { order = omega (arith, i.1.order); within = omega (arith, less, c.requires.to); soon = λ lt. absurd (omega (arith, less, lt)) },
    )

pub loop-at-2-preserved : goal.loop-at-2-preserved
loop-at-2-preserved c =
    let i = c.loop-at-2.invariant in
    let more : c.args.to < c.loop-at-2.at = omega (arith, c.loop-at-2-test.true) in
    let back : c.loop-at-2.at ≡ (c.loop-at-2.at - 1) + 1 = omega (arith, more) in
    let high : c.loop-at-2.at ≤ c.args.from = i.1.soon more in
    let b = shrunk c.args.lanes c.args.from (c.loop-at-2.at - 1) c.loop-at-2.instrs.items (subst (λ n. Brings c.args.lanes c.args.from n c.loop-at-2.instrs.items) back i.0) (omega (arith, high, more)) (omega (arith, i.1.within, more)) in (
      subst (Brings c.args.lanes c.args.from (c.loop-at-2.at - 1)) (sym c.in_ok-push-2.ensures.items) b,
      record { order = omega (arith, more); within = omega (arith, i.1.within); soon = λ lt. omega (arith, high) },
    )
