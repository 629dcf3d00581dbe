use Rattle.std.proofs.Common.{sym, refl, true≢false}
use Rattle.clock_check.proofs.OneClock.{agree_more, is_two_clocks, is_one_clock}
use Rattle.clock_check.proofs.control.other_clock.Goals as goal

pub returns-then-not-has_same_clock-clause-found :
    goal.returns-then-not-has_same_clock-clause-found
returns-then-not-has_same_clock-clause-found c =
    is_two_clocks c.args.flat.now c.as_slice-latches.result.now c.in_ok-first.first.now c.loop-latch.latch-index _ c.as_slice-latches.ensures (sym c.in_ok-first.ensures.value) c.loop-latch-test.true c.loop-latch.invariant
    (λ same. true≢false (sym (c.if-not-has_same_clock.ensures.1 same)))

pub loop-latch-preserved : goal.loop-latch-preserved
loop-latch-preserved c = agree_more c.args.flat.now c.in_ok-first.first.now c.as_slice-latches.result.now c.loop-latch.latch-index _ c.loop-latch-test.true c.loop-latch.invariant (c.if-not-has_same_clock.ensures.0 refl)

pub returns-clause-found : goal.returns-clause-found
returns-clause-found c = is_one_clock c.args.flat.now c.as_slice-latches.result.now c.in_ok-first.first.now c.loop-latch.latch-index c.as_slice-latches.ensures (sym c.in_ok-first.ensures.value) c.loop-latch-test.false c.loop-latch.invariant
