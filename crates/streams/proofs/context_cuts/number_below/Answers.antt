use Rattle.std.proofs.Common.{◌≡◌, ◌+◌, ◌*◌, ◌-◌, ◌<◌, ◌≤◌, sym, ap, take, arith, ℕ, Bool, get_or}
use Rattle.std.specs.Bool.{then_some}
use Rattle.std.specs.Str.Parse.{digits_value}
use Rattle.streams.proofs.Numbers.{one_more, not_below}
use Rattle.streams.proofs.context_cuts.number_below.Goals as goal

pub returns-then-number-limit : goal.returns-then-number-limit
returns-then-number-limit c =
    let ds = c.args.digits.now in
    let i = c.loop-digit.digit-index in
    let more = one_more ds i c.loop-digit.number c.requires c.loop-digit-test.true c.loop-digit.invariant.value in
    let from = c.from.ensures in
    let bound = c.from-limit.ensures in
    let large = c.if-number-limit.true in
    sym (ap (λ (b : Bool). then_some b (digits_value 10 ds)) (not_below ds (i + 1) c.args.bound (omega (arith, more, from, bound, large))))

pub loop-digit-preserved : goal.loop-digit-preserved
loop-digit-preserved c =
    let ds = c.args.digits.now in
    let i = c.loop-digit.digit-index in
    let more = one_more ds i c.loop-digit.number c.requires c.loop-digit-test.true c.loop-digit.invariant.value in
    let from = c.from.ensures in
    let bound = c.from-limit.ensures in
    let small = c.if-number-limit.false in
    let fits = c.ranges.bound.fits in
    record {
      value = omega (arith, more, from);
      small = omega (arith, small, bound, fits);
    }
