use Rattle.std.proofs.Common.{◌≡◌, subst, ◌+◌, ◌<◌, arith}
use Rattle.std.proofs.lemmas.Result.{err_from_is_err_and}
use Rattle.channel_router.specs.Routes.{brought, swapped, distance}
use Rattle.channel_router.proofs.Swaps.{down_one}
use Rattle.row_placer.specs.Steps.{MovesTags}
use Rattle.row_placer.proofs.Carry.{kept_on, moved_on}
use Rattle.row_placer.proofs.lanes.Lanes.bring_down.Goals as goal

pub returns-in_err-swap : goal.returns-in_err-swap
returns-in_err-swap c =
    let p = (err_from_is_err_and c.from_residual.result c.from_residual.ensures.1).1 in
    record { moved = rw p tt; kept = kept_on c.args.self.now c.loop-at.self c.swap.new.self c.loop-at.invariant.kept c.swap.ensures.kept }

pub loop-at-preserved : goal.loop-at-preserved
loop-at-preserved c =
    let i = c.loop-at.invariant in
    let at = c.loop-at.at in
    let from = c.args.from in
    let less : at < c.args.to = omega (arith, c.loop-at-test.true) in
    let e = c.in_ok-swap.ensures in
    record {
      moved = moved_on c.args.self.now c.loop-at.self c.swap.new.self (brought from at) (swapped at) (brought from (at + 1)) (distance from at) 1 (distance from (at + 1))
          i.moved e.moved (λ l. down_one from at l i.low) (omega (arith, i.low));
      low = omega (arith, i.low);
      high = omega (arith, less);
      kept = kept_on c.args.self.now c.loop-at.self c.swap.new.self i.kept e.kept;
    }

pub returns-clause-moved : goal.returns-clause-moved
returns-clause-moved c =
    let i = c.loop-at.invariant in
    let same : c.loop-at.at ≡ c.args.to = omega (arith, i.high, c.loop-at-test.false) in
    subst (λ n. MovesTags c.args.self.now c.loop-at.self (brought c.args.from n) (distance c.args.from n)) same i.moved
