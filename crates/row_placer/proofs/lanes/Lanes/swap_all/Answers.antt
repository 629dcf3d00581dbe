use Rattle.std.proofs.Common.{◌≡◌, refl, subst, ◌+◌, take, length, get_or, arith}
use Rattle.std.proofs.lemmas.Result.{err_from_is_err_and}
use Rattle.std.proofs.Math.Seq.{take-length}
use Rattle.channel_router.specs.Routes.{swapped}
use Rattle.row_placer.specs.Settling.{came_from}
use Rattle.row_placer.specs.Steps.{MovesTags}
use Rattle.row_placer.proofs.Carry.{kept_on, moved_on}
use Rattle.row_placer.proofs.Exchanges.{came_once_more}
use Rattle.row_placer.proofs.lanes.Lanes.swap_all.Goals as goal

pub swap-requires : goal.swap-requires
swap-requires c =
    let i = c.loop-next.invariant in
    let on = c.requires c.loop-next.next 0 c.loop-next-test.true in
    omega (arith, on, i.moved.long)

pub returns-in_err-swap : goal.returns-in_err-swap
returns-in_err-swap c =
    let p = (err_from_is_err_and c.from_residual.result c.from_residual.ensures.1).1 in
    record { moved = rw p tt; kept = kept_on c.args.self.now c.loop-next.self c.swap.new.self c.loop-next.invariant.kept c.swap.ensures.kept }

pub loop-next-preserved : goal.loop-next-preserved
loop-next-preserved c =
    let i = c.loop-next.invariant in
    let n = c.loop-next.next in
    let swaps = c.args.swaps.now in
    let e = c.in_ok-swap.ensures in
    record {
      moved = moved_on c.args.self.now c.loop-next.self c.swap.new.self (came_from (take n swaps)) (swapped (get_or swaps n 0)) (came_from (take (n + 1) swaps)) n 1 (n + 1)
          i.moved e.moved (λ l. came_once_more swaps n l c.loop-next-test.true) refl;
      within = omega (arith, c.loop-next-test.true);
      kept = kept_on c.args.self.now c.loop-next.self c.swap.new.self i.kept e.kept;
    }

pub returns-clause-moved : goal.returns-clause-moved
returns-clause-moved c =
    let i = c.loop-next.invariant in
    let swaps = c.args.swaps.now in
    let same : c.loop-next.next ≡ length swaps = omega (arith, i.within, c.loop-next-test.false) in
    let all = subst (λ n. MovesTags c.args.self.now c.loop-next.self (came_from (take n swaps)) n) same i.moved in
    subst (λ s. MovesTags c.args.self.now c.loop-next.self (came_from s) (length swaps)) (take-length swaps) all
