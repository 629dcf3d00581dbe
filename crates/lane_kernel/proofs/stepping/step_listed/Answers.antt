use Rattle.std.proofs.Common.{ℕ, ◌≡◌, refl, ap, subst, ◌∙◌, List, length, get_or, arith}
use Rattle.std.specs.Int.RustNames.{bit_and}
use Rattle.lane_kernel.specs.Around.{beside, free_of, near_heads, StepsAlone}
use Rattle.lane_kernel.specs.Marked.{IsUnderWay}
use Rattle.lane_kernel.proofs.PlaneRows.{is_next_plane}
use Rattle.lane_kernel.proofs.UnderWay.{begun, ended, none_left}
use Rattle.lane_kernel.proofs.stepping.step_listed.Goals as goal

same_calm : (stride : ℕ) (heads t t' cells : List ℕ) (i : ℕ) → get_or t i 0 ≡ get_or t' i 0 → StepsAlone stride heads t' cells i → StepsAlone stride heads t cells i
same_calm stride heads t t' cells i e calm way = ap (λ w. bit_and (near_heads way (get_or heads (beside stride way i) 0)) (free_of (get_or cells i 0) w)) e ∙ calm way

pub loop-k-init : goal.loop-k-init
loop-k-init c =
    let free = c.args.coming.now in
    record {
      long_tails = refl;
      long_bytes = refl;
      long_soon = refl;
      listed = record {
        within = omega arith;
        inner = λ k lt. absurd (omega (arith, lt));
        each = λ room i some. absurd (some (c.requires.cleared i));
      };
      under_way = begun free c.args.tails.now c.args.entries.now c.args.bytes.now c.args.soon.now c.all_fit.ensures c.all_fit-2.ensures c.requires.on_cells c.requires.marked c.requires.each;
    }

pub step_entry-many-requires-clause-long : goal.step_entry-many-requires-clause-long
step_entry-many-requires-clause-long c =
    let v = c.loop-k.invariant in
    let long = c.requires.long in
    record {
      long_tails = v.long_tails ∙ long.long_tails;
      long_bytes = v.long_bytes ∙ long.long_bytes;
      long_soon = v.long_soon ∙ long.long_soon;
    }

pub step_entry-many-requires-clause-calm : goal.step_entry-many-requires-clause-calm
step_entry-many-requires-clause-calm c one =
    let free = c.args.coming.now in
    let u = c.loop-k.invariant.under_way in
    let i = get_or c.args.entries.now c.loop-k.k 0 in
    same_calm free.stride free.tails.now c.loop-k.tails c.args.tails.now free.cells.now i (u.old i (λ zero. absurd (omega (arith, one, zero)))) (u.calm i one)

pub loop-k-preserved : goal.loop-k-preserved
loop-k-preserved c =
    let v = c.loop-k.invariant in
    let e = c.step_entry-many.ensures in
    record {
      long_tails = e.tails ∙ v.long_tails;
      long_bytes = e.bytes ∙ v.long_bytes;
      long_soon = e.soon ∙ v.long_soon;
      listed = e.listed;
      under_way = e.goes_on c.args.tails.now v.under_way;
    }

pub returns-clause-next : goal.returns-clause-next
returns-clause-next c i =
    let free = c.args.coming.now in
    let l = c.loop-k in
    let end : l.k ≡ length c.args.entries.now = omega (arith, c.loop-k-test.false, l.auto.k-end) in
    let u = subst (λ k. IsUnderWay free c.args.tails.now c.args.entries.now k l.tails l.bytes l.soon) end l.invariant.under_way in
    u.done i (none_left free c.args.tails.now c.args.entries.now l.tails l.bytes l.soon u i)

pub returns-clause-shows : goal.returns-clause-shows
returns-clause-shows c =
    let free = c.args.coming.now in
    is_next_plane free.stride free.tails.now c.args.tails.now free.cells.now c.loop-k.tails c.all_fit.ensures c.requires.on_cells (returns-clause-next c)

pub returns-clause-cleared : goal.returns-clause-cleared
returns-clause-cleared c =
    let free = c.args.coming.now in
    let l = c.loop-k in
    let end : l.k ≡ length c.args.entries.now = omega (arith, c.loop-k-test.false, l.auto.k-end) in
    none_left free c.args.tails.now c.args.entries.now l.tails l.bytes l.soon
    (subst (λ k. IsUnderWay free c.args.tails.now c.args.entries.now k l.tails l.bytes l.soon) end l.invariant.under_way)

pub returns-clause-marked : goal.returns-clause-marked
returns-clause-marked c =
    let free = c.args.coming.now in
    let l = c.loop-k in
    let end : l.k ≡ length c.args.entries.now = omega (arith, c.loop-k-test.false, l.auto.k-end) in
    ended free c.args.tails.now c.args.entries.now l.tails l.bytes l.soon
    (subst (λ k. IsUnderWay free c.args.tails.now c.args.entries.now k l.tails l.bytes l.soon) end l.invariant.under_way)
