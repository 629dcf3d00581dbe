use Rattle.std.proofs.Common.{sym, ap, subst, ◌∙◌, inl, inr, get_or, arith}
use Rattle.std.proofs.lemmas.Bool.{cases_eq}
use Rattle.lane_kernel.specs.Around.{beside, near_heads}
use Rattle.lane_kernel.specs.Marked.{AreTold, opposite}
use Rattle.lane_kernel.proofs.Listing.{still_told}
use Rattle.lane_kernel.proofs.Marking.{all_marked}
use Rattle.lane_kernel.proofs.stepping.mark_words.Goals as goal

pub loop-i-preserved : goal.loop-i-preserved
loop-i-preserved c =
    let v = c.loop-i.invariant in
    let e = c.mark_lit-many.ensures in
    let free = c.args.free.now in
    let heads = c.args.heads.now in
    let i = c.loop-i.i in
    let new = c.mark_lit-many.new.bytes in
    record {
      long = e.long ∙ v.long;
      listed = e.listed;
      dark = λ j from lt zero.
          elim (cases_eq j i) [
            | inl q ↦
                let d = e.dark (sym (ap (λ j. get_or new j 0) q) ∙ zero) in
                (ap (λ j. get_or heads j 0) q ∙ d.0, ap (λ j. get_or free.tails.now j 0) q ∙ d.1)
            | inr ne ↦ let m = e.more j in v.dark j from (omega (arith, lt, ne)) (omega (arith, m, zero))
          ];
      told = λ j from lt.
          elim (cases_eq j i) [
            | inl q ↦ subst (λ j. AreTold free (get_or heads j 0) j new) (sym q) e.told
            | inr ne ↦ λ way. still_told (near_heads (opposite way) (get_or heads j 0)) free.tails.now free.cells.now c.loop-i.bytes new (beside free.stride way j) e.more (v.told j from (omega (arith, lt, ne)) way)
          ];
    }

pub returns-clause-marked : goal.returns-clause-marked
returns-clause-marked c =
    let v = c.loop-i.invariant in
    let free = c.args.free.now in
    let heads = c.args.heads.now in
    let lh = c.requires.heads in
    let past = c.loop-i-test.false in
    all_marked free heads c.loop-i.bytes c.requires.heads_on_cells
    (λ j inner zero. let to = inner.to in v.dark j inner.from (omega (arith, to, lh, past)) zero)
    (λ j inner. let to = inner.to in v.told j inner.from (omega (arith, to, lh, past)))
