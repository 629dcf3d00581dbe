use Rattle.std.proofs.Common.{◌≡◌, ◌∙◌, ◌+◌, ◌-◌, ℕ, subst, arith}
use Rattle.std.proofs.lemmas.List.{length-set}
use Rattle.rle_write.specs.Blocks.{AreBlocksFrom}
use Rattle.rle_write.proofs.KeptBlocks.{blocks_more, known_more}
use Rattle.rle_write.proofs.blocks.look_up.Goals as goal

pub loop-i-preserved : goal.loop-i-preserved
loop-i-preserved c =
    let i : ℕ = c.loop-i.i - 1 in
    let next : c.loop-i.i ≡ i + 1 = omega arith in
    let east = subst (λ k. AreBlocksFrom c.args.plan.now c.args.lane k c.loop-i.blocks) next c.loop-i.invariant.from in
    record {
      size = length-set c.loop-i.blocks i _ ∙ c.loop-i.invariant.size;
      known = known_more c.args.plan.now c.args.lane i c.loop-i.blocks _ (omega arith) c.loop-i.invariant.known c.stretch_at.ensures.below;
      from = blocks_more c.args.plan.now c.args.lane i c.loop-i.blocks _ (omega arith) east c.stretch_at.ensures;
    }
