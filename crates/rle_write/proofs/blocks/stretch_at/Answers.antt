use Rattle.std.proofs.Common.{◌≡◌, ◌+◌, ◌<◌, ◌∙◌, ℕ, sym, ap, length, get_or, arith}
use Rattle.plan_layout.specs.Slots.{slot_of}
use Rattle.plan_layout.specs.Tape.{drawn_tiling}
use Rattle.rle_write.specs.Blocks.{no_stretch}
use Rattle.rle_write.proofs.KeptBlocks.{alone, longer}
use Rattle.rle_write.proofs.blocks.stretch_at.Goals as goal

pub returns-then-i-blocks : goal.returns-then-i-blocks
returns-then-i-blocks c =
    alone c.args.plan.now c.args.lane (length c.args.blocks.now) c.args.i c.block_at-slot.result.0 c.block_at-slot.result.1 c.requires.inside
    c.block_at-slot.ensures.here c.block_at-slot.ensures.known

pub returns : goal.returns
returns c =
    let plan = c.args.plan.now in
    let size : ℕ = length c.args.blocks.now in
    let next : c.args.i + 1 < size = omega (arith, c.requires.inside, c.if-i-blocks.false) in
    let is = c.requires.east (c.args.i + 1) (omega arith) next in
    let far : ℕ = c.args.i + (get_or c.args.blocks.now (c.args.i + 1) no_stretch).motif in
    let there = c.requires.east far (omega (arith, is.repeats.some)) (omega (arith, is.repeats.once, is.repeats.within)) in
    let here : far + 0 ≡ far = omega arith in
    longer plan c.args.lane size c.args.i c.block_at-slot.result.0 c.block_at-slot.result.1 _ c.next_count.result c.is_same-goes_on.result c.next_motif-motif.result is
    c.block_at-slot.ensures.here c.block_at-slot.ensures.known c.next_count.ensures.some c.next_count.ensures.longer
    (λ on.
    sym (there.alike 0 (omega (arith, there.some)) ∙ ap (λ k. drawn_tiling plan k c.args.lane) here)
    ∙ ap slot_of (sym (c.is_same-goes_on.ensures on)) ∙ c.block_at-slot.ensures.here)
    c.next_motif-motif.ensures
