use Rattle.std.proofs.Common.{◌≡◌, ◌+◌, ◌∙◌, ℕ, suc, ◌++◌, map, get_or, ap, arith}
use Rattle.plan_layout.specs.Slots.{slot_of}
use Rattle.pattern_writing.specs.Writer.{tag_of}
use Rattle.rle_write.specs.Blocks.{no_stretch, tags_of_blocks}
use Rattle.rle_write.specs.Dark.{bare_row}
use Rattle.rle_write.proofs.stretches.runs_of_blocks.Goals as goal

pub loop-i-preserved : goal.loop-i-preserved
loop-i-preserved c =
    let i : ℕ = c.loop-i.i in
    let blocks = c.args.blocks.now in
    let next : suc i ≡ i + 1 = omega arith in
    record {
      few = omega (arith, c.put_row-found.ensures.few, c.loop-i.invariant.few);
      cells = c.put_row-found.ensures.cells;
      runs =
          c.put_row-found.ensures.runs
          ∙ ap (λ l. l ++ map tag_of (bare_row (slot_of (get_or blocks (c.args.column + i) no_stretch).slot) c.args.y)) c.loop-i.invariant.runs
          ∙ ap (λ n. tags_of_blocks blocks c.args.column n c.args.y) next;
    }
