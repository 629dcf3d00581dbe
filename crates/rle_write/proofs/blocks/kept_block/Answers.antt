use Rattle.std.proofs.Common.{◌≡◌, ◌∙◌, ◌+◌, ap, arith}
use Rattle.plan_layout.specs.Tape.{drawn_tiling}
use Rattle.rle_write.proofs.blocks.kept_block.Goals as goal

pub returns-then-column-blocks : goal.returns-then-column-blocks
returns-then-column-blocks c =
    let is = c.requires.kept c.args.column (omega arith) c.if-column-blocks.true in
    let here : c.args.column + 0 ≡ c.args.column = omega arith in
    is.alike 0 (omega (arith, is.some)) ∙ ap (λ k. drawn_tiling c.args.plan.now k c.args.lane) here
