use Rattle.std.proofs.Common.{rules, ◌≡◌, ⊎_elim, ◌+◌, ◌*◌, true, arith}
use Rattle.std.proofs.lemmas.Bool.{cases_lt, false≢true}
use Rattle.tile_match.proofs.Drawn.{box_part, box_beside}
use Rattle.tile_match.proofs.compare.is_lane_drawn.Goals as goal

pub returns-then-not-is_block_drawn : goal.returns-then-not-is_block_drawn
returns-then-not-is_block_drawn c = (
  λ no. absurd (false≢true no),
  λ s. (let yes : c.is_block_drawn.result ≡ true =
      c.is_block_drawn.ensures.1
      (box_part c.args.plan.now c.args.rows.now (16 * c.args.lane) (16 * c.args.lane + 16) 0 c.args.width (32 * c.loop-column.column) _ (omega arith)
      (omega (arith, c.loop-column-test.true)) s) in
      cc),
)

pub loop-column-preserved : goal.loop-column-preserved
loop-column-preserved c = λ reach inside near.
    let yes : c.is_block_drawn.result ≡ true = search rules in
    ⊎_elim
    (λ past. box_beside c.args.plan.now c.args.rows.now (16 * c.args.lane) (16 * c.args.lane + 16) 0 (32 * c.loop-column.column) reach
    (c.loop-column.invariant (32 * c.loop-column.column) (omega (arith, past, inside)) (omega arith))
    (box_part c.args.plan.now c.args.rows.now (16 * c.args.lane) (16 * c.args.lane + 16) (32 * c.loop-column.column) _ (32 * c.loop-column.column) reach (omega arith)
    (omega (arith, near, inside)) (c.is_block_drawn.ensures.0 yes)))
    (λ before. c.loop-column.invariant reach inside before)
    (cases_lt (32 * c.loop-column.column) reach)
