use Rattle.std.proofs.Common.{rules, ◌≡◌, refl, ◌+◌, ◌*◌, true, length, arith}
use Rattle.std.proofs.lemmas.Bool.{false≢true}
use Rattle.ww_rule.specs.Patterns.{grid_of}
use Rattle.tile_match.proofs.Drawn.{box_below, box_rows}
use Rattle.tile_match.proofs.Rows.{box_is, is_box, whole_lanes}
use Rattle.tile_match.proofs.compare.is_drawn.Goals as goal

pub returns-then-not-is_lane_drawn : goal.returns-then-not-is_lane_drawn
returns-then-not-is_lane_drawn c = (
  λ no. absurd (false≢true no),
  λ same. (let yes : c.is_lane_drawn.result ≡ true =
      c.is_lane_drawn.ensures.1
      (box_rows c.args.plan.now c.args.pattern.now.rows 0 (length c.args.pattern.now.rows) 0 c.args.pattern.now.width (16 * c.loop-lane.lane) (16 * c.loop-lane.lane + 16)
      (omega arith) (omega (arith, c.loop-lane-test.true, c.len.ensures.count)) (is_box (grid_of c.args.pattern.now) c.args.plan.now same)) in
      cc),
)

pub loop-lane-preserved : goal.loop-lane-preserved
loop-lane-preserved c =
    let yes : c.is_lane_drawn.result ≡ true = search rules in
    box_below c.args.plan.now c.args.pattern.now.rows 0 (16 * c.loop-lane.lane) (16 * (c.loop-lane.lane + 1)) 0 c.args.pattern.now.width c.loop-lane.invariant
    (box_rows c.args.plan.now c.args.pattern.now.rows (16 * c.loop-lane.lane) (16 * c.loop-lane.lane + 16) 0 c.args.pattern.now.width (16 * c.loop-lane.lane) (16 * (c.loop-lane.lane + 1))
    (omega arith) (omega arith) (c.is_lane_drawn.ensures.0 yes))

pub returns : goal.returns
returns c =
    let whole = whole_lanes c.args.pattern.now.width c.args.pattern.now.height c.args.pattern.now.rows c.args.plan.now c.args.pattern.now.in_rows c.requires.sized in (
      λ yes. box_is c.args.pattern.now.width c.args.pattern.now.height c.args.pattern.now.rows c.args.plan.now c.args.pattern.now.in_rows c.requires.sized
          (box_rows c.args.plan.now c.args.pattern.now.rows 0 (16 * c.loop-lane.lane) 0 c.args.pattern.now.width 0 (length c.args.pattern.now.rows)
          (omega arith) (omega (arith, whole.1, c.loop-lane-test.false, c.len.ensures.count)) c.loop-lane.invariant),
      λ s. refl,
    )
