use Rattle.std.proofs.Common.{ℕ, ◌*◌, ◌+◌, ◌≤◌}
use Rattle.tile_match.specs.Drawn.{IsBoxDrawn}
use Rattle.tile_match.proofs.compare.is_lane_drawn.Given as goal

-- the blocks so far are the plan's, and so are parts of them
abbrev pub invariant-loop-column : goal.invariant-loop-column
invariant-loop-column l =
    (reach : ℕ) → reach ≤ l.width → reach ≤ 32 * l.column → IsBoxDrawn l.plan l.rows (16 * l.lane) (16 * l.lane + 16) 0 reach
