use Rattle.std.proofs.Common.{◌*◌}
use Rattle.tile_match.specs.Drawn.{IsBoxDrawn}
use Rattle.tile_match.proofs.compare.is_drawn.Given as goal

-- the lanes so far are the plan's
abbrev pub invariant-loop-lane : goal.invariant-loop-lane
invariant-loop-lane l = IsBoxDrawn l.plan l.pattern.rows 0 (16 * l.lane) 0 l.pattern.width
