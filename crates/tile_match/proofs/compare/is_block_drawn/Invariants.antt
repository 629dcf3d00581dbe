use Rattle.std.proofs.Common.{◌*◌}
use Rattle.tile_match.specs.Drawn.{IsBoxDrawn}
use Rattle.tile_match.proofs.compare.is_block_drawn.Given as goal

-- the rows so far are the plan's
abbrev pub invariant-loop-y : goal.invariant-loop-y
invariant-loop-y l = IsBoxDrawn l.plan l.rows (16 * l.lane) l.y (32 * l.column) l.until
