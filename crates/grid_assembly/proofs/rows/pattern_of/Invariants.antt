use Rattle.std.proofs.Common.{◌≡◌, map}
use Rattle.std.specs.List.{range_with_len}
use Rattle.grid_assembly.specs.PlanDrawing.{start_row}
use Rattle.grid_assembly.proofs.rows.pattern_of.Given as goal

abbrev pub invariant-loop-y : goal.invariant-loop-y
invariant-loop-y l = l.rows ≡ map (start_row l.plan) (range_with_len 0 l.y)
