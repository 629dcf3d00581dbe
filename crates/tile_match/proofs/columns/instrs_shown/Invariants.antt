use Rattle.std.proofs.Common.{◌≡◌, ◌-◌, ◌++◌}
use Rattle.tile_match.specs.Blocks.{instrs_from, instr_in, column_shown}
use Rattle.tile_match.proofs.columns.instrs_shown.Given as goal

-- the instructions so far, and those that the lanes that are left show
abbrev pub invariant-loop-lane : goal.invariant-loop-lane
invariant-loop-lane l = l.instrs.items ++ instrs_from (instr_in l.rows l.x) (l.lanes - 1 - l.lane) l.lane l.taken ≡ column_shown l.rows l.lanes l.x
