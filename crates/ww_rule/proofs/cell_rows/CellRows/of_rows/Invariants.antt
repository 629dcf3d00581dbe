use Rattle.std.proofs.Common.{◌≡◌, take}
use Rattle.ww_rule.proofs.cell_rows.CellRows.of_rows.Given as goal

abbrev pub invariant-loop-row : goal.invariant-loop-row
invariant-loop-row l = l.made ≡ take l.row-index l.rows
