use Rattle.std.proofs.Common.{◌≡◌, take}
use Rattle.lane_core.specs.Columns.{after_columns}
use Rattle.lane_core.proofs.run.run_columns.Given as goal

abbrev pub invariant-loop-column : goal.invariant-loop-column
invariant-loop-column l = l.bits ≡ after_columns (take l.column-index l.columns) l.fn.bits
