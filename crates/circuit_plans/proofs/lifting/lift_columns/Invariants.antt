use Rattle.std.proofs.Common.{◌≡◌, take, length}
use Rattle.circuit_plans.specs.Lifted.{lanes_of, lift_columns}
use Rattle.circuit_plans.proofs.lifting.lift_columns.Given as goal

abbrev pub invariant-loop-column : goal.invariant-loop-column
invariant-loop-column l =
    record {
      lifted : lanes_of l.cells.items l.sources ≡ lift_columns (lanes_of l.initial.cells.items l.initial.sources) (take l.column-index l.columns);
      wide : length l.sources ≡ length l.initial.sources;
    }
