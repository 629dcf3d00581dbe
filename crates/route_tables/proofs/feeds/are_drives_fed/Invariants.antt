use Rattle.std.proofs.Common.{ℕ, ◌<◌, ◌≡◌, Some, slice_get}
use Rattle.route_tables.specs.declared.tables.GateInput.{GateInput}
use Rattle.route_tables.specs.Cells.{IsDrivenInput}
use Rattle.route_tables.proofs.feeds.are_drives_fed.Given as goal

abbrev pub invariant-loop-d : goal.invariant-loop-d
invariant-loop-d l =
    (j : ℕ) → j < l.d → (at : GateInput) → slice_get l.tables.driven j ≡ Some at → IsDrivenInput l.tables j at
