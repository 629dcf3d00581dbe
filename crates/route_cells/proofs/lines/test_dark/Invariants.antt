use Rattle.std.proofs.Common.{◌≡◌, ◌<◌, ◌≤◌, ℕ, slice_get, Some}
use Rattle.route_tables.specs.declared.tables.GateInput.{GateInput}
use Rattle.route_tables.specs.Runs.{IsDark}
use Rattle.route_cells.proofs.lines.test_dark.Given as goal

abbrev pub invariant-loop-d : goal.invariant-loop-d
invariant-loop-d l = (k : ℕ) → k < l.d → (at : GateInput) → l.from ≤ k → slice_get l.t.driven k ≡ Some at → IsDark l.t at
