use Rattle.std.proofs.Common.{◌≡◌, ◌<◌, ℕ, slice_get, Some}
use Rattle.pattern_reading.specs.declared.ports.PortLine.{PortLine}
use Rattle.route_tables.specs.Runs.{IsInput}
use Rattle.route_cells.proofs.lines.test_inputs.Given as goal

abbrev pub invariant-loop-i : goal.invariant-loop-i
invariant-loop-i l = (k : ℕ) → k < l.i → (line : PortLine) → slice_get l.lines k ≡ Some line → IsInput l.t l.states k line
