use Rattle.std.proofs.Common.{ℕ, ◌<◌}
use Rattle.route_tables.specs.Runs.{IsDelayedByWire, ShowsStarts}
use Rattle.route_cells.proofs.runs.test_wires.Given as goal

abbrev pub invariant-loop-w : goal.invariant-loop-w
invariant-loop-w l = (v : ℕ) → v < l.w → IsDelayedByWire l.t l.period v × ShowsStarts l.t l.states l.period v
