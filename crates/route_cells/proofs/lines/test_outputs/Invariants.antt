use Rattle.std.proofs.Common.{◌≡◌, ◌<◌, ℕ, slice_get, Some}
use Rattle.pattern_reading.specs.declared.ports.PortLine.{PortLine}
use Rattle.routed_circuits.specs.Runs.{src_at}
use Rattle.route_tables.specs.Runs.{ShowsAt}
use Rattle.route_cells.proofs.lines.test_outputs.Given as goal

abbrev pub invariant-loop-o : goal.invariant-loop-o
invariant-loop-o l =
    (k : ℕ) → k < l.o → (line : PortLine) → slice_get l.lines k ≡ Some line → ShowsAt l.t l.t.outs k line.x line.y l.latency (src_at l.t.list.outs k)
