use Rattle.std.proofs.Common.{◌≡◌, ◌<◌, ℕ, slice_get, Some}
use Rattle.pattern_reading.specs.declared.ports.NetLine.{NetLine}
use Rattle.routed_circuits.specs.Runs.{src_at}
use Rattle.route_tables.specs.Runs.{ShowsAt}
use Rattle.route_cells.proofs.lines.test_nets.Given as goal

abbrev pub invariant-loop-n : goal.invariant-loop-n
invariant-loop-n l =
    (k : ℕ) → k < l.n → (line : NetLine) → slice_get l.lines k ≡ Some line → ShowsAt l.t l.t.nets k line.x line.y line.offset (src_at l.t.list.nets k)
