use Rattle.std.proofs.Common.{◌≡◌, ◌+◌, ◌<◌, ℕ, suc}
use Rattle.gate_laws.specs.Signals.{cell_state}
use Rattle.route_tables.specs.Serials.{listed_cell}
use Rattle.route_tables.specs.Tables.{box_plane}
use Rattle.route_cells.specs.Electrons.{state_before}
use Rattle.route_cells.proofs.electrons.wrong_cell.Given as goal

abbrev pub invariant-loop-i : goal.invariant-loop-i
invariant-loop-i l =
    (k : ℕ) → k < l.i → (rest : ℕ) → k + suc rest ≡ l.wire.size
    → cell_state (box_plane l.t l.states) (listed_cell l.t.cells (l.wire.start + k)) ≡ state_before l.first l.period l.bits rest
