-- What a check of tables shows, all of it.
use Rattle.std.specs.Prelude.{ℕ, ◌<◌, ◌≤◌, ◌≡◌, List, length, Some, slice_get}
use Rattle.ww_rule.specs.declared.pattern.State.{State}
use Rattle.pattern_reading.specs.declared.ports.Ports.{Ports}
use Rattle.pattern_reading.specs.declared.ports.PortLine.{PortLine}
use Rattle.pattern_reading.specs.declared.ports.NetLine.{NetLine}
use Rattle.routed_circuits.specs.Runs.{src_at}
use Rattle.route_tables.specs.declared.tables.GateInput.{GateInput}
use Rattle.route_tables.specs.declared.tables.Tables.{Tables}
use Rattle.route_tables.specs.Serials.{AreSerials}
use Rattle.route_tables.specs.Tables.{table_gate, table_wire, sourced_gate}
use Rattle.route_tables.specs.Cells.{IsGateThere, IsDrawnInGate, IsWireThere, IsOnWire, IsAlone, FeedsItsEnd, IsDrivenInput, IsFedRightly}
use Rattle.route_tables.specs.Runs.{ShowsStarts, FitsItsPeriod, IsDelayedByWire, HasPortSources, IsInput, IsDark, ShowsAt}

-- Each cell is of one gate or wire, and these stand where the tables say, apart from each other.
-- Each input is fed by one wire, or is driven.
pub record HasItsCells (t : Tables) (states : List State) : Type 0 where
  pub serials : AreSerials t.cells states t.serials t.width t.groups (length t.gates)
  pub gates : (k : ℕ) → k < length t.gates → IsGateThere t states k
  pub in_gates : (n : ℕ) → n < length t.cells → IsDrawnInGate t n
  pub wires : (w : ℕ) → w < length t.wires → IsWireThere t w (table_wire t w)
  pub on_wires : (n : ℕ) → n < length t.cells → IsOnWire t n
  pub alone : (w : ℕ) → w < length t.wires → (i : ℕ) → i < (table_wire t w).size
      → IsAlone t (table_wire t w) i
  pub ends : (w : ℕ) → w < length t.wires → FeedsItsEnd t w
  pub driven : (d : ℕ) (at : GateInput) → slice_get t.driven d ≡ Some at → IsDrivenInput t d at
  pub fed : (k i : ℕ) → k < length t.gates
      → i < length (sourced_gate t (table_gate t k)).placed.gate.ins
      → IsFedRightly t (record { gate = k; input = i })

-- Gates and wires keep time, electrons are start bits, and the sources are those of the list.
pub record ComputesItsList (t : Tables) (states : List State) (period : ℕ) : Type 0 where
  pub in_time : (k : ℕ) → k < length t.gates → FitsItsPeriod t period k
  pub sources : (k : ℕ) → k < length t.gates → HasPortSources t k
  pub delays : (w : ℕ) → w < length t.wires → IsDelayedByWire t period w
  pub starts : (w : ℕ) → w < length t.wires → ShowsStarts t states period w

-- the table's lines are at ports: IN lines at the first driven inputs, OUT lines at the latency, NET
-- lines at their offsets
pub record HasItsPorts (t : Tables) (states : List State) (ports : Ports) : Type 0 where
  pub ins : (i : ℕ) (line : PortLine) → slice_get ports.ins i ≡ Some line → IsInput t states i line
  pub dark : (d : ℕ) (at : GateInput) → length ports.ins ≤ d → slice_get t.driven d ≡ Some at
      → IsDark t at
  pub outs : (o : ℕ) (line : PortLine) → slice_get ports.outs o ≡ Some line
      → ShowsAt t t.outs o line.x line.y ports.l (src_at t.list.outs o)
  pub nets : (n : ℕ) (line : NetLine) → slice_get ports.nets n ≡ Some line
      → ShowsAt t t.nets n line.x line.y line.offset (src_at t.list.nets n)

-- all that a check shows
pub record IsChecked (t : Tables) (states : List State) (ports : Ports) : Type 0 where
  pub long : 3 ≤ ports.p
  pub cells : HasItsCells t states
  pub computes : ComputesItsList t states ports.p
  pub ports_are : HasItsPorts t states ports
