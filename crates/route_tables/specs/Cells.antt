-- What a check of tables shows of the cells of gates and wires.
use Rattle.std.specs.Prelude.{ℤ, pos, ℕ, suc, ◌+◌, ◌/◌, ◌%◌, ◌<◌, ◌≤◌, ◌≡◌, ◌≢◌, ◌⊎◌, List, length, get_or, Some, slice_get}
use Rattle.ww_rule.specs.declared.pattern.State.{State}
use Rattle.ww_rule.specs.declared.pattern.State.TheVariants.{Empty, Conductor}
use Rattle.gate_laws.specs.Signals.{cell_state}
use Rattle.gate_laws.specs.Wires.{IsNear}
use Rattle.routed_circuits.specs.Routed.{gate_plane}
use Rattle.gate_library.specs.Lawful.{IsLawful}
use Rattle.route_tables.specs.declared.tables.Feed.{Feed}
use Rattle.route_tables.specs.declared.tables.Feed.TheVariants.{Wire, Driven}
use Rattle.gate_library.specs.declared.gate.GateDrawing.{GateDrawing}
use Rattle.route_tables.specs.declared.tables.GateInput.{GateInput}
use Rattle.route_tables.specs.declared.tables.TableGate.{TableGate}
use Rattle.route_tables.specs.declared.tables.TableWire.{TableWire}
use Rattle.route_tables.specs.declared.tables.Tables.{Tables}
use Rattle.route_tables.specs.Serials.{listed_cell}
use Rattle.route_tables.specs.Tables.{table_gate, table_wire, gate_drawing, sourced_gate, IsPort, input_port, point_at, input_point, wire_path, box_plane, serial, group, wire_number}

-- an input of a gate is fed so
abbrev pub IsFed : Tables → GateInput → Feed → Type 0
IsFed t at feed = slice_get (table_gate t at.gate).feeds at.input ≡ Some feed

-- the cell at a place of a gate's drawing
abbrev pub place_cell : TableGate → GateDrawing → (place : ℕ) → ℤ × ℤ
place_cell gate drawing m = (pos (gate.x + m % drawing.width), pos (gate.y + m / drawing.width))

-- the cell is that of an input of the gate that a wire feeds
pub record IsWireEnd (t : Tables) (k : ℕ) (cell : ℤ × ℤ) : Type 0 where
  pub input : ℕ
  pub wire : ℕ
  pub there : IsPort t (input_port (record { gate = k; input = input }))
  pub fed : IsFed t (record { gate = k; input = input }) (Wire wire)
  pub here : (input_point t (record { gate = k; input = input })).0.0 ≡ cell

-- The cell is listed, in the gate's group. It is a conductor, or an input that a wire feeds.
pub record IsCellOfGate (t : Tables) (states : List State) (k : ℕ) (cell : ℤ × ℤ) : Type 0 where
  pub number : ℕ
  pub listed : serial t cell ≡ suc number
  pub grouped : group t number ≡ k
  pub state : (cell_state (box_plane t states) cell ≡ Conductor) ⊎ IsWireEnd t k cell

-- each cell that is drawn is one of the gate's
abbrev pub HasCellsOfGate : Tables → List State → (k : ℕ) → TableGate → GateDrawing → Type 0
HasCellsOfGate t states k gate drawing =
    (m : ℕ) → m < length drawing.cells → get_or drawing.cells m Empty ≢ Empty
    → IsCellOfGate t states k (place_cell gate drawing m)

-- the gate's drawing keeps its law, and each of its cells is there
pub record IsGateThere (t : Tables) (states : List State) (k : ℕ) : Type 0 where
  pub lawful : IsLawful (gate_drawing t (table_gate t k))
  pub cells : HasCellsOfGate t states k (table_gate t k) (gate_drawing t (table_gate t k))

-- a listed cell in a gate's group is drawn in the gate
abbrev pub IsDrawnInGate : Tables → (n : ℕ) → Type 0
IsDrawnInGate t n =
    group t n < length t.gates
    → cell_state (gate_plane (sourced_gate t (table_gate t (group t n))).placed)
    (listed_cell t.cells n) ≢ Empty

-- A wire leads from a port to another cell, that of an input. It has a cell, its cells are listed,
-- in its group, and each cell of its path is beside the next.
pub record IsWireThere (t : Tables) (w : ℕ) (wire : TableWire) : Type 0 where
  pub begins : IsPort t wire.from
  pub ends : IsPort t (input_port wire.to)
  pub two_ends : (point_at t wire.from).0.0 ≢ (input_point t wire.to).0.0
  pub some : 0 < wire.size
  pub inside : wire.start + wire.size ≤ length t.cells
  pub grouped : (i : ℕ) → i < wire.size → group t (wire.start + i) ≡ length t.gates + w
  pub goes_on : (i : ℕ) → i ≤ wire.size → IsNear (wire_path t wire i) (wire_path t wire (suc i))

-- a listed cell in a wire's group is one of the wire's cells
abbrev pub IsOnWire : Tables → (n : ℕ) → Type 0
IsOnWire t n =
    length t.gates ≤ group t n
    → (wire_number t n < length t.wires) × ((table_wire t (wire_number t n)).start ≤ n)
    × (n < (table_wire t (wire_number t n)).start + (table_wire t (wire_number t n)).size)

-- beside a wire's cell there is nothing but its path: the cell before it, itself, the one after it
abbrev pub IsAlone : Tables → TableWire → (i : ℕ) → Type 0
IsAlone t wire i =
    (cell : ℤ × ℤ) → IsNear cell (wire_path t wire (suc i))
    → (serial t cell ≡ 0)
    ⊎ ((j : ℕ) × (j < 3) × (serial t cell ≡ serial t (wire_path t wire (i + j))))

-- the input at the end of a wire is fed by this wire, and a driven one by its drive
abbrev pub FeedsItsEnd : Tables → (w : ℕ) → Type 0
FeedsItsEnd t w = IsFed t (table_wire t w).to (Wire w)

abbrev pub IsDrivenInput : Tables → (d : ℕ) → GateInput → Type 0
IsDrivenInput t d at = IsPort t (input_port at) × IsFed t at (Driven d)

-- what feeds an input leads there
abbrev pub FeedsInput : Tables → GateInput → Feed → Type 0
FeedsInput t at (Wire w) = (w < length t.wires) × ((table_wire t w).to ≡ at)
FeedsInput t at (Driven d) = slice_get t.driven d ≡ Some at

abbrev pub IsFedRightly : Tables → GateInput → Type 0
IsFedRightly t at = (feed : Feed) × IsFed t at feed × FeedsInput t at feed
