-- What a check of tables shows of times, electrons, sources and ports.
use Rattle.std.specs.Prelude.{pos, ℕ, suc, ◌+◌, ◌<◌, ◌≡◌, if◌then◌else◌, List, length, Some, slice_get}
use Rattle.ww_rule.specs.declared.pattern.State.{State}
use Rattle.ww_rule.specs.declared.pattern.State.TheVariants.{Head, Conductor}
use Rattle.gate_laws.specs.Signals.{cell_state, is_lit}
use Rattle.gate_laws.specs.Wires.{wire_state}
use Rattle.pattern_reading.specs.declared.ports.PortLine.{PortLine}
use Rattle.cell_core.specs.declared.cells.Src.{Src}
use Rattle.cell_core.specs.declared.cells.Src.TheVariants.{Input, Zero, Cell as Made}
use Rattle.cell_core.specs.declared.cells.Cell.TheVariants.{Or as OrOf, Xor as XorOf, AndNot as AndNotOf}
use Rattle.cell_core.specs.declared.list.CellList.{CellList}
use Rattle.routed_circuits.specs.Runs.{src_at}
use Rattle.routed_circuits.specs.Lists.{DelaysSource}
use Rattle.gate_library.specs.declared.circuit.DrawnPort.{DrawnPort}
use Rattle.gate_library.specs.declared.gate.Answer.{Answer}
use Rattle.gate_library.specs.declared.gate.Answer.TheVariants.{Copy, Or, Xor, AndNot}
use Rattle.gate_library.specs.Lawful.{answer_at, FitsPeriod}
use Rattle.route_tables.specs.declared.tables.GateInput.{GateInput}
use Rattle.route_tables.specs.declared.tables.Tables.{Tables}
use Rattle.route_tables.specs.Tables.{table_gate, table_wire, gate_drawing, sourced_gate, sourced_wire, dark_wire, IsPort, point_at, input_point, box_plane}

-- The states at generation 0 of a wire's cells, and of the input at its end, are those of the start
-- bits on their way.
pub record ShowsStarts (t : Tables) (states : List State) (period w : ℕ) : Type 0 where
  pub end : let wire = dark_wire t (sourced_wire t (table_wire t w)) in
      cell_state (box_plane t states) wire.to.cell
      ≡ (if is_lit period wire.to 0 then Head else Conductor)
  pub cells : (i rest : ℕ) → let wire = dark_wire t (sourced_wire t (table_wire t w)) in
      i + suc rest ≡ wire.size
      → cell_state (box_plane t states) (wire.path (suc i)) ≡ wire_state period wire.to rest

-- the gate can be used at this period
abbrev pub FitsItsPeriod : Tables → (period k : ℕ) → Type 0
FitsItsPeriod t period k =
    FitsPeriod (gate_drawing t (table_gate t k)).timing (gate_drawing t (table_gate t k)).time period
    (table_gate t k).later

-- a wire's length fits its latches, which lead from its source to that of its end
abbrev pub IsDelayedByWire : Tables → (period w : ℕ) → Type 0
IsDelayedByWire t period w = DelaysSource period t.list (sourced_wire t (table_wire t w))

-- an output's source is the answer to those of the inputs: one of them, or a listed cell of two
abbrev pub IsAnsweredBy : CellList → (ins : List Src) → Answer → Src → Type 0
IsAnsweredBy list ins (Copy i) out = out ≡ src_at ins i
IsAnsweredBy list ins (Or i j) out =
    (n : ℕ) × (out ≡ Made n) × (slice_get list.cells n ≡ Some (OrOf (src_at ins i) (src_at ins j)))
IsAnsweredBy list ins (Xor i j) out =
    (n : ℕ) × (out ≡ Made n) × (slice_get list.cells n ≡ Some (XorOf (src_at ins i) (src_at ins j)))
IsAnsweredBy list ins (AndNot i j) out =
    (n : ℕ) × (out ≡ Made n)
    × (slice_get list.cells n ≡ Some (AndNotOf (src_at ins i) (src_at ins j)))

-- each port of a gate has a source, and those of the outputs are the answers
pub record HasPortSources (t : Tables) (k : ℕ) : Type 0 where
  pub ins : length (table_gate t k).ins ≡ length (sourced_gate t (table_gate t k)).placed.gate.ins
  pub outs : length (table_gate t k).outs ≡ length (sourced_gate t (table_gate t k)).placed.gate.outs
  pub answers : (o : ℕ) → o < length (table_gate t k).outs
      → IsAnsweredBy t.list (table_gate t k).ins (answer_at (gate_drawing t (table_gate t k)) o)
      (src_at (table_gate t k).outs o)

-- the input of this number is the first point of a driven input, dark at generation 0
pub record IsInput (t : Tables) (states : List State) (i : ℕ) (line : PortLine) : Type 0 where
  pub at : GateInput
  pub driven : slice_get t.driven i ≡ Some at
  pub point : input_point t at ≡ (((pos line.x, pos line.y), 0), Input i)
  pub dark : cell_state (box_plane t states) (pos line.x, pos line.y) ≡ Conductor

-- a driven input that is none of the circuit's is constant 0
abbrev pub IsDark : Tables → GateInput → Type 0
IsDark t at = (input_point t at).1 ≡ Zero

-- of these ports one is at a cell, is lit first at a generation, and has a source
pub record ShowsAt (t : Tables) (ports : List DrawnPort) (i x y first : ℕ) (source : Src) : Type 0 where
  pub at : DrawnPort
  pub said : slice_get ports i ≡ Some at
  pub there : IsPort t at
  pub point : point_at t at ≡ (((pos x, pos y), first), source)
