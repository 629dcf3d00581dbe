-- Routed planes that compute lists of cells.
use Rattle.std.specs.Prelude.{ℤ, ℕ, ◌+◌, ◌*◌, suc, ◌<◌, ◌≤◌, ◌≡◌, ◌↔◌, Bool, false, List, [], ◌∷◌, ◌++◌, length, map, flat_map, Contains}
use Rattle.ww_rule.specs.Wireworld.{Plane}
use Rattle.gate_laws.specs.Signals.{Signal, CarriesSignals}
use Rattle.gate_laws.specs.Wires.{Wire, AreWiresDrawn}
use Rattle.gate_laws.specs.Rows.{Port, signal_of}
use Rattle.gate_laws.specs.Gates.{IsGateForPeriod}
use Rattle.routed_circuits.specs.Routed.{PlacedGate, placed_ins, placed_outs, gates_plane, StandAllApart}
use Rattle.cell_core.specs.declared.cells.Src.{Src}
use Rattle.cell_core.specs.declared.list.CellList.{CellList}
use Rattle.cell_core.specs.Meaning.{bit_of}
use Rattle.routed_circuits.specs.Runs.{src_at, list_bit, IsDelayed}

-- a port, and the source whose bits it has
abbrev pub Point : Type 0
Point = Port × Src

-- a placed gate, with the sources of its inputs and of its outputs
pub record SourcedGate : Type 0 where
  pub placed : PlacedGate
  pub ins : List Src
  pub outs : List Src

abbrev pub placed_of : SourcedGate → PlacedGate
placed_of gate = gate.placed

abbrev pub points_of : List Port → List Src → List Point
points_of [] sources = []
points_of (port ∷ ports) [] = []
points_of (port ∷ ports) (source ∷ sources) = (port, source) ∷ points_of ports sources

abbrev pub in_points : List SourcedGate → List Point
in_points gates = flat_map (λ gate. points_of (placed_ins gate.placed) gate.ins) gates

abbrev pub out_points : List SourcedGate → List Point
out_points gates = flat_map (λ gate. points_of (placed_outs gate.placed) gate.outs) gates

abbrev pub all_points : List SourcedGate → List Point
all_points gates = in_points gates ++ out_points gates

-- the signal at a point in the run of a list on rows of input bits
abbrev pub point_signal : CellList → List (List Bool) → Point → Signal
point_signal list rows point = signal_of point.0 (λ t. list_bit list rows t point.1)

-- a wire from a point to the point of an input, so many cycles long
pub record SourcedWire : Type 0 where
  pub size : ℕ
  pub path : ℕ → ℤ × ℤ
  pub from : Point
  pub to : Point
  pub cycles : ℕ

-- the wire with the signals of a run
abbrev pub wire_in_run : CellList → List (List Bool) → SourcedWire → Wire
wire_in_run list rows wire =
    record {
      size = wire.size;
      path = wire.path;
      from = point_signal list rows wire.from;
      to = point_signal list rows wire.to;
    }

-- The gate is one for this period. Each of its ports has a source, and those of its outputs have the
-- bits of its answer to those of its inputs.
pub record ComputesSources (period : ℕ) (list : CellList) (gate : SourcedGate) : Type 0 where
  pub law : IsGateForPeriod period gate.placed.gate
  pub ins : length gate.ins ≡ length gate.placed.gate.ins
  pub outs : length gate.outs ≡ length gate.placed.gate.outs
  pub computes : (inputs state : List Bool) (o : ℕ) → o < length gate.outs
      → bit_of list inputs state (src_at gate.outs o)
      ≡ gate.placed.gate.answer (map (bit_of list inputs state) gate.ins) o

-- The source at the wire's end is that at its beginning, as many latches later as the wire is
-- cycles long. A latch's start bit that would be in the wire's first cell, or before it, is 0.
pub record DelaysSource (period : ℕ) (list : CellList) (wire : SourcedWire) : Type 0 where
  pub time : wire.from.0.1 + suc wire.size ≡ wire.to.0.1 + wire.cycles * period
  pub source : IsDelayed list wire.cycles wire.from.1 wire.to.1
  pub clear : (t : ℕ) → t < wire.cycles → wire.size ≤ wire.to.0.1 + t * period
      → list_bit list [] t wire.to.1 ≡ false

-- A plane of gates and wires computes a list of cells. Each input of a gate is at the end of a
-- wire, or is driven. On each wire are the electrons of its latches' start bits: those that the run
-- without input bits has there.
pub record ComputesList (period : ℕ) (list : CellList) (gates : List SourcedGate)
    (wires : List SourcedWire) (ins : List Point) (plane : Plane) : Type 0 where
  pub gates_compute : (gate : SourcedGate) → Contains gates gate → ComputesSources period list gate
  pub apart : StandAllApart (map placed_of gates)
  pub fed : (point : Point) → Contains (in_points gates) point
      ↔ Contains (map (λ wire. wire.to) wires ++ ins) point
  pub begin : (wire : SourcedWire) → Contains wires wire → Contains (all_points gates) wire.from
  pub delay : (wire : SourcedWire) → Contains wires wire → DelaysSource period list wire
  pub drawn : AreWiresDrawn period (map (wire_in_run list []) wires) (map (point_signal list []) ins)
      (gates_plane (map placed_of gates)) plane

-- Such a plane carries, in each run, the signals of the driven inputs to those of all ports.
abbrev pub ListsAreCarried : Type 0
ListsAreCarried =
    (period : ℕ) → 3 ≤ period → (list : CellList) (gates : List SourcedGate)
    (wires : List SourcedWire) (ins : List Point) (plane : Plane)
    → ComputesList period list gates wires ins plane → (rows : List (List Bool))
    → CarriesSignals period plane (map (point_signal list rows) ins)
    (map (point_signal list rows) (all_points gates))
