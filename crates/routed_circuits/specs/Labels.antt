-- Labelled planes: of each cell it is known which gate or wire has it.
use Rattle.std.specs.Prelude.{ℤ, ℕ, suc, ◌+◌, ◌<◌, ◌≤◌, ◌≡◌, ◌≢◌, ◌⊎◌, if◌then◌else◌, List, Contains, Some, slice_get}
use Rattle.ww_rule.specs.declared.pattern.State.TheVariants.{Empty, Head, Conductor}
use Rattle.ww_rule.specs.Wireworld.{Plane}
use Rattle.gate_laws.specs.Signals.{Signal, cell_state, is_lit}
use Rattle.gate_laws.specs.Wires.{Wire, IsNear, wire_state, AreWiresDrawn}
use Rattle.gate_laws.specs.Gates.{IsGateForPeriod}
use Rattle.routed_circuits.specs.Routed.{PlacedGate, gate_plane, gates_plane, StandAllApart}

-- whose a cell is: nobody's, that of a gate, or that of a wire and of a place on it
pub data Owner : Type 0 where
  Nobody : Owner
  OfGate : ℕ → Owner
  OfWire : (wire place : ℕ) → Owner

-- the cell is drawn in the gate of this number
abbrev pub IsGateCell : List PlacedGate → ℕ → ℤ × ℤ → Type 0
IsGateCell gates k cell =
    (placed : PlacedGate) × (slice_get gates k ≡ Some placed)
    × (cell_state (gate_plane placed) cell ≢ Empty)

-- the cell is the one of the wire of this number at this place, from 0
abbrev pub IsWireCell : List Wire → (w i : ℕ) → ℤ × ℤ → Type 0
IsWireCell wires w i cell =
    (wire : Wire) × (slice_get wires w ≡ Some wire) × (i < wire.size)
    × (cell ≡ wire.path (suc i))

-- Each label says whose the cell is, and each cell of a gate or a wire has its label: so no cell is
-- of two. What is nobody's is empty.
pub record AreLabels (gates : List PlacedGate) (wires : List Wire) (plane : Plane)
    (owner : ℤ × ℤ → Owner) : Type 0 where
  pub gate_cells : (k : ℕ) (cell : ℤ × ℤ) → IsGateCell gates k cell → owner cell ≡ OfGate k
  pub wire_cells : (w i : ℕ) (cell : ℤ × ℤ) → IsWireCell wires w i cell
      → owner cell ≡ OfWire w i
  pub of_gates : (k : ℕ) (cell : ℤ × ℤ) → owner cell ≡ OfGate k → IsGateCell gates k cell
  pub of_wires : (w i : ℕ) (cell : ℤ × ℤ) → owner cell ≡ OfWire w i
      → IsWireCell wires w i cell
  pub of_nobody : (cell : ℤ × ℤ) → owner cell ≡ Nobody → cell_state plane cell ≡ Empty

-- Beside a gate's cell there are its own cells and those of wires. Beside a wire's cell there are
-- those of its path alone, the ones before and after it.
pub record OwnersStandApart (wires : List Wire) (owner : ℤ × ℤ → Owner) : Type 0 where
  pub beside_gates : (k l : ℕ) (cell other : ℤ × ℤ) → owner cell ≡ OfGate k → IsNear other cell
      → owner other ≡ OfGate l → l ≡ k
  pub beside_wires : (w i : ℕ) (wire : Wire) (cell : ℤ × ℤ) → slice_get wires w ≡ Some wire
      → i < wire.size → IsNear cell (wire.path (suc i)) → (owner cell ≡ Nobody)
      ⊎ ((j : ℕ) × (i ≤ j) × (j ≤ i + 2) × (cell ≡ wire.path j))

-- A wire has a cell, and each cell of its path is beside the next. It leads from a gate's cell to
-- another one, of the input.
pub record IsPathOf (wire : Wire) (owner : ℤ × ℤ → Owner) : Type 0 where
  pub some : 0 < wire.size
  pub goes_on : (i : ℕ) → i ≤ wire.size → IsNear (wire.path i) (wire.path (suc i))
  pub begins : wire.path 0 ≡ wire.from.cell
  pub ends : wire.path (suc wire.size) ≡ wire.to.cell
  pub from_gate : (k : ℕ) × (owner wire.from.cell ≡ OfGate k)
  pub to_gate : (k : ℕ) × (owner wire.to.cell ≡ OfGate k)
  pub two_ends : wire.from.cell ≢ wire.to.cell

-- No two wires end at one cell, and none at a driven input.
pub record HaveOwnEnds (wires : List Wire) (ins : List Signal) : Type 0 where
  pub one : (w v : ℕ) (wire other : Wire) → slice_get wires w ≡ Some wire
      → slice_get wires v ≡ Some other → wire.to.cell ≡ other.to.cell → w ≡ v
  pub driven : (wire : Wire) (s : Signal) → Contains wires wire → Contains ins s
      → s.cell ≢ wire.to.cell

-- The states at generation 0: gates have conductors, but that an input is a head where a wire's
-- electron is in it; on wires are their electrons.
pub record HasStates (period : ℕ) (wires : List Wire) (plane : Plane)
    (owner : ℤ × ℤ → Owner) : Type 0 where
  pub on_gates : (k : ℕ) (cell : ℤ × ℤ) → owner cell ≡ OfGate k
      → ((wire : Wire) → Contains wires wire → cell ≢ wire.to.cell)
      → cell_state plane cell ≡ Conductor
  pub ends : (wire : Wire) → Contains wires wire → cell_state plane wire.to.cell
      ≡ (if is_lit period wire.to 0 then Head else Conductor)
  pub on_wires : (wire : Wire) → Contains wires wire → (i rest : ℕ) → i + suc rest ≡ wire.size
      → cell_state plane (wire.path (suc i)) ≡ wire_state period wire.to rest

-- A plane in which each cell has one owner, so that its gates and wires can be tested cell by cell.
pub record IsLabelled (period : ℕ) (gates : List PlacedGate) (wires : List Wire)
    (ins : List Signal) (plane : Plane) (owner : ℤ × ℤ → Owner) : Type 0 where
  pub laws : (placed : PlacedGate) → Contains gates placed → IsGateForPeriod period placed.gate
  pub labels : AreLabels gates wires plane owner
  pub apart : OwnersStandApart wires owner
  pub paths : (wire : Wire) → Contains wires wire → IsPathOf wire owner
  pub own_ends : HaveOwnEnds wires ins
  pub states : HasStates period wires plane owner

-- in a labelled plane the gates stand apart, and the wires are drawn between them
abbrev pub LabelledAreDrawn : Type 0
LabelledAreDrawn =
    (period : ℕ) (gates : List PlacedGate) (wires : List Wire) (ins : List Signal) (plane : Plane)
    (owner : ℤ × ℤ → Owner) → IsLabelled period gates wires ins plane owner
    → StandAllApart gates × AreWiresDrawn period wires ins (gates_plane gates) plane
