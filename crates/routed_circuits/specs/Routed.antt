-- Routed planes: gates that stand apart, joined by wires.
use Rattle.std.specs.Prelude.{ℤ, ◌+ℤ◌, ℕ, suc, ◌+◌, ◌<◌, ◌≤◌, ◌≡◌, ◌↔◌, ◌⊎◌, ⊤, Bool, List, [], ◌∷◌, ◌++◌, length, map, Contains, Some, slice_get}
use Rattle.ww_rule.specs.declared.pattern.State.TheVariants.{Empty}
use Rattle.ww_rule.specs.Wireworld.{Plane}
use Rattle.ww_rule.specs.Laws.{moved}
use Rattle.gate_laws.specs.Signals.{Signal, CarriesSignals}
use Rattle.gate_laws.specs.Wires.{Wire, AreWiresDrawn, ComesCyclesLater}
use Rattle.gate_laws.specs.Rows.{Port, signals_at}
use Rattle.gate_laws.specs.Laws.{StandApart, side_by_side}
use Rattle.gate_laws.specs.Gates.{Gate, gate_answer, IsGateForPeriod}

-- a gate that stands so many columns east and rows south of its drawing, and the generation at which
-- its first use begins
pub record PlacedGate : Type 0 where
  pub gate : Gate
  pub x : ℤ
  pub y : ℤ
  pub first : ℕ

abbrev pub gate_plane : PlacedGate → Plane
gate_plane placed = moved placed.x placed.y placed.gate.plane

-- where a port of the drawing stands, and the generation of its first cycle
abbrev pub placed_port : PlacedGate → Port → Port
placed_port placed port =
    ((port.0.0 +ℤ placed.x, port.0.1 +ℤ placed.y), placed.first + port.1)

abbrev pub placed_ins : PlacedGate → List Port
placed_ins placed = map (placed_port placed) placed.gate.ins

abbrev pub placed_outs : PlacedGate → List Port
placed_outs placed = map (placed_port placed) placed.gate.outs

-- all gates on one plane
abbrev pub gates_plane : List PlacedGate → Plane
gates_plane [] = λ x y. Empty
gates_plane (placed ∷ gates) = side_by_side (gate_plane placed) (gates_plane gates)

abbrev pub StandAllApart : List PlacedGate → Type 0
StandAllApart [] = ⊤
StandAllApart (placed ∷ gates) =
    ((other : PlacedGate) → Contains gates other → StandApart (gate_plane placed) (gate_plane other))
    × StandAllApart gates

-- the signals of the ports of all gates, if these are their bits by the number of the gate, the
-- cycle and the number of the port
abbrev pub signals_of : (PlacedGate → List Port) → List PlacedGate
    → (bits : (gate t i : ℕ) → Bool) → List Signal
signals_of ports [] bits = []
signals_of ports (placed ∷ gates) bits =
    signals_at (ports placed) (bits 0) ++ signals_of ports gates (λ gate. bits (suc gate))

-- Each gate is one for this period. The gates stand apart, and the bits of their outputs are their
-- answers to those of their inputs.
pub record AreGates (period : ℕ) (gates : List PlacedGate)
    (in_bits out_bits : (gate t i : ℕ) → Bool) : Type 0 where
  pub laws : (placed : PlacedGate) → Contains gates placed → IsGateForPeriod period placed.gate
  pub apart : StandAllApart gates
  pub answers : (k : ℕ) (placed : PlacedGate) → slice_get gates k ≡ Some placed → (t o : ℕ)
      → o < length placed.gate.outs
      → out_bits k t o ≡ gate_answer placed.gate (in_bits k t) o

-- gates carry the signals of their inputs to those of their outputs
abbrev pub GatesCarry : Type 0
GatesCarry =
    (period : ℕ) → 3 ≤ period → (gates : List PlacedGate)
    (in_bits out_bits : (gate t i : ℕ) → Bool) → AreGates period gates in_bits out_bits
    → CarriesSignals period (gates_plane gates) (signals_of placed_ins gates in_bits)
    (signals_of placed_outs gates out_bits)

-- The plane has the gates, and wires between them. Each input of a gate is at the end of one wire, or
-- is driven. Each wire begins at a port, an output or an input, where several wires may begin; it ends
-- at another cell, and brings its bits some cycles later.
pub record IsRouted (period : ℕ) (gates : List PlacedGate)
    (in_bits out_bits : (gate t i : ℕ) → Bool) (wires : List Wire) (ins : List Signal)
    (plane : Plane) : Type 0 where
  pub gates_are : AreGates period gates in_bits out_bits
  pub fed : (s : Signal) → Contains (signals_of placed_ins gates in_bits) s
      ↔ Contains (map (λ wire. wire.to) wires ++ ins) s
  pub drawn : AreWiresDrawn period wires ins (gates_plane gates) plane
  pub sources : (wire : Wire) → Contains wires wire
      → Contains (signals_of placed_ins gates in_bits ++ signals_of placed_outs gates out_bits)
      wire.from
  pub come : (wire : Wire) → Contains wires wire
      → (m : ℕ) × ComesCyclesLater period wire.size m wire.from wire.to

-- A routed plane carries the signals of its driven inputs to those of all ports. Of the cells of
-- wires nothing is said: a lone cell, which is a gate, splits a wire and shows its bits.
abbrev pub RoutedCarry : Type 0
RoutedCarry =
    (period : ℕ) → 3 ≤ period → (gates : List PlacedGate)
    (in_bits out_bits : (gate t i : ℕ) → Bool) (wires : List Wire) (ins : List Signal)
    (plane : Plane) → IsRouted period gates in_bits out_bits wires ins plane
    → CarriesSignals period plane ins
    (signals_of placed_ins gates in_bits ++ signals_of placed_outs gates out_bits)
