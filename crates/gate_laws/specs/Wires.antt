-- Wires in a plane, from the cells of outputs to those of inputs.
use Rattle.std.specs.Prelude.{ℤ, pos, ◌+ℤ◌, ◌-ℤ◌, ◌≤ℤ◌, ℕ, suc, ◌+◌, ◌*◌, ◌<◌, ◌≤◌, ◌≡◌, ◌≢◌, if◌then◌else◌, false, ⊤, List, [], ◌∷◌, ◌++◌, Contains}
use Rattle.ww_rule.specs.declared.pattern.State.{State}
use Rattle.ww_rule.specs.declared.pattern.State.TheVariants.{Empty, Head, Tail, Conductor}
use Rattle.ww_rule.specs.Wireworld.{Plane}
use Rattle.gate_laws.specs.Signals.{Signal, cell_state, is_lit}

-- a cell lies within distance 1 of another: it is this cell or one of its eight neighbours
pub record IsNear (cell other : ℤ × ℤ) : Type 0 where
  pub west : (other.0 -ℤ pos 1) ≤ℤ cell.0
  pub east : cell.0 ≤ℤ (other.0 +ℤ pos 1)
  pub north : (other.1 -ℤ pos 1) ≤ℤ cell.1
  pub south : cell.1 ≤ℤ (other.1 +ℤ pos 1)

-- A wire of `size` cells, from a cell that shows one signal to the cell of an input, which is to
-- take another. Its path has size + 2 cells: cell 0 shows the one, cell size + 1 takes the other,
-- and those between them are the wire's.
pub record Wire : Type 0 where
  pub size : ℕ
  pub path : ℕ → ℤ × ℤ
  pub from : Signal
  pub to : Signal

-- no cell of the path comes twice, and each is beside the next
pub record IsWirePath (size : ℕ) (path : ℕ → ℤ × ℤ) : Type 0 where
  pub once : (i j : ℕ) → i ≤ suc size → j ≤ suc size → path i ≡ path j → i ≡ j
  pub goes_on : (i : ℕ) → i ≤ size → IsNear (path i) (path (suc i))

-- The signal at the end of a wire is lit size + 1 generations after the one at its beginning is,
-- and, before these, as the wire's own electrons light it. None of these is in its first cell.
pub record ComesByWire (period size : ℕ) (from to : Signal) : Type 0 where
  pub later : (g : ℕ) → is_lit period to (g + suc size) ≡ is_lit period from g
  pub clear : is_lit period to size ≡ false

-- The same by cycles: the wire is m cycles long, so the bits of one end are those of the other m
-- cycles later. The first m bits may be anything, but for those that would be at the wire's
-- beginning or before it.
pub record ComesCyclesLater (period size m : ℕ) (from to : Signal) : Type 0 where
  pub time : from.first + suc size ≡ to.first + m * period
  pub bits : (t : ℕ) → to.bit (m + t) ≡ from.bit t
  pub starts : (t : ℕ) → t < m → size ≤ to.first + t * period → to.bit t ≡ false

-- the wire has a cell, and its path leads from the cell of the one signal to that of the other
pub record IsWireDrawn (wire : Wire) : Type 0 where
  pub some : 0 < wire.size
  pub along : IsWirePath wire.size wire.path
  pub begins : wire.path 0 ≡ wire.from.cell
  pub ends : wire.path (suc wire.size) ≡ wire.to.cell

-- The state at generation 0 of a cell of a wire, where so many cells of the wire come after it. The
-- signal is the one at the wire's end: what will light the input's cell later is on its way.
abbrev pub wire_state : (period : ℕ) → Signal → (after : ℕ) → State
wire_state period to after =
    if is_lit period to (suc after) then Head else if is_lit period to after then Tail
    else Conductor

-- A plane without a wire, and the plane with it. The cells of the wire were empty. They have the
-- states of a wire. Nothing is drawn near one of them but the wire's path. The input's cell is a
-- head if its signal is lit at generation 0, else it is as it was.
pub record IsLaid (period : ℕ) (wire : Wire) (before after : Plane) : Type 0 where
  pub free : (i : ℕ) → i < wire.size → cell_state before (wire.path (suc i)) ≡ Empty
  pub states : (i rest : ℕ) → i + suc rest ≡ wire.size
      → cell_state after (wire.path (suc i)) ≡ wire_state period wire.to rest
  pub alone : (i : ℕ) → i < wire.size → (cell : ℤ × ℤ) → IsNear cell (wire.path (suc i))
      → cell_state after cell ≢ Empty
      → (j : ℕ) × (i ≤ j) × (j ≤ i + 2) × (cell ≡ wire.path j)
  pub end : cell_state after wire.to.cell
      ≡ (if is_lit period wire.to 0 then Head else cell_state before wire.to.cell)

-- no cell is on both wires, and they lead to two cells
pub record ShareNoCell (wire other : Wire) : Type 0 where
  pub cells : (i j : ℕ) → i < wire.size → j < other.size
      → wire.path (suc i) ≢ other.path (suc j)
  pub ends : wire.to.cell ≢ other.to.cell

abbrev pub AreDisjointWires : List Wire → Type 0
AreDisjointWires [] = ⊤
AreDisjointWires (wire ∷ wires) =
    ((other : Wire) → Contains wires other → ShareNoCell wire other) × AreDisjointWires wires

-- a cell that is not on the wire, nor the input's at its end
pub record IsAwayFrom (wire : Wire) (cell : ℤ × ℤ) : Type 0 where
  pub end : cell ≢ wire.to.cell
  pub cells : (i : ℕ) → i < wire.size → cell ≢ wire.path (suc i)

-- One plane is the other with wires, each of which ends at an input of its own. The inputs here are
-- those that are left. Of the signals, these premises ask for the cells, and for what is on the
-- wires at generation 0.
pub record AreWiresDrawn (period : ℕ) (wires : List Wire) (ins : List Signal)
    (before after : Plane) : Type 0 where
  pub each : (wire : Wire) → Contains wires wire → IsWireDrawn wire
  pub own : (wire : Wire) (s : Signal) → Contains wires wire → Contains ins s
      → s.cell ≢ wire.to.cell
  pub apart : AreDisjointWires wires
  pub laid : (wire : Wire) → Contains wires wire → IsLaid period wire before after
  pub others : (cell : ℤ × ℤ) → ((wire : Wire) → Contains wires wire → IsAwayFrom wire cell)
      → cell_state after cell ≡ cell_state before cell

-- The wires of the second plane lead from ports that are left, and each brings its signal. The
-- inputs and outputs here are those that are left.
pub record HasWires (period : ℕ) (wires : List Wire) (ins outs : List Signal)
    (before after : Plane) : Type 0 where
  pub drawn : AreWiresDrawn period wires ins before after
  pub sources : (wire : Wire) → Contains wires wire → Contains (ins ++ outs) wire.from
  pub come : (wire : Wire) → Contains wires wire
      → ComesByWire period wire.size wire.from wire.to
