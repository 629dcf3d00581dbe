-- Laws of planes that carry signals: put side by side, joined by wires, and run later or more
-- slowly.
use Rattle.std.specs.Prelude.{ℤ, ℕ, ◌+◌, ◌*◌, ◌<◌, ◌≤◌, ◌≡◌, ◌≢◌, ◌↔◌, Bool, List, [], ◌∷◌, ◌++◌, map, Contains}
use Rattle.ww_rule.specs.declared.pattern.State.{State}
use Rattle.ww_rule.specs.declared.pattern.State.TheVariants.{Empty, Conductor}
use Rattle.ww_rule.specs.Wireworld.{Plane}
use Rattle.ww_rule.specs.Injections.{due_of_streams}
use Rattle.gate_laws.specs.Signals.{Signal, cell_state, is_lit, due_of_signals, CarriesSignals}
use Rattle.gate_laws.specs.Wires.{IsNear, Wire, HasWires, ComesByWire, ComesCyclesLater}
use Rattle.gate_laws.specs.Rows.{Port, signals_of_rows, HasNoElectrons, AnswersEachRow}

-- the signals of rows of bits drive a plane as the rows do
abbrev pub RowsAreSignals : Type 0
RowsAreSignals =
    (period : ℕ) → 0 < period → (cells : List (ℕ × ℕ)) (rows : List (List Bool))
    → due_of_signals period (signals_of_rows cells rows) ≡ due_of_streams period cells rows

-- the plane has one cell, a conductor
pub record IsLoneCell (p : Plane) (cell : ℤ × ℤ) : Type 0 where
  pub conductor : cell_state p cell ≡ Conductor
  pub others : (other : ℤ × ℤ) → other ≢ cell → cell_state p other ≡ Empty

-- a lone cell carries each signal from itself to itself
abbrev pub LoneCellsCarry : Type 0
LoneCellsCarry =
    (period : ℕ) → 3 ≤ period → (p : Plane) (s : Signal) → IsLoneCell p s.cell
    → CarriesSignals period p (s ∷ []) (s ∷ [])

-- inputs may stand in any order, and outputs too; outputs may be left out, and an input shows its
-- own signal
abbrev pub OrderIsFree : Type 0
OrderIsFree =
    (period : ℕ) (p : Plane) (ins outs inputs outputs : List Signal)
    → ((s : Signal) → Contains ins s ↔ Contains inputs s)
    → ((s : Signal) → Contains outputs s → Contains (ins ++ outs) s)
    → CarriesSignals period p ins outs → CarriesSignals period p inputs outputs

-- two signals of one cell that are lit at the same generations
pub record AreLitAlike (period : ℕ) (s other : Signal) : Type 0 where
  pub cell : s.cell ≡ other.cell
  pub lit : (g : ℕ) → is_lit period s g ≡ is_lit period other g

-- one of these signals is like that one
abbrev pub HasLitAlike : (period : ℕ) → List Signal → Signal → Type 0
HasLitAlike period signals s =
    (other : Signal) × Contains signals other × AreLitAlike period s other

-- Signals that are lit alike may stand for each other, whatever their first cycles and bits are. So
-- a signal whose first bit is 0 may be said to begin a period later, with the bits that follow.
abbrev pub SignalsLitAlike : Type 0
SignalsLitAlike =
    (period : ℕ) (p : Plane) (ins outs inputs outputs : List Signal)
    → ((s : Signal) → Contains ins s → HasLitAlike period inputs s)
    → ((s : Signal) → Contains inputs s → HasLitAlike period ins s)
    → ((s : Signal) → Contains outputs s → HasLitAlike period (ins ++ outs) s)
    → CarriesSignals period p ins outs → CarriesSignals period p inputs outputs

-- the signal so many generations later
abbrev pub begun_later : ℕ → Signal → Signal
begun_later d s = record { cell = s.cell; first = d + s.first; bit = s.bit }

-- a plane without electrons carries its signals as many generations later, however many these are
abbrev pub PlanesStartLater : Type 0
PlanesStartLater =
    (period d : ℕ) → 0 < period → (p : Plane) (ins outs : List Signal) → HasNoElectrons p
    → CarriesSignals period p ins outs
    → CarriesSignals period p (map (begun_later d) ins) (map (begun_later d) outs)

-- the cells that are not empty in one plane lie two or more columns or rows from those of the other
abbrev pub StandApart : Plane → Plane → Type 0
StandApart p q =
    (cell other : ℤ × ℤ) → cell_state p cell ≢ Empty → IsNear other cell → cell_state q other ≡ Empty

-- the cells of both planes; where one is not empty, it stands
abbrev pub or_state : State → State → State
or_state Empty other = other
or_state state _ = state

abbrev pub side_by_side : Plane → Plane → Plane
side_by_side p q x y = or_state (p x y) (q x y)

-- two planes that stand apart carry their signals side by side
abbrev pub PlanesUnite : Type 0
PlanesUnite =
    (period : ℕ) (p q : Plane) (ins outs inputs outputs : List Signal) → StandApart p q
    → CarriesSignals period p ins outs → CarriesSignals period q inputs outputs
    → CarriesSignals period (side_by_side p q) (ins ++ inputs) (outs ++ outputs)

-- Wires take the place of the drive of the inputs at their ends, if the signals of these are those
-- that come by the wires. All other ports show what they showed, and are ready as they were, so
-- more wires can be laid.
abbrev pub WiresFeed : Type 0
WiresFeed =
    (period : ℕ) → 3 ≤ period → (wires : List Wire) (ins outs : List Signal) (before after : Plane)
    → HasWires period wires ins outs before after
    → CarriesSignals period before (map (λ wire. wire.to) wires ++ ins) outs
    → CarriesSignals period after ins outs

-- a wire that is m cycles long holds back the bits by m cycles
abbrev pub WiresDelay : Type 0
WiresDelay =
    (period size m : ℕ) (from to : Signal) → 0 < period
    → ComesCyclesLater period size m from to → ComesByWire period size from to

-- A part without electrons that answers row by row does so at each multiple of its period. A part
-- with electrons has its one period, and one whose rows are not independent is another part at a
-- multiple.
abbrev pub AnswersGoSlower : Type 0
AnswersGoSlower =
    (period times : ℕ) → 0 < period → 0 < times → (p : Plane) → HasNoElectrons p
    → (ins outs : List Port) (answer : (ℕ → Bool) → ℕ → Bool)
    → AnswersEachRow period p ins outs answer → AnswersEachRow (times * period) p ins outs answer
