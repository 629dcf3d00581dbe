-- What the cells that a port table names show when rows of input bits drive the pattern. Nothing
-- here asks for a netlist.
use Rattle.std.specs.Prelude.{pos, ℕ, ◌+◌, ◌*◌, ◌<◌, ◌≡◌, ◌↔◌, List, length, Bool, true, Some, slice_get}
use Rattle.ww_rule.specs.declared.pattern.State.TheVariants.{Head}
use Rattle.ww_rule.specs.Wireworld.{Plane, Due, driven}
use Rattle.ww_rule.specs.Grid.{Grid}
use Rattle.ww_rule.specs.Injections.{due_of_streams}
use Rattle.pattern_reading.specs.declared.ports.Ports.{Ports}
use Rattle.pattern_reading.specs.declared.ports.PortLine.{PortLine}
use Rattle.pattern_reading.specs.declared.ports.NetLine.{NetLine}
use Rattle.pattern_reading.specs.Ports.{cells_of}
use Rattle.pattern_reading.specs.Pattern.{ReadsAsPattern}
use Rattle.pattern_reading.specs.PortTable.{ReadsAsPorts}

-- a text spells a pattern and a port table: it reads as both
pub record Spells (text : List ℕ) (grid : Grid) (ports : Ports) : Type 0 where
  pub reads : ReadsAsPattern text grid
  pub table : ReadsAsPorts text grid.width grid.height ports

-- The drive of rows of input bits, one row per cycle: for each cycle t and each input i whose bit
-- is 1 there is one injection, at generation t P at the cell of input i, and there is no other. No
-- bit is left out if the rows have a bit for each IN line. They do if the table names a design's
-- inputs and the rows are its input rows (`RowsFitPorts`).
abbrev pub drive : Ports → List (List Bool) → Due
drive ports rows = due_of_streams ports.p (cells_of ports.ins) rows

-- the cell at x, y is a head at generation g exactly when g = first + t period for a cycle t, below
-- the number of cycles, in which the bit is 1
abbrev pub ShowsBitsFrom : (first period cycles : ℕ) → (ℕ → Bool) → (g : ℕ) → Plane → (x y : ℕ)
    → Type 0
ShowsBitsFrom first period cycles bit g plane x y =
    (plane (pos x) (pos y) ≡ Head) ↔ ((t : ℕ) × (t < cycles) × (g ≡ first + t * period)
    × (bit t ≡ true))

-- the cell of an output shows its bits, the first cycle at the latency
abbrev pub ShowsOutput : Ports → (cycles : ℕ) → (ℕ → Bool) → (g : ℕ) → Plane → PortLine → Type 0
ShowsOutput ports cycles bit g plane cell =
    ShowsBitsFrom ports.l ports.p cycles bit g plane cell.x cell.y

-- when these N rows drive the pattern, each output's cell shows the output's bits at every
-- generation below L + N P
abbrev pub ShowsOutputs : Plane → Ports → List (List Bool) → (bit : (cycle output : ℕ) → Bool)
    → Type 0
ShowsOutputs plane ports rows bit =
    (output : ℕ) (cell : PortLine) → slice_get ports.outs output ≡ Some cell
    → (g : ℕ) → g < ports.l + length rows * ports.p
    → ShowsOutput ports (length rows) (λ t. bit t output) g (driven (drive ports rows) plane g) cell

-- when these N rows drive the pattern, the cell of each net's line shows the net's bits at every
-- generation below offset + N P; the lines stand in the order of the nets
abbrev pub ShowsNetLines : {X : Type 0} → Plane → Ports → List (List Bool) → (nets : List X)
    → (bit : (cycle : ℕ) → X → Bool) → Type 0
ShowsNetLines {X} plane ports rows nets bit =
    (number : ℕ) (net : X) (line : NetLine) → slice_get nets number ≡ Some net
    → slice_get ports.nets number ≡ Some line
    → (g : ℕ) → g < line.offset + length rows * ports.p
    → ShowsBitsFrom line.offset ports.p (length rows) (λ t. bit t net) g
    (driven (drive ports rows) plane g) line.x line.y
