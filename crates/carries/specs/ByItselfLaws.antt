-- A text that runs by itself has one pattern and one table, shows its run without a last
-- generation, and also runs by itself on its rows with rows of 0 after them.
use Rattle.std.specs.Prelude.{pos, ℕ, ◌+◌, ◌*◌, ◌≡◌, ◌↔◌, List, Bool, true, Some, slice_get}
use Rattle.ww_rule.specs.declared.pattern.State.TheVariants.{Head}
use Rattle.ww_rule.specs.Wireworld.{Plane, evolve}
use Rattle.ww_rule.specs.Grid.{plane_of}
use Rattle.pattern_reading.specs.declared.ports.PortLine.{PortLine}
use Rattle.pattern_reading.specs.declared.ports.NetLine.{NetLine}
use Rattle.netlist_core.specs.declared.model.Design.{Design}
use Rattle.netlist_core.specs.declared.flat.Flat.{Flat}
use Rattle.netlist_meaning.specs.Nets.{Net}
use Rattle.netlist_meaning.specs.Valuation.{Valuation, AreInputRows, output_bit}
use Rattle.netlist_meaning.specs.FlatValuation.{AreFlatRows}
use Rattle.carries.specs.ByItself.{ThenZeros, IsRunOnward, RunsByItself, RunsByItselfFlat}

-- a text that runs by itself, on any rows, has one grid and one table
abbrev pub RunsInOneWay : Type 0
RunsInOneWay =
    (text : List ℕ) (design : Design) (rows others : List (List Bool))
    (a : RunsByItself text design rows) (b : RunsByItself text design others)
    → (a.grid ≡ b.grid) × (a.ports ≡ b.ports)

-- the cell at x, y is a head at generation g exactly when g = first + t period for a cycle t in
-- which the bit is 1; there is no last cycle
abbrev pub ShowsBitsForever : (first period : ℕ) → (ℕ → Bool) → (g : ℕ) → Plane → (x y : ℕ) → Type 0
ShowsBitsForever first period bit g plane x y =
    (plane (pos x) (pos y) ≡ Head) ↔ ((t : ℕ) × (g ≡ first + t * period) × (bit t ≡ true))

-- in a run that goes on with bits 0, the cells of outputs and of nets show their bits at every
-- generation
pub record RunsWithoutEnd {text : List ℕ} {design : Design} {rows : List (List Bool)}
    (k : RunsByItself text design rows) (run : ℕ → Valuation) : Type 0 where
  pub outs : (output : ℕ) (cell : PortLine) → slice_get k.ports.outs output ≡ Some cell
      → (g : ℕ) → ShowsBitsForever k.ports.l k.ports.p (λ t. output_bit design (run t) output) g
      (evolve g (plane_of k.grid.rows)) cell.x cell.y
  pub nets : (number : ℕ) (net : Net) (line : NetLine) → slice_get k.seen number ≡ Some net
      → slice_get k.ports.nets number ≡ Some line
      → (g : ℕ) → ShowsBitsForever line.offset k.ports.p (λ t. run t net.place net.name) g
      (evolve g (plane_of k.grid.rows)) line.x line.y

abbrev pub RunnersGoOn : Type 0
RunnersGoOn =
    (text : List ℕ) (design : Design) (rows : List (List Bool)) (k : RunsByItself text design rows)
    (run : ℕ → Valuation) → IsRunOnward design rows run → RunsWithoutEnd k run

-- a text that runs by itself on rows also runs by itself on these rows with rows of 0 after them
abbrev pub ZerosChangeNothing : Type 0
ZerosChangeNothing =
    ((text : List ℕ) (design : Design) (rows all : List (List Bool)) → RunsByItself text design rows
    → ThenZeros rows all → AreInputRows design all → RunsByItself text design all)
    × ((text : List ℕ) (flat : Flat) (rows all : List (List Bool)) → RunsByItselfFlat text flat rows
    → ThenZeros rows all → AreFlatRows flat all → RunsByItselfFlat text flat all)
