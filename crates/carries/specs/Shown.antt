-- What a text that carries a design shows, cycle by cycle.
use Rattle.std.specs.Prelude.{pos, ℕ, ◌+◌, ◌*◌, ◌<◌, ◌≡◌, ◌≢◌, ◌↔◌, List, ◌++◌, length, Bool, true, false, Some, slice_get, All}
use Rattle.ww_rule.specs.declared.pattern.State.TheVariants.{Head}
use Rattle.ww_rule.specs.Wireworld.{driven}
use Rattle.ww_rule.specs.Grid.{plane_of}
use Rattle.pattern_reading.specs.declared.ports.PortLine.{PortLine}
use Rattle.pattern_reading.specs.declared.ports.NetLine.{NetLine}
use Rattle.netlist_core.specs.declared.model.Design.{Design}
use Rattle.netlist_meaning.specs.Nets.{Net}
use Rattle.netlist_meaning.specs.Valuation.{Valuation, AreInputRows, IsRun, output_bit}
use Rattle.pattern_reading.specs.declared.ports.Ports.{Ports}
use Rattle.carries.specs.Cells.{ShowsOutput, drive}
use Rattle.carries.specs.Carries.{Carries, NamesPorts}
use Rattle.carries.specs.Nets.{CarriesNets}

-- if the table names the design's inputs, each input row has a bit for each IN line
abbrev pub RowsFitPorts : Type 0
RowsFitPorts =
    (ports : Ports) (design : Design) (rows : List (List Bool)) → NamesPorts ports design
    → AreInputRows design rows
    → All (λ row. length row ≡ length ports.ins) rows

-- when rows of input bits drive the pattern, in a run on them:
pub record ShowsCycles {text : List ℕ} {design : Design} (c : Carries text design)
    (rows : List (List Bool)) (run : ℕ → Valuation) : Type 0 where
  -- the cell of an output is a head at generation L + t P, for each cycle t, exactly when the
  -- output's bit is 1 in the cycle
  pub bits : (output : ℕ) (cell : PortLine) → slice_get c.ports.outs output ≡ Some cell → (t : ℕ)
      → t < length rows
      → (driven (drive c.ports rows) (plane_of c.grid.rows) (c.ports.l + t * c.ports.p) (pos cell.x)
      (pos cell.y) ≡ Head) ↔ (output_bit design (run t) output ≡ true)
  -- and it is no head below generation L
  pub dark : (output : ℕ) (cell : PortLine) → slice_get c.ports.outs output ≡ Some cell → (g : ℕ)
      → g < c.ports.l
      → driven (drive c.ports rows) (plane_of c.grid.rows) g (pos cell.x) (pos cell.y) ≢ Head

-- a text that carries a design shows each cycle of each run
abbrev pub CarriesCycles : Type 0
CarriesCycles =
    (text : List ℕ) (design : Design) (c : Carries text design) (rows : List (List Bool))
    → AreInputRows design rows
    → (run : ℕ → Valuation) → IsRun design rows run → ShowsCycles c rows run

-- when no further bits come, the pattern goes on to show the run whose further rows are 0: so there
-- is no last generation
abbrev pub CarriesOnward : Type 0
CarriesOnward =
    (text : List ℕ) (design : Design) (c : Carries text design) (rows zeros : List (List Bool))
    → All (λ row. All (λ bit. bit ≡ false) row) zeros
    → AreInputRows design (rows ++ zeros) → (run : ℕ → Valuation) → IsRun design (rows ++ zeros) run
    → (output : ℕ) (cell : PortLine) → slice_get c.ports.outs output ≡ Some cell
    → (g : ℕ) → g < c.ports.l + length (rows ++ zeros) * c.ports.p
    → ShowsOutput c.ports (length (rows ++ zeros)) (λ t. output_bit design (run t) output) g
    (driven (drive c.ports rows) (plane_of c.grid.rows) g) cell

-- what the pattern shows in the first cycles of a longer run does not depend on later input bits
abbrev pub CarriesEachFront : Type 0
CarriesEachFront =
    (text : List ℕ) (design : Design) (c : Carries text design) (rows later : List (List Bool))
    (g : ℕ) → g < length rows * c.ports.p
    → driven (drive c.ports (rows ++ later)) (plane_of c.grid.rows) g
    ≡ driven (drive c.ports rows) (plane_of c.grid.rows) g

-- If a text carries the nets of a design, then in a run on rows that drive the pattern the cell of
-- a net's line is a head at generation offset + t P, for each cycle t, exactly when the net's bit
-- is 1 in the cycle.
abbrev pub CarriesNetCycles : Type 0
CarriesNetCycles =
    (text : List ℕ) (design : Design) (c : CarriesNets text design) (rows : List (List Bool))
    → AreInputRows design rows
    → (run : ℕ → Valuation) → IsRun design rows run
    → (number : ℕ) (net : Net) (line : NetLine) → slice_get c.nets number ≡ Some net
    → slice_get c.carried.ports.nets number ≡ Some line
    → (t : ℕ) → t < length rows
    → (driven (drive c.carried.ports rows) (plane_of c.carried.grid.rows)
    (line.offset + t * c.carried.ports.p) (pos line.x) (pos line.y) ≡ Head)
    ↔ (run t net.place net.name ≡ true)
