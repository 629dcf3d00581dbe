-- What it means that a text runs by itself: its pattern, which nothing drives, shows a run of a
-- design, or of a flat netlist, whose input bits are the given rows, and 0 from then on.
use Rattle.std.specs.Prelude.{ℕ, ◌+◌, ◌*◌, ◌<◌, ◌≡◌, List, [], ◌++◌, length, map, All, Bool, false, Some, slice_get}
use Rattle.ww_rule.specs.Wireworld.{Plane, evolve}
use Rattle.ww_rule.specs.Grid.{Grid, plane_of}
use Rattle.pattern_reading.specs.declared.ports.Ports.{Ports}
use Rattle.pattern_reading.specs.declared.ports.PortLine.{PortLine}
use Rattle.pattern_reading.specs.declared.ports.NetLine.{NetLine}
use Rattle.pattern_reading.specs.Ports.{names_of}
use Rattle.place_paths.specs.Paths.{name_and_path, names_and_paths}
use Rattle.netlist_core.specs.declared.model.Design.{Design}
use Rattle.netlist_core.specs.declared.flat.Flat.{Flat}
use Rattle.netlist_meaning.specs.Flat.{names_of_ports, listed_nets}
use Rattle.netlist_meaning.specs.FlatValuation.{AreFlatRows, IsFlatRun, start_bits, flat_output_bit}
use Rattle.netlist_meaning.specs.Nets.{Net}
use Rattle.netlist_meaning.specs.Places.{main_outputs}
use Rattle.netlist_meaning.specs.Valuation.{Valuation, AreInputRows, IsRun, output_bit}
use Rattle.carries.specs.Cells.{Spells, ShowsOutput, ShowsBitsFrom}
use Rattle.carries.specs.Nets.{AreSeenNets, NamesNets}

-- all = rows, followed by any number of rows whose bits are 0
abbrev pub ThenZeros : (rows all : List (List Bool)) → Type 0
ThenZeros rows all =
    (zeros : List (List Bool)) × All (λ row. All (λ bit. bit ≡ false) row) zeros
    × (all ≡ rows ++ zeros)

-- for N cycles, in the plane that nothing drives, each output's cell shows the output's bits at
-- every generation below L + N P
abbrev pub ShowsOutputsByItself : Plane → Ports → (cycles : ℕ) → (bit : (cycle output : ℕ) → Bool)
    → Type 0
ShowsOutputsByItself plane ports cycles bit =
    (output : ℕ) (cell : PortLine) → slice_get ports.outs output ≡ Some cell
    → (g : ℕ) → g < ports.l + cycles * ports.p
    → ShowsOutput ports cycles (λ t. bit t output) g (evolve g plane) cell

-- for N cycles, the cell of each net's line shows the net's bits at every generation below
-- offset + N P; the lines stand in the order of the nets
abbrev pub ShowsNetLinesByItself : {X : Type 0} → Plane → Ports → (cycles : ℕ) → (nets : List X)
    → (bit : (cycle : ℕ) → X → Bool) → Type 0
ShowsNetLinesByItself {X} plane ports cycles nets bit =
    (number : ℕ) (net : X) (line : NetLine) → slice_get nets number ≡ Some net
    → slice_get ports.nets number ≡ Some line
    → (g : ℕ) → g < line.offset + cycles * ports.p
    → ShowsBitsFrom line.offset ports.p cycles (λ t. bit t net) g (evolve g plane) line.x line.y

-- a run of the design on the rows, followed by any number of rows of 0
abbrev pub IsRunOnward : Design → List (List Bool) → (ℕ → Valuation) → Type 0
IsRunOnward design rows run =
    (all : List (List Bool)) → ThenZeros rows all → AreInputRows design all → IsRun design all run

-- There is a run on the rows and on any number of rows of 0 after them. In every such run each
-- output's cell shows the output's bits, and the cell of each net's line shows the net's bits, in
-- the plane that nothing drives. So there is no last generation.
pub record ShowsRunsByItself (plane : Plane) (ports : Ports) (design : Design) (seen : List Net)
    (rows : List (List Bool)) : Type 0 where
  pub run : (run : ℕ → Valuation) × IsRunOnward design rows run
  pub heads : (all : List (List Bool)) → ThenZeros rows all → AreInputRows design all
      → (run : ℕ → Valuation) → IsRun design all run
      → ShowsOutputsByItself plane ports (length all) (λ t. output_bit design (run t))
  pub nets : (all : List (List Bool)) → ThenZeros rows all → AreInputRows design all
      → (run : ℕ → Valuation) → IsRun design all run
      → ShowsNetLinesByItself plane ports (length all) seen (λ t net. run t net.place net.name)

-- A text runs by itself as a design does on rows of input bits: it spells a pattern and a port
-- table of one context, the table names no inputs but names the design's outputs and each net
-- except the clock nets, and the pattern shows the run without being driven.
pub record RunsByItself (text : List ℕ) (design : Design) (rows : List (List Bool)) : Type 0 where
  pub grid : Grid
  pub ports : Ports
  pub spells : Spells text grid ports
  pub contexts : ports.c ≡ 1
  pub no_inputs : ports.ins ≡ []
  pub outs : names_of ports.outs ≡ main_outputs design
  pub seen : List Net
  pub are_seen : AreSeenNets design seen
  pub nets : NamesNets ports seen
  pub rows_fit : AreInputRows design rows
  pub shows : ShowsRunsByItself (plane_of grid.rows) ports design seen rows

-- a run of the flat netlist, from its start on, on the rows followed by any number of rows of 0
abbrev pub IsFlatRunOnward : Flat → List (List Bool) → (ℕ → ℕ → Bool) → Type 0
IsFlatRunOnward flat rows run =
    (all : List (List Bool)) → ThenZeros rows all → AreFlatRows flat all
    → IsFlatRun flat (start_bits flat) all run

pub record ShowsFlatRunsByItself (plane : Plane) (ports : Ports) (flat : Flat)
    (rows : List (List Bool)) : Type 0 where
  pub run : (run : ℕ → ℕ → Bool) × IsFlatRunOnward flat rows run
  pub heads : (all : List (List Bool)) → ThenZeros rows all → AreFlatRows flat all
      → (run : ℕ → ℕ → Bool) → IsFlatRun flat (start_bits flat) all run
      → ShowsOutputsByItself plane ports (length all) (λ t. flat_output_bit flat (run t))
  pub nets : (all : List (List Bool)) → ThenZeros rows all → AreFlatRows flat all
      → (run : ℕ → ℕ → Bool) → IsFlatRun flat (start_bits flat) all run
      → ShowsNetLinesByItself plane ports (length all) (listed_nets flat) (λ t net. run t net.class)

pub record RunsByItselfFlat (text : List ℕ) (flat : Flat) (rows : List (List Bool)) : Type 0 where
  pub grid : Grid
  pub ports : Ports
  pub spells : Spells text grid ports
  pub contexts : ports.c ≡ 1
  pub no_inputs : ports.ins ≡ []
  pub outs : names_of ports.outs ≡ names_of_ports flat flat.outs
  pub nets : names_and_paths ports.nets
      ≡ map (λ net. name_and_path net.place net.name) (listed_nets flat)
  pub rows_fit : AreFlatRows flat rows
  pub shows : ShowsFlatRunsByItself (plane_of grid.rows) ports flat rows
