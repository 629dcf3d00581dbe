-- What it means that a text carries a design: the pattern that it spells, driven at its input
-- cells, shows the runs of the design at its output cells, at every generation.
use Rattle.std.specs.Prelude.{ℕ, ◌≡◌, List, Bool}
use Rattle.ww_rule.specs.Wireworld.{Plane}
use Rattle.ww_rule.specs.Grid.{Grid, plane_of}
use Rattle.ww_rule.specs.Injections.{MeetsConductors}
use Rattle.pattern_reading.specs.declared.ports.Ports.{Ports}
use Rattle.pattern_reading.specs.Ports.{names_of}
use Rattle.netlist_core.specs.declared.model.Design.{Design}
use Rattle.netlist_meaning.specs.Places.{main_outputs}
use Rattle.netlist_meaning.specs.Nets.{IsInNames}
use Rattle.netlist_meaning.specs.Valuation.{Valuation, AreInputRows, IsRun, output_bit}
use Rattle.carries.specs.Cells.{Spells, ShowsOutputs, drive}

-- the table names the main inputs except the control, and the main outputs, each in order
pub record NamesPorts (ports : Ports) (design : Design) : Type 0 where
  pub ins : IsInNames design (names_of ports.ins)
  pub outs : names_of ports.outs ≡ main_outputs design

-- when any rows of input bits drive the pattern, for any number of cycles, there is a run of the
-- design on them, and in every such run each output's cell shows the output's bits
pub record ShowsRuns (plane : Plane) (ports : Ports) (design : Design) : Type 0 where
  pub conductors : (rows : List (List Bool)) → AreInputRows design rows
      → MeetsConductors (drive ports rows) plane
  pub runs : (rows : List (List Bool)) → AreInputRows design rows
      → (run : ℕ → Valuation) × IsRun design rows run
  pub heads : (rows : List (List Bool)) → AreInputRows design rows → (run : ℕ → Valuation)
      → IsRun design rows run
      → ShowsOutputs plane ports rows (λ t. output_bit design (run t))

-- a text carries a design: it spells a pattern and a port table of one context, the table's names
-- are the design's, and the pattern shows the design's runs
pub record Carries (text : List ℕ) (design : Design) : Type 0 where
  pub grid : Grid
  pub ports : Ports
  pub spells : Spells text grid ports
  pub contexts : ports.c ≡ 1
  pub names : NamesPorts ports design
  pub shows : ShowsRuns (plane_of grid.rows) ports design
