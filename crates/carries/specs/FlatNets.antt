-- What it means that a text carries a flat netlist: its pattern, driven at its input cells, shows
-- the runs of the flat netlist at the cells of its outputs and of its listed nets, at every
-- generation.
use Rattle.std.specs.Prelude.{ℕ, ◌≡◌, List, map, Bool}
use Rattle.ww_rule.specs.Wireworld.{Plane}
use Rattle.ww_rule.specs.Grid.{Grid, plane_of}
use Rattle.ww_rule.specs.Injections.{MeetsConductors}
use Rattle.pattern_reading.specs.declared.ports.Ports.{Ports}
use Rattle.pattern_reading.specs.Ports.{names_of}
use Rattle.place_paths.specs.Paths.{name_and_path, names_and_paths}
use Rattle.netlist_core.specs.declared.flat.Flat.{Flat}
use Rattle.netlist_meaning.specs.Flat.{names_of_ports, listed_nets}
use Rattle.netlist_meaning.specs.FlatValuation.{AreFlatRows, IsFlatRun, start_bits, flat_output_bit}
use Rattle.carries.specs.Cells.{Spells, ShowsOutputs, ShowsNetLines, drive}

-- the table names the inputs, the outputs and the listed nets, each in order, and each net with the
-- path of its place
pub record NamesFlat (ports : Ports) (flat : Flat) : Type 0 where
  pub ins : names_of ports.ins ≡ names_of_ports flat flat.ins
  pub outs : names_of ports.outs ≡ names_of_ports flat flat.outs
  pub nets : names_and_paths ports.nets
      ≡ map (λ net. name_and_path net.place net.name) (listed_nets flat)

-- When any rows of input bits drive the pattern, for any number of cycles, there is a run of the
-- flat netlist on them, from its start on. In every such run each output's cell shows the output's
-- bits, and the cell of each listed net shows the bits of the net's class.
pub record ShowsFlatRuns (plane : Plane) (ports : Ports) (flat : Flat) : Type 0 where
  pub conductors : (rows : List (List Bool)) → AreFlatRows flat rows
      → MeetsConductors (drive ports rows) plane
  pub runs : (rows : List (List Bool)) → AreFlatRows flat rows
      → (run : ℕ → ℕ → Bool) × IsFlatRun flat (start_bits flat) rows run
  pub heads : (rows : List (List Bool)) → AreFlatRows flat rows → (run : ℕ → ℕ → Bool)
      → IsFlatRun flat (start_bits flat) rows run
      → ShowsOutputs plane ports rows (λ t. flat_output_bit flat (run t))
  pub nets : (rows : List (List Bool)) → AreFlatRows flat rows → (run : ℕ → ℕ → Bool)
      → IsFlatRun flat (start_bits flat) rows run
      → ShowsNetLines plane ports rows (listed_nets flat) (λ t net. run t net.class)

-- A text carries a flat netlist: it spells a pattern and a port table of one context, the table's
-- names are the netlist's, and the pattern shows the netlist's runs
pub record CarriesFlat (text : List ℕ) (flat : Flat) : Type 0 where
  pub grid : Grid
  pub ports : Ports
  pub spells : Spells text grid ports
  pub contexts : ports.c ≡ 1
  pub names : NamesFlat ports flat
  pub shows : ShowsFlatRuns (plane_of grid.rows) ports flat
