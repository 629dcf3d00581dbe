-- What it means that a text carries a circuit: its pattern, driven at its input cells, shows the
-- runs of the circuit at its output cells, at every generation.
use Rattle.std.specs.Prelude.{ℕ, ◌≡◌, List, [], Bool}
use Rattle.ww_rule.specs.Wireworld.{Plane}
use Rattle.ww_rule.specs.Grid.{Grid, plane_of}
use Rattle.ww_rule.specs.Injections.{MeetsConductors}
use Rattle.pattern_reading.specs.declared.ports.Ports.{Ports}
use Rattle.pattern_reading.specs.Ports.{names_of}
use Rattle.aiger_text.specs.declared.aig.Aig.{Aig}
use Rattle.aiger_text.specs.SoundAig.{input_names, output_names}
use Rattle.aiger_meaning.specs.Circuit.{AreAigRows, IsAigRun, aig_output_bit}
use Rattle.carries.specs.Cells.{Spells, ShowsOutputs, drive}

-- the table names the inputs and the outputs, each in order, and no nets
pub record NamesAig (ports : Ports) (aig : Aig) : Type 0 where
  pub ins : names_of ports.ins ≡ input_names aig
  pub outs : names_of ports.outs ≡ output_names aig
  pub nets : ports.nets ≡ []

-- when any rows of input bits drive the pattern, for any number of cycles, there is a run of the
-- circuit on them, and in every such run each output's cell shows the output's bits
pub record ShowsAigRuns (plane : Plane) (ports : Ports) (aig : Aig) : Type 0 where
  pub conductors : (rows : List (List Bool)) → AreAigRows aig rows
      → MeetsConductors (drive ports rows) plane
  pub runs : (rows : List (List Bool)) → AreAigRows aig rows
      → (run : ℕ → ℕ → Bool) × IsAigRun aig rows run
  pub heads : (rows : List (List Bool)) → AreAigRows aig rows → (run : ℕ → ℕ → Bool)
      → IsAigRun aig rows run
      → ShowsOutputs plane ports rows (λ t. aig_output_bit aig (run t))

-- a text carries a circuit: it spells a pattern and a port table of one context, the table's names
-- are the circuit's, and the pattern shows the circuit's runs
pub record CarriesAig (text : List ℕ) (aig : Aig) : Type 0 where
  pub grid : Grid
  pub ports : Ports
  pub spells : Spells text grid ports
  pub contexts : ports.c ≡ 1
  pub names : NamesAig ports aig
  pub shows : ShowsAigRuns (plane_of grid.rows) ports aig
