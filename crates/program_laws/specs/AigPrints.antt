-- What the commands do with the text that `aiger` writes: `simulate` prints the circuit's runs, no
-- run ends with status 10, and `lift` accepts it if its box is within the limit and its names are
-- good.
use Rattle.std.specs.Prelude.{ℕ, ◌≡◌, Bool, false, List, map, flat_map, zip}
use Rattle.ww_rule.specs.Grid.{Grid}
use Rattle.pattern_reading.specs.declared.ports.Ports.{Ports}
use Rattle.pattern_reading.specs.Pattern.{ReadsWithinLimit}
use Rattle.pattern_reading.specs.PortTable.{ReadsAsPorts}
use Rattle.tile_match.specs.Names.{has_bad_name}
use Rattle.aiger_text.specs.declared.aig.Aig.{Aig}
use Rattle.aiger_text.specs.AigText.{ReadsAsAig}
use Rattle.aiger_text.specs.SoundAig.{IsSoundAig, input_names, output_names}
use Rattle.aiger_meaning.specs.Circuit.{IsAigRun}
use Rattle.aiger_plans.specs.CarriesAig.{CarriesAig}
use Rattle.program_laws.specs.ShownAigs.{aig_bits_in_run}
use Rattle.streams.specs.declared.streams.Streams.{Streams}
use Rattle.streams.specs.Streams.{HasStreams}
use Rattle.streams.specs.Rows.{rows_of}
use Rattle.command_words.specs.Shapes.{CommandValues, simulate, aiger, lift}
use Rattle.blifww_tool.specs.Lines.{bits_line}
use Rattle.blifww_tool.specs.Commands.{Accepts, Prints, Refuses}
use Rattle.program_runs.specs.declared.causes.Cause.TheVariants.{NotQuiet}

-- a line for each output of the circuit, in order, with its bits in a run
abbrev pub aig_lines : Aig → (cycles : ℕ) → (ℕ → ℕ → Bool) → List ℕ
aig_lines aig cycles run =
    flat_map (λ p. bits_line p.0 p.1) (zip (output_names aig) (map (aig_bits_in_run run cycles) aig.outputs))

-- The words give streams for the inputs of the circuit, which has a run on them. The output is the lines of every such
-- run.
pub record PrintsAigRuns (cycles : ℕ) (words : List (List ℕ)) (aig : Aig) (output : List ℕ) : Type 0 where
  pub fed : Streams
  pub many : fed.cycles ≡ cycles
  pub contexts : fed.c ≡ 1
  pub streams : HasStreams 1 words (input_names aig) cycles fed.bits
  pub run : ℕ → ℕ → Bool
  pub is_run : IsAigRun aig (rows_of fed) run
  pub lines : (other : ℕ → ℕ → Bool) → IsAigRun aig (rows_of fed) other → output ≡ aig_lines aig fed.cycles other

-- of a text that carries a sound circuit, whoever made it
abbrev pub CarriersPrintAigRuns : Type 0
CarriersPrintAigRuns =
    (text : List ℕ) (aig : Aig) → IsSoundAig aig → CarriesAig text aig
    → (cycles : ℕ) (words : List (List ℕ)) (output : List ℕ) → Prints (simulate cycles words) text output
    → PrintsAigRuns cycles words aig output

-- of what `aiger` writes
abbrev pub AigsPrintRuns : Type 0
AigsPrintRuns =
    (source text : List ℕ) → Prints aiger source text
    → (aig : Aig) × ReadsAsAig source aig
    × ((cycles : ℕ) (words : List (List ℕ)) (output : List ℕ) → Prints (simulate cycles words) text output
    → PrintsAigRuns cycles words aig output)

-- if a text carries a sound circuit, no command refuses it because an injection meets no conductor,
-- whoever made the text
abbrev pub AigCarriersRunQuietly : Type 0
AigCarriersRunQuietly =
    (text : List ℕ) (aig : Aig) → IsSoundAig aig → CarriesAig text aig
    → (command : CommandValues) (generation x y : ℕ)
    → Refuses command text (NotQuiet generation x y) → ⊥

-- so it is with what `aiger` writes
abbrev pub AigsRunQuietly : Type 0
AigsRunQuietly =
    (source text : List ℕ) → Prints aiger source text
    → (command : CommandValues) (generation x y : ℕ)
    → Refuses command text (NotQuiet generation x y) → ⊥

-- `lift` accepts each text that `aiger` writes, if its box is within the limit of what is read and
-- no name of a port is bad
abbrev pub AigsAreLifted : Type 0
AigsAreLifted =
    (source text : List ℕ) → Prints aiger source text
    → (grid : Grid) (ports : Ports) → ReadsWithinLimit text grid
    → ReadsAsPorts text grid.width grid.height ports → has_bad_name ports ≡ false
    → Accepts lift text
