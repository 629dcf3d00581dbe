-- What a pattern's text shows under streams of bits, as lines.
use Rattle.std.specs.Prelude.{◌≡◌, ◌≤◌, ◌<◌, ℕ, List, flat_map, Some, None, ⊤}
use Rattle.std.specs.List.{range_with_len}
use Rattle.std.specs.declared.option.Option.{Option}
use Rattle.ww_rule.specs.declared.pattern.Injection.{Injection}
use Rattle.ww_rule.specs.Grid.{Grid, plane_of}
use Rattle.pattern_reading.specs.declared.ports.Ports.{Ports}
use Rattle.pattern_reading.specs.declared.ports.PortLine.{PortLine}
use Rattle.pattern_reading.specs.Ports.{names_of}
use Rattle.pattern_reading.specs.Pattern.{ReadsWithinLimit, HasReaderFault, HasLargeBox}
use Rattle.pattern_reading.specs.PortTable.{ReadsAsPorts, HasPortFault}
use Rattle.streams.specs.declared.streams.Streams.{Streams}
use Rattle.streams.specs.Streams.{HasStreams, HasStreamFault}
use Rattle.drive.specs.Driving.{first_miss, shown_at, last_generation, greatest_generation}
use Rattle.blifww_tool.specs.Lines.{context_line}
use Rattle.program_runs.specs.declared.causes.Cause.{Cause}
use Rattle.program_runs.specs.declared.causes.Cause.TheVariants.{Pattern, GridTooLarge, PortTable, Streams as OfStreams, TooFar, NotQuiet}
use Rattle.program_runs.specs.declared.causes.TextError.{TextError}
use Rattle.program_runs.specs.declared.causes.TextError.TheVariants.{Refused, NoMemory}

-- a pattern, its ports, and streams for its inputs in each context
pub record Simulation : Type 0 where
  pub grid : Grid
  pub ports : Ports
  pub streams : Streams

-- the line of an output in a context
abbrev pub shown_line : Simulation → (context : ℕ) → PortLine → List ℕ
shown_line s context out =
    context_line s.ports.c context out.name
    (shown_at s.ports s.streams (plane_of s.grid.rows) context out)

-- the lines of the outputs in each context, in the table's order: all outputs of context 0 first
abbrev pub simulation_text : Simulation → List ℕ
simulation_text s =
    flat_map (λ context. flat_map (shown_line s context) s.ports.outs) (range_with_len 0 s.ports.c)

-- The text reads as this pattern with these ports, and the words give these streams for its inputs
-- in each of the table's contexts.
pub record IsSimulation (cycles : ℕ) (words : List (List ℕ)) (text : List ℕ)
    (s : Simulation) : Type 0 where
  pub pattern : ReadsWithinLimit text s.grid
  pub table : ReadsAsPorts text s.grid.width s.grid.height s.ports
  pub many : s.streams.cycles ≡ cycles
  pub contexts : s.streams.c ≡ s.ports.c
  pub streams : HasStreams s.ports.c words (names_of s.ports.ins) cycles s.streams.bits

-- the generation of a simulation's last bits
abbrev pub last_shown : Simulation → ℕ
last_shown s = last_generation s.ports s.streams

-- the first injection up to a generation whose cell is no conductor before it
abbrev pub miss_up_to : Simulation → ℕ → Option Injection
miss_up_to s g = first_miss s.ports s.streams (plane_of s.grid.rows) g

-- this is the first injection up to a generation that meets no conductor
abbrev pub MissesAt : Simulation → (g generation x y : ℕ) → Type 0
MissesAt s g generation x y =
    miss_up_to s g ≡ Some (record { generation = generation; x = x; y = y })

-- the text and the words are a simulation, which is run up to the last generation that is wanted of
-- it: this generation is in time, and each injection up to it meets a conductor
pub record RunsInTime (last : Simulation → ℕ) (cycles : ℕ) (words : List (List ℕ)) (text : List ℕ)
    (s : Simulation) : Type 0 where
  pub is : IsSimulation cycles words text s
  pub near : last s ≤ greatest_generation
  pub quiet : miss_up_to s (last s) ≡ None

-- the last generation that is wanted is that of the simulation's last bits
abbrev pub Simulates : ℕ → List (List ℕ) → List ℕ → Simulation → Type 0
Simulates cycles words text s = RunsInTime last_shown cycles words text s

-- why the text and the words are no simulation: the text is no pattern, or its box is too large;
-- its port table is at fault; or the streams are
abbrev pub HasNoStreams : ℕ → List (List ℕ) → List ℕ → Cause → Type 0
HasNoStreams cycles words text (Pattern fault) = HasReaderFault text fault.kind fault.line
HasNoStreams cycles words text (GridTooLarge width height) = HasLargeBox text width height
HasNoStreams cycles words text (PortTable fault) =
    (grid : Grid) × ReadsWithinLimit text grid
    × HasPortFault text grid.width grid.height fault.kind fault.line
HasNoStreams cycles words text (OfStreams fault) =
    (grid : Grid) × (ports : Ports) × ReadsWithinLimit text grid
    × ReadsAsPorts text grid.width grid.height ports
    × HasStreamFault ports.c words (names_of ports.ins) cycles fault
HasNoStreams cycles words text _ = ⊥

-- why a simulation is not run: the text and the words are no simulation; the last generation that
-- is wanted comes too late; or it is in time, but an injection up to it meets no conductor
abbrev pub HasNoRun : (Simulation → ℕ) → ℕ → List (List ℕ) → List ℕ → Cause → Type 0
HasNoRun last cycles words text (TooFar generations) =
    (s : Simulation) × IsSimulation cycles words text s × (generations ≡ last s)
    × (greatest_generation < generations)
HasNoRun last cycles words text (NotQuiet generation x y) =
    (s : Simulation) × IsSimulation cycles words text s × (last s ≤ greatest_generation)
    × MissesAt s (last s) generation x y
HasNoRun last cycles words text cause = HasNoStreams cycles words text cause

abbrev pub HasNoSimulation : ℕ → List (List ℕ) → List ℕ → Cause → Type 0
HasNoSimulation cycles words text cause = HasNoRun last_shown cycles words text cause

-- why no simulation is read: the text and the words are none, or there is not enough memory
abbrev pub HasStreamsCause : ℕ → List (List ℕ) → List ℕ → TextError → Type 0
HasStreamsCause cycles words text (Refused cause) = HasNoStreams cycles words text cause
HasStreamsCause cycles words text NoMemory = ⊤
