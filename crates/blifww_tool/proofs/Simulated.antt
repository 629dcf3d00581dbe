-- What the parts of a simulation give together.
use Rattle.std.proofs.Common.{ℕ, ◌<◌, sym, subst, List}
use Rattle.ww_rule.specs.Grid.{AreInBox, plane_of}
use Rattle.pattern_reading.specs.declared.ports.Ports.{Ports}
use Rattle.pattern_reading.specs.PortTable.{ReadsAsPorts}
use Rattle.pattern_reading.proofs.PortsInside.{ports_inside}
use Rattle.pattern_reading.specs.Ports.{cells_of}
use Rattle.drive.specs.declared.error.SimulateError.{SimulateError}
use Rattle.drive.specs.declared.error.SimulateError.TheVariants as simulating
use Rattle.drive.specs.Driving.{HasSimulateCause, greatest_generation}
use Rattle.made_summary.proofs.Read.{lines_in_box}
use Rattle.command_words.specs.Shapes.{simulate}
use Rattle.blifww_tool.specs.Commands.{HasTextCause}
use Rattle.program_runs.specs.Refusals.{simulate_error}
use Rattle.blifww_tool.specs.Simulation.{Simulation, IsSimulation, last_shown, HasNoStreams, HasNoRun, HasStreamsCause}
use Rattle.program_runs.specs.declared.causes.Cause.{Cause}
use Rattle.program_runs.specs.declared.causes.Cause.TheVariants.{NetlistFault, WeightTooLarge, Loop, AigAtFault, AigLoop, Pattern, GridTooLarge, PortTable, Streams, StartWord, NoSuchNet, TooFar, TooManyContexts, NotQuiet, NotCircuit}
use Rattle.program_runs.specs.declared.causes.TextError.{TextError}
use Rattle.program_runs.specs.declared.causes.TextError.TheVariants.{Refused, NoMemory}

-- the inputs of a table lie in its box
pub ins_in_box : (text : List ℕ) (width height : ℕ) (ports : Ports) → ReadsAsPorts text width height ports → AreInBox width height (cells_of ports.ins)
ins_in_box text width height ports h = lines_in_box width height ports.ins (ports_inside text width height ports h).ins

pub cause_of : (last : Simulation → ℕ) (cycles : ℕ) (words : List (List ℕ)) (text : List ℕ) (cause : Cause) → HasNoStreams cycles words text cause → HasNoRun last cycles words text cause
cause_of last cycles words text (NetlistFault f) h = h
cause_of last cycles words text (WeightTooLarge w) h = h
cause_of last cycles words text (Loop names) h = h
cause_of last cycles words text (AigAtFault fault) h = h
cause_of last cycles words text (AigLoop literals) h = h
cause_of last cycles words text (Pattern f) h = h
cause_of last cycles words text (GridTooLarge x y) h = h
cause_of last cycles words text (PortTable f) h = h
cause_of last cycles words text (Streams f) h = h
cause_of last cycles words text (StartWord f) h = h
cause_of last cycles words text (NoSuchNet name) h = h
cause_of last cycles words text (TooFar n) h = absurd h
cause_of last cycles words text (TooManyContexts n limit) h = h
cause_of last cycles words text (NotQuiet g x y) h = absurd h
cause_of last cycles words text (NotCircuit fault) h = absurd h

-- a text and words that are no simulation
pub simulation_refused : (cycles : ℕ) (words : List (List ℕ)) (text : List ℕ) (e : TextError) → HasStreamsCause cycles words text e → HasTextCause (simulate cycles words) text e
simulation_refused cycles words text (Refused cause) h = cause_of last_shown cycles words text cause h
simulation_refused cycles words text NoMemory h = tt

-- a simulation that is not run
pub time_refused : (cycles : ℕ) (words : List (List ℕ)) (text : List ℕ) (s : Simulation) (e : SimulateError) → IsSimulation cycles words text s
    → HasSimulateCause s.ports s.streams (plane_of s.grid.rows) (last_shown s) e → HasTextCause (simulate cycles words) text (simulate_error e)
time_refused cycles words text s simulating.NoMemory h cause = tt
time_refused cycles words text s (simulating.TooFar generations) h cause =
    (s, h, cause.0, subst (λ (n : ℕ). greatest_generation < n) (sym cause.0) cause.1)
time_refused cycles words text s (simulating.NotQuiet generation x y) h cause = (s, h, cause.0, cause.1)
