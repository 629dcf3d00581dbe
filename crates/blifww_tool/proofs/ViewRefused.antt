-- What the parts of a view give together, where there is none.
use Rattle.std.proofs.Common.{ℕ, List}
use Rattle.ww_rule.specs.Grid.{plane_of}
use Rattle.probe_view.specs.declared.error.WindowError.{WindowError}
use Rattle.probe_view.specs.declared.error.WindowError.TheVariants as viewing
use Rattle.probe_view.specs.Windows.{HasWindowCause}
use Rattle.command_words.specs.declared.command.View.{View}
use Rattle.command_words.specs.Shapes.{window}
use Rattle.blifww_tool.specs.Commands.{HasTextCause}
use Rattle.program_runs.specs.Refusals.{window_error}
use Rattle.blifww_tool.specs.Simulation.{Simulation, IsSimulation, HasNoStreams, HasStreamsCause}
use Rattle.blifww_tool.specs.Viewing.{cycles_in, HasNoView}
use Rattle.program_runs.specs.declared.causes.Cause.{Cause}
use Rattle.program_runs.specs.declared.causes.Cause.TheVariants.{NetlistFault, WeightTooLarge, Loop, AigAtFault, AigLoop, Pattern, GridTooLarge, PortTable, Streams, StartWord, NoSuchNet, TooFar, TooManyContexts, NotQuiet, NotCircuit}
use Rattle.program_runs.specs.declared.causes.TextError.{TextError}
use Rattle.program_runs.specs.declared.causes.TextError.TheVariants.{Refused, NoMemory}

cause_of : (view : View) (words : List (List ℕ)) (text : List ℕ) (cause : Cause) → HasNoStreams (cycles_in words) words text cause → HasNoView view words text cause
cause_of view words text (NetlistFault f) h = h
cause_of view words text (WeightTooLarge w) h = h
cause_of view words text (Loop names) h = h
cause_of view words text (AigAtFault fault) h = h
cause_of view words text (AigLoop literals) h = h
cause_of view words text (Pattern f) h = h
cause_of view words text (GridTooLarge x y) h = h
cause_of view words text (PortTable f) h = h
cause_of view words text (Streams f) h = h
cause_of view words text (StartWord f) h = h
cause_of view words text (NoSuchNet name) h = h
cause_of view words text (TooFar n) h = h
cause_of view words text (TooManyContexts n limit) h = h
cause_of view words text (NotQuiet g x y) h = absurd h
cause_of view words text (NotCircuit fault) h = absurd h

-- a text and words that are no simulation,
pub simulation_refused : (view : View) (words : List (List ℕ)) (text : List ℕ) (e : TextError) → HasStreamsCause (cycles_in words) words text e → HasTextCause (window view words) text e
simulation_refused view words text (Refused cause) h = cause_of view words text cause h
simulation_refused view words text NoMemory h = tt

-- and one with a miss
pub miss_refused : (view : View) (words : List (List ℕ)) (text : List ℕ) (s : Simulation) (e : WindowError) → IsSimulation (cycles_in words) words text s
    → HasWindowCause s.ports s.streams (plane_of s.grid.rows) view.generation e → HasTextCause (window view words) text (window_error e)
miss_refused view words text s viewing.NoMemory is h = tt
miss_refused view words text s (viewing.NotQuiet generation x y) is h = (s, is, h)
