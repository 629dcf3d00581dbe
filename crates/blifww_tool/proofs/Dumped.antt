-- Why a text and words give no dump.
use Rattle.std.proofs.Common.{ℕ, ◌<◌, sym, subst, List}
use Rattle.ww_rule.specs.Grid.{plane_of}
use Rattle.drive.specs.declared.error.SimulateError.{SimulateError}
use Rattle.drive.specs.declared.error.SimulateError.TheVariants as simulating
use Rattle.drive.specs.Driving.{HasSimulateCause, greatest_generation}
use Rattle.command_words.specs.Shapes.{vcd}
use Rattle.blifww_tool.specs.Commands.{HasTextCause}
use Rattle.blifww_tool.specs.Dumping.{last_dumped}
use Rattle.blifww_tool.specs.Simulation.{Simulation, IsSimulation, HasStreamsCause}
use Rattle.blifww_tool.proofs.Simulated.{cause_of}
use Rattle.program_runs.specs.Refusals.{simulate_error}
use Rattle.program_runs.specs.declared.causes.TextError.{TextError}
use Rattle.program_runs.specs.declared.causes.TextError.TheVariants.{Refused, NoMemory}

-- they are no simulation,
pub dump_refused : (cycles : ℕ) (words : List (List ℕ)) (text : List ℕ) (e : TextError) → HasStreamsCause cycles words text e → HasTextCause (vcd cycles words) text e
dump_refused cycles words text (Refused cause) h = cause_of last_dumped cycles words text cause h
dump_refused cycles words text NoMemory h = tt

-- or one that is not run
pub run_refused : (cycles : ℕ) (words : List (List ℕ)) (text : List ℕ) (s : Simulation) (e : SimulateError) → IsSimulation cycles words text s
    → HasSimulateCause s.ports s.streams (plane_of s.grid.rows) (last_dumped s) e → HasTextCause (vcd cycles words) text (simulate_error e)
run_refused cycles words text s simulating.NoMemory h cause = tt
run_refused cycles words text s (simulating.TooFar generations) h cause =
    (s, h, cause.0, subst (λ (n : ℕ). greatest_generation < n) (sym cause.0) cause.1)
run_refused cycles words text s (simulating.NotQuiet generation x y) h cause = (s, h, cause.0, cause.1)
