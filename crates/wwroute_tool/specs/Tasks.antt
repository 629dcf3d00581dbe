-- What the words ask for, with what was read for it.
use Rattle.std.specs.Prelude.{ℕ, ◌≡◌, ◌⊎◌, ⊤, List, take}
use Rattle.netlist_text.specs.NetlistText.{IsNetlist}
use Rattle.netlist_text.specs.Parts.{AreParts}
use Rattle.plan_ports.specs.Tables.{HasPortNames}
use Rattle.program_runs.specs.Runs.{Reading, Writing, GaveAll, Gained, IsUnwritten, WriteFailed}
use Rattle.program_runs.specs.declared.refusal.Refusal.TheVariants as refusal
use Rattle.wwroute_tool.specs.declared.words.Command.{Command}
use Rattle.wwroute_tool.specs.declared.words.Command.TheVariants.{Extract, Route}
use Rattle.wwroute_tool.specs.declared.refusal.RouteRefusal.{RouteRefusal}
use Rattle.wwroute_tool.specs.declared.refusal.RouteRefusal.TheVariants.{Common}
use Rattle.wwroute_tool.specs.declared.report.Report.{Report}
use Rattle.wwroute_tool.specs.declared.report.Report.TheVariants as report
use Rattle.wwroute_tool.specs.declared.task.Task.{Task}
use Rattle.wwroute_tool.specs.declared.task.Task.TheVariants as tasks
use Rattle.wwroute_tool.specs.Answers.{notice_for}
use Rattle.wwroute_tool.specs.Commands.{Makes, TellsBeside, HasTextReason}
use Rattle.wwroute_tool.specs.Words.{AsksFor}

-- the task of a command and a text
abbrev pub IsTaskOf : Command → List ℕ → Task → Type 0
IsTaskOf Extract text (tasks.Extract read) = read ≡ text
IsTaskOf (Route nets) text (tasks.Route netlist shown) =
    (shown ≡ nets) × IsNetlist text netlist.design
IsTaskOf _ text _ = ⊥

-- a task that can be done: a netlist has its parts, and names that can stand in a port table
abbrev pub IsSoundTask : Task → Type 0
IsSoundTask (tasks.Extract read) = ⊤
IsSoundTask (tasks.Route netlist shown) =
    AreParts netlist.design netlist.flat netlist.order.nodes × HasPortNames netlist.flat

-- what is told before a task is done
abbrev pub notice_of : Task → Report
notice_of (tasks.Extract read) = report.Nothing
notice_of (tasks.Route netlist shown) = notice_for netlist.flat.weight

-- the words ask for a command, the source gave a text, and this is their task
pub record HasTask (words : List (List ℕ)) (src : Reading) (task : Task) : Type 0 where
  pub command : Command
  pub asked : AsksFor words command
  pub text : List ℕ
  pub given : GaveAll src text
  pub is : IsTaskOf command text task
  pub sound : IsSoundTask task

-- the output gained this part of what the command makes of the text
pub record MakesPart (command : Command) (text : List ℕ) (out : Writing)
    (part : List ℕ → List ℕ) : Type 0 where
  pub answer : List ℕ
  pub makes : Makes command text answer
  pub wrote : Gained out (part answer)

-- the output gained all that the command makes of the text, and this line is to be told beside it
pub record MakesAll (command : Command) (text : List ℕ) (out : Writing)
    (line : List ℕ) : Type 0 where
  pub whole : MakesPart command text out (λ answer. answer)
  pub beside : TellsBeside command whole.answer line

-- the command refuses the text of a task for this reason, before which there is a notice only if
-- memory ran out
pub record RefusesTask (command : Command) (text : List ℕ) (task : Task)
    (r : RouteRefusal) : Type 0 where
  pub reason : HasTextReason command text r
  pub silent : (notice_of task ≡ report.Nothing) ⊎ (r ≡ Common refusal.NoMemory)

-- the answer of a task was cut off, or the output was not written to if the command refuses the text
abbrev pub BreaksOffTask : Command → List ℕ → Task → Writing → RouteRefusal → Type 0
BreaksOffTask command text task out r =
    ((r ≡ Common refusal.WriteFault) × WriteFailed out
    × ((k : ℕ) × MakesPart command text out (take k)))
    ⊎ (IsUnwritten out × RefusesTask command text task r)

-- so it is for each command and text whose task this is
abbrev pub ForTask : Task → (Command → List ℕ → Type 0) → Type 0
ForTask task holds = (command : Command) (text : List ℕ) → IsTaskOf command text task → holds command text
