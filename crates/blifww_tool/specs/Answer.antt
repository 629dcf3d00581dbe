-- The output of a command, and how the part of a run that reads and writes ends.
use Rattle.std.specs.Prelude.{ℕ, List, take, ⊤}
use Rattle.lane_core.specs.Plans.{IsAdmissible}
use Rattle.rle_write.specs.PlanText.{text_of_plan}
use Rattle.blif_write.specs.Lift.{text_of_lift}
use Rattle.vcd_write.specs.Writing.{vcd_text}
use Rattle.vcd_write.specs.Vcd.{waves_in}
use Rattle.command_words.specs.Shapes.{CommandValues}
use Rattle.blifww_tool.specs.Commands.{Prints, Refuses}
use Rattle.blifww_tool.specs.Run.{Does, HasReason}
use Rattle.program_runs.specs.Runs.{Reading, Writing, Gained, IsUnwritten, WriteFailed}
use Rattle.blifww_tool.specs.declared.output.Output.{Output}
use Rattle.blifww_tool.specs.declared.output.Output.TheVariants.{Lines, Drawing, Waves, Lifted}
use Rattle.program_runs.specs.declared.refusal.Refusal.{Refusal}
use Rattle.program_runs.specs.declared.refusal.Refusal.TheVariants.{WriteFault, NoMemory, Text}

-- the bytes of an output
abbrev pub output_text : Output → List ℕ
output_text (Lines text) = text
output_text (Drawing planned) = text_of_plan planned.plan planned.ports
output_text (Waves vcd) = vcd_text (waves_in vcd)
output_text (Lifted lift) = text_of_lift lift

-- the output can be written: a plan is admissible
abbrev pub IsWritableOutput : Output → Type 0
IsWritableOutput (Lines text) = ⊤
IsWritableOutput (Drawing planned) = IsAdmissible planned.plan
IsWritableOutput (Waves vcd) = ⊤
IsWritableOutput (Lifted lift) = ⊤

-- out was cut off, or not written to if there is another reason
abbrev pub HasStopped : List (List ℕ) → Reading → Writing → Refusal → Type 0
HasStopped words src out WriteFault = (k : ℕ) × WriteFailed out × Does words src out (take k)
HasStopped words src out refusal = IsUnwritten out × HasReason words src refusal

-- out gained this part of what the command prints of the text
pub record PrintsPart (command : CommandValues) (text : List ℕ) (out : Writing)
    (part : List ℕ → List ℕ) : Type 0 where
  pub output : List ℕ
  pub prints : Prints command text output
  pub wrote : Gained out (part output)

-- out was cut off, or not written to if the command refuses the text or there is not enough memory
abbrev pub HasStoppedOn : CommandValues → List ℕ → Writing → Refusal → Type 0
HasStoppedOn command text out WriteFault =
    (k : ℕ) × WriteFailed out × PrintsPart command text out (take k)
HasStoppedOn command text out NoMemory = IsUnwritten out
HasStoppedOn command text out (Text cause) = IsUnwritten out × Refuses command text cause
HasStoppedOn command text out refusal = ⊥
