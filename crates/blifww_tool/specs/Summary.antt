-- The summary of a made netlist, as lines.
use Rattle.std.specs.Prelude.{◌≡◌, ℕ, List, ◌++◌, flat_map, codes, decimal}
use Rattle.made_summary.specs.Summaries.{Summarizes}
use Rattle.made_summary.specs.declared.error.SummaryError.{SummaryError}
use Rattle.made_summary.specs.declared.error.SummaryError.TheVariants as summarizing
use Rattle.made_summary.specs.declared.summarizing.OutputBits.{OutputBits}
use Rattle.made_summary.specs.declared.summarizing.Summary.{Summary}
use Rattle.program_runs.specs.declared.causes.Cause.TheVariants.{TooFar}
use Rattle.program_runs.specs.declared.causes.TextError.{TextError}
use Rattle.program_runs.specs.declared.causes.TextError.TheVariants.{Refused, NoMemory}
use Rattle.blifww_tool.specs.Lines.{bits_line}

-- a number with its name, as `lanes 9`
abbrev pub number_line : List ℕ → ℕ → List ℕ
number_line name number = name ++ (codes " " ++ (decimal number ++ codes "\n"))

-- an output's two lines
abbrev pub output_lines : OutputBits → List ℕ
output_lines output =
    codes "sim " ++ (bits_line output.name output.simulated
    ++ (codes "eval " ++ bits_line output.name output.evaluated))

-- the lines of the weight, the lanes and columns, the period and latency, and the outputs
abbrev pub summary_text : Summary → List ℕ
summary_text s =
    number_line (codes "weight") s.weight
    ++ (number_line (codes "lanes") s.lanes ++ (number_line (codes "columns") s.columns
    ++ (number_line (codes "P") s.p ++ (number_line (codes "L") s.l
    ++ flat_map output_lines s.outputs))))

-- the lines of a summary of the netlist of this seed and number of gates under so many cycles
abbrev pub TellsSummary : (seed size cycles : ℕ) → List ℕ → Type 0
TellsSummary seed size cycles output =
    (summary : Summary) × Summarizes seed size cycles summary × (output ≡ summary_text summary)

-- the error of a made netlist without a summary
abbrev pub summarizing_error : SummaryError → TextError
summarizing_error (summarizing.TooFar generations) = Refused (TooFar generations)
summarizing_error summarizing.NoMemory = NoMemory
