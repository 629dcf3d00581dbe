-- The summary of a made netlist, its plan and its run.
use Rattle.std.specs.Prelude.{ℕ, ◌≡◌, ◌≤◌, ◌<◌, ◌+◌, ◌*◌, Bool, List, [], length, get_or, map, ⊤}
use Rattle.std.specs.List.{range_with_len}
use Rattle.lane_core.specs.declared.plan.Plan.{Plan}
use Rattle.lane_core.specs.Plans.{IsAdmissible, period_of, latency_of}
use Rattle.grid_assembly.specs.PlanDrawing.{start_grid}
use Rattle.pattern_reading.specs.declared.ports.Ports.{Ports}
use Rattle.pattern_writing.specs.WrittenText.{pattern_text}
use Rattle.carries.specs.Carries.{Carries}
use Rattle.netlist_core.specs.Names.{Name}
use Rattle.netlist_meaning.specs.Places.{main_outputs}
use Rattle.netlist_meaning.specs.Weight.{weight}
use Rattle.netlist_meaning.specs.Valuation.{Valuation, IsRun}
use Rattle.made_netlists.specs.Design.{made_design}
use Rattle.streams.specs.Rows.{rows_of}
use Rattle.drive.specs.Driving.{last_generation, greatest_generation}
use Rattle.netlist_run.specs.Runs.{bits_in_run}
use Rattle.made_summary.specs.Streams.{drawn_streams}
use Rattle.made_summary.specs.declared.summarizing.OutputBits.{OutputBits}
use Rattle.made_summary.specs.declared.summarizing.Summary.{Summary}
use Rattle.made_summary.specs.declared.error.SummaryError.{SummaryError}
use Rattle.made_summary.specs.declared.error.SummaryError.TheVariants.{NoMemory, TooFar}

-- The plan is admissible, and the text that is written of it and its table, of one context, carries
-- the made design. The plan is small, by the design's weight, with a loop for each of the two
-- latches and at most one more.
pub record IsMadePlan (seed size : ℕ) (plan : Plan) (ports : Ports) : Type 0 where
  pub admissible : IsAdmissible plan
  pub carries : Carries (pattern_text (start_grid plan) ports) (made_design seed size)
  pub contexts : ports.c ≡ 1
  pub period : ports.p ≡ period_of plan
  pub latency : ports.l ≡ latency_of plan
  pub lanes : plan.lanes ≤ 4 * weight (made_design seed size) + 4
  pub columns : length plan.columns ≤ 256 *
      ((weight (made_design seed size) + 1) * (weight (made_design seed size) + 1))
  pub loops : plan.latches ≤ 3

-- the outputs of these names, each with its simulated and its evaluated bits
abbrev pub output_at : (names : List Name) → (simulated evaluated : List (List Bool)) → ℕ
    → OutputBits
output_at names simulated evaluated k =
    record {
      name = get_or names k [];
      simulated = get_or simulated k [];
      evaluated = get_or evaluated k [];
    }

abbrev pub outputs_by_name : (names : List Name) → (simulated evaluated : List (List Bool))
    → List OutputBits
outputs_by_name names simulated evaluated =
    map (output_at names simulated evaluated) (range_with_len 0 (length names))

-- an output with its bits in a run, which are those that the pattern shows and those that the
-- netlist gives
abbrev pub output_in_run : (ℕ → Valuation) → ℕ → Name → OutputBits
output_in_run run cycles name =
    record {
      name = name;
      simulated = bits_in_run run cycles name;
      evaluated = bits_in_run run cycles name;
    }

-- the summary has the weight of the made design, the numbers of such a plan, which shows the last
-- bits within the limit of generations, and the outputs in a run of the design on the drawn streams
pub record Summarizes (seed size cycles : ℕ) (summary : Summary) : Type 0 where
  pub weight : summary.weight ≡ weight (made_design seed size)
  pub plan : Plan
  pub ports : Ports
  pub is_plan : IsMadePlan seed size plan ports
  pub lanes : summary.lanes ≡ plan.lanes
  pub columns : summary.columns ≡ length plan.columns
  pub period : summary.p ≡ ports.p
  pub latency : summary.l ≡ ports.l
  pub near : last_generation ports (drawn_streams seed size cycles) ≤ greatest_generation
  pub run : ℕ → Valuation
  pub is_run : IsRun (made_design seed size) (rows_of (drawn_streams seed size cycles)) run
  pub outputs : summary.outputs ≡ map (output_in_run run cycles)
      (main_outputs (made_design seed size))

-- why there is no summary: the pattern of such a plan shows its last bits at this generation, which
-- is too late
abbrev pub HasSummaryCause : (seed size cycles : ℕ) → SummaryError → Type 0
HasSummaryCause seed size cycles NoMemory = ⊤
HasSummaryCause seed size cycles (TooFar generations) =
    (plan : Plan) × (ports : Ports) × IsMadePlan seed size plan ports
    × (generations ≡ last_generation ports (drawn_streams seed size cycles))
    × (greatest_generation < generations)
