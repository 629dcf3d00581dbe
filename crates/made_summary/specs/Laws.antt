-- The text that is written of a plan reads back, and few enough cycles are always in time.
use Rattle.std.specs.Prelude.{ℕ, ◌≤◌, ◌<◌, ◌+◌, ◌-◌, ◌*◌, ◌^◌, List}
use Rattle.ww_rule.specs.Grid.{AreInBox}
use Rattle.lane_core.specs.declared.plan.Plan.{Plan}
use Rattle.lane_core.specs.Plans.{IsAdmissible}
use Rattle.grid_assembly.specs.PlanDrawing.{start_grid}
use Rattle.pattern_reading.specs.declared.ports.Ports.{Ports}
use Rattle.pattern_reading.specs.Ports.{cells_of}
use Rattle.pattern_writing.specs.WrittenText.{pattern_text}
use Rattle.carries.specs.Cells.{Spells}
use Rattle.netlist_core.specs.declared.model.Design.{Design}
use Rattle.netlist_core.specs.declared.flat.Flat.{Flat}
use Rattle.netlist_meaning.specs.FlatOf.{IsFlatOf}
use Rattle.blif_text.specs.Faults.{IsDesignOf}
use Rattle.plan_ports.specs.Tables.{IsTableOf}
use Rattle.netlist_meaning.specs.Weight.{weight}
use Rattle.made_netlists.specs.Design.{made_design}
use Rattle.drive.specs.Driving.{last_generation, greatest_generation}
use Rattle.made_summary.specs.Streams.{drawn_streams}
use Rattle.made_summary.specs.Summaries.{IsMadePlan, HasSummaryCause}
use Rattle.made_summary.specs.declared.error.SummaryError.TheVariants.{TooFar}

-- The text of a plan's pattern and its table reads as these, and its inputs lie in the pattern's
-- box.
pub record ReadsAsPlan (plan : Plan) (ports : Ports) : Type 0 where
  pub spells : Spells (pattern_text (start_grid plan) ports) (start_grid plan) ports
  pub inside : AreInBox (start_grid plan).width (start_grid plan).height (cells_of ports.ins)

-- The text of an admissible plan and its table, for the design of a text, reads as these.
abbrev pub WrittenPlansRead : Type 0
WrittenPlansRead =
    (text : List ℕ) (design : Design) (flat : Flat) (plan : Plan) (ports : Ports)
    → IsDesignOf text design → weight design < 2 ^ 31 → IsFlatOf design flat
    → IsAdmissible plan → IsTableOf flat plan 1 ports → ReadsAsPlan plan ports

-- the greatest number of columns of a plan of a design of that weight
abbrev pub most_columns : ℕ → ℕ
most_columns w = 256 * ((w + 1) * (w + 1))

-- the greatest number of generations to the last bits: through the columns, and for each further
-- cycle once round three loops
abbrev pub most_generations : (w cycles : ℕ) → ℕ
most_generations w cycles = 32 * most_columns w + 32 * (cycles - 1) * (2 * most_columns w + 12)

abbrev pub RunsAreBounded : Type 0
RunsAreBounded =
    (seed size cycles : ℕ) (plan : Plan) (ports : Ports) → IsMadePlan seed size plan ports
    → last_generation ports (drawn_streams seed size cycles)
    ≤ most_generations (weight (made_design seed size)) cycles

-- if this number is within the limit, no run goes too far
abbrev pub FewCyclesAreInTime : Type 0
FewCyclesAreInTime =
    (seed size cycles generations : ℕ)
    → most_generations (weight (made_design seed size)) cycles ≤ greatest_generation
    → HasSummaryCause seed size cycles (TooFar generations) → ⊥
