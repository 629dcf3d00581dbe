-- The outputs of a run of a netlist, and the netlist's summary.
use Rattle.std.specs.Prelude.{ℕ, ◌≡◌, ◌≤◌, ◌<◌, ⊤, Bool, List, None, length}
use Rattle.ww_rule.specs.Grid.{AreInBox, plane_of}
use Rattle.lane_core.specs.Plans.{IsAdmissible}
use Rattle.pattern_reading.specs.Ports.{cells_of}
use Rattle.grid_assembly.specs.PlanDrawing.{start_grid}
use Rattle.netlist_core.specs.declared.model.Design.{Design}
use Rattle.netlist_meaning.specs.Places.{main_outputs}
use Rattle.netlist_text.specs.declared.netlist.Netlist.{Netlist}
use Rattle.netlist_plans.specs.declared.planning.Planned.{Planned}
use Rattle.streams.specs.declared.streams.Streams.{Streams}
use Rattle.drive.specs.Driving.{AreFor, first_miss, greatest_generation, last_generation, shown_bits}
use Rattle.netlist_run.specs.Runs.{ShowsRun}
use Rattle.made_summary.specs.Summaries.{outputs_by_name}
use Rattle.made_summary.specs.declared.error.SummaryError.{SummaryError}
use Rattle.made_summary.specs.declared.error.SummaryError.TheVariants.{NoMemory, TooFar}
use Rattle.made_summary.specs.declared.summarizing.OutputBits.{OutputBits}
use Rattle.made_summary.specs.declared.summarizing.Summary.{Summary}

-- these are the design's outputs, with these simulated bits and the bits of a run on the streams
pub record AreOutputsIn (design : Design) (streams : Streams) (simulated : List (List Bool))
    (outputs : List OutputBits) : Type 0 where
  pub evaluated : List (List Bool)
  pub runs : ShowsRun design streams evaluated
  pub are : outputs ≡ outputs_by_name (main_outputs design) simulated evaluated

-- this is the summary of this netlist and its plan under the streams
pub record IsToldOf (netlist : Netlist) (planned : Planned) (streams : Streams)
    (summary : Summary) : Type 0 where
  pub weight : summary.weight ≡ netlist.flat.weight
  pub lanes : summary.lanes ≡ planned.plan.lanes
  pub columns : summary.columns ≡ length planned.plan.columns
  pub period : summary.p ≡ planned.ports.p
  pub latency : summary.l ≡ planned.ports.l
  pub near : last_generation planned.ports streams ≤ greatest_generation
  pub outputs : AreOutputsIn netlist.design streams
      (shown_bits planned.ports streams (plane_of (start_grid planned.plan).rows)) summary.outputs

-- the plan's pattern is quiet up to the last bits that are shown, when the streams drive it
abbrev pub IsQuietUnder : Planned → Streams → Type 0
IsQuietUnder planned streams =
    first_miss planned.ports streams (plane_of (start_grid planned.plan).rows)
    (last_generation planned.ports streams) ≡ None

-- the streams can drive the plan's pattern up to the last bits that are shown
pub record CanBeDriven (planned : Planned) (streams : Streams) : Type 0 where
  pub admissible : IsAdmissible planned.plan
  pub cycles : 0 < streams.cycles
  pub fit : AreFor planned.ports streams
  pub in_box : AreInBox (start_grid planned.plan).width (start_grid planned.plan).height
      (cells_of planned.ports.ins)
  pub quiet : IsQuietUnder planned streams

-- why a run up to this generation gives no summary
abbrev pub HasTooFarCause : ℕ → SummaryError → Type 0
HasTooFarCause last NoMemory = ⊤
HasTooFarCause last (TooFar generations) =
    (generations ≡ last) × (greatest_generation < generations)
