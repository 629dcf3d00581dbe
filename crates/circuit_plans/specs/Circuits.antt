-- The plans of circuits: they have no tape, and at generation 0 electrons stand only where loops
-- enter the columns.
use Rattle.std.specs.Prelude.{ℕ, zero, suc, ◌+◌, ◌*◌, ◌<◌, ◌≡◌, Bool, cond, List, [], ◌∷◌, ◌++◌, map, All}
use Rattle.std.specs.List.{range_with_len}
use Rattle.lane_core.specs.declared.starts.Start.{Start}
use Rattle.lane_core.specs.declared.plan.Plan.{Plan}
use Rattle.lane_core.specs.Plans.{IsAdmissible, row_of}
use Rattle.lane_core.specs.Starts.{is_start_at}
use Rattle.lane_core.specs.Entering.{first_loop_lane}

-- the edge at which a loop enters the first column, in a plan of so many lanes and loops, by the
-- edge's cell
abbrev pub loop_start : (lanes loops loop : ℕ) → Start
loop_start lanes loops loop =
    record { y = row_of (first_loop_lane lanes loops + loop); x = 32 * loops }

-- one of the loops enters at this start
abbrev pub IsLoopStart : (lanes loops : ℕ) → Start → Type 0
IsLoopStart lanes loops start = (loop : ℕ) × (loop < loops) × (start ≡ loop_start lanes loops loop)

-- an admissible plan without a tape, whose starts are all where loops enter
pub record IsCircuit (plan : Plan) : Type 0 where
  pub admissible : IsAdmissible plan
  pub no_tape : plan.tape ≡ []
  pub at_loops : All (IsLoopStart plan.lanes plan.latches) plan.starts.list

-- the plan without the places of its nets
abbrev pub without_nets : Plan → Plan
without_nets plan = record {
  lanes = plan.lanes;
  columns = plan.columns;
  latches = plan.latches;
  starts = plan.starts;
  ins = plan.ins;
  outs = plan.outs;
  nets = [];
  tape = plan.tape;
}

-- a loop starts with 1 if a start is where it enters
abbrev pub starts_with_one : List Start → (lanes loops loop : ℕ) → Bool
starts_with_one starts lanes loops loop =
    is_start_at starts (loop_start lanes loops loop).x (loop_start lanes loops loop).y

-- the bits with which a plan's loops start
abbrev pub first_bits : Plan → List Bool
first_bits plan =
    map (starts_with_one plan.starts.list plan.lanes plan.latches) (range_with_len 0 plan.latches)

-- the starts of the next `left` loops, from this one on, for which a test holds
abbrev pub starts_from : (lanes loops : ℕ) → (ℕ → Bool) → (left loop : ℕ) → List Start
starts_from lanes loops holds zero loop = []
starts_from lanes loops holds (suc left) loop =
    cond (holds loop) (loop_start lanes loops loop ∷ []) []
    ++ starts_from lanes loops holds left (loop + 1)

-- the starts of all loops for which a test holds
abbrev pub starts_where : (lanes loops : ℕ) → (ℕ → Bool) → List Start
starts_where lanes loops holds = starts_from lanes loops holds loops 0
