-- The lit edges of a plan from macro step to macro step, if heads are injected at its free entries
-- alone.
use Rattle.std.specs.Prelude.{ℤ, pos, ℕ, suc, ◌+◌, ◌-◌, ◌*◌, ◌%◌, ◌<◌, ◌≡◌, ◌==◌, nat_lt, nat_le, Bool, true, false, ◌&&◌, List, length, map}
use Rattle.std.specs.List.{range_with_len}
use Rattle.ww_rule.specs.Wireworld.{Due}
use Rattle.tiling.specs.Tiling.{Edge, Lit}
use Rattle.tiling.specs.Tiling.Edge.{Beside, Above}
use Rattle.tiling.specs.MacroStep.{macro_step}
use Rattle.lane_core.specs.declared.plan.Plan.{Plan}
use Rattle.lane_core.specs.Plans.{left_of, row_of}
use Rattle.lane_core.specs.Entering.{first_loop_lane}
use Rattle.plan_layout.specs.Layout.{end_of_body, tiling_of}

-- the free entries: where the lanes that no loop enters meet the body's first column, and heads may
-- be injected
abbrev pub is_free_entry : Plan → Edge → Bool
is_free_entry plan (Beside column lane) =
    column == plan.latches && nat_lt lane (first_loop_lane plan.lanes plan.latches)
is_free_entry plan (Above column lane) = false

-- The lit edges at each macro time. Free entries may be lit at any time; all other edges go on by
-- macro steps.
pub record GoesOn (plan : Plan) (edges : ℕ → Lit) : Type 0 where
  pub next : (m : ℕ) (edge : Edge) → is_free_entry plan edge ≡ false
      → edges (suc m) edge ≡ macro_step (tiling_of plan) (edges m) edge

-- the entries of the body's first column: free entries, and those of loops
abbrev pub is_body_entry : Plan → Edge → Bool
is_body_entry plan (Beside column lane) = column == plan.latches && nat_lt lane plan.lanes
is_body_entry plan (Above column lane) = false

-- the bits at the entries of a column of the body, lane by lane; if `column` is the number of
-- columns, the bits that leave the body
abbrev pub bits_at : Plan → ℕ → Lit → List Bool
bits_at plan column lit =
    map (λ lane. lit (Beside (plan.latches + column) lane)) (range_with_len 0 plan.lanes)

-- the edges inside the body: the entries of its columns but the first, and where it is left
abbrev pub is_inside : Plan → Edge → Bool
is_inside plan (Beside column lane) =
    nat_lt plan.latches column && nat_le column (end_of_body plan) && nat_lt lane plan.lanes
is_inside plan (Above column lane) = false

-- no edge inside the body is lit
abbrev pub IsDarkInside : Plan → Lit → Type 0
IsDarkInside plan lit = (edge : Edge) → is_inside plan edge ≡ true → lit edge ≡ false

-- where a loop leaves the body, and where it enters it again
abbrev pub loop_exit : Plan → ℕ → Edge
loop_exit plan loop = Beside (end_of_body plan) (plan.lanes - 1 - loop)

abbrev pub loop_entry : Plan → ℕ → Edge
loop_entry plan loop = Beside plan.latches (first_loop_lane plan.lanes plan.latches + loop)

-- how many tiles lie from a loop's exit to its entry: one in each column of the way back, and four
-- for each loop in the two turns
abbrev pub tiles_back : Plan → ℕ
tiles_back plan = length plan.columns + 4 * plan.latches

-- heads are injected at multiples of 32 generations, and in the cells of free entries alone
pub record DrivesInputs (plan : Plan) (due : Due) : Type 0 where
  pub on_time : (g : ℕ) (x y : ℤ) → due g x y ≡ true → g % 32 ≡ 0
  pub at_free_entries : (g : ℕ) (x y : ℤ) → due g x y ≡ true
      → (lane : ℕ) × (lane < first_loop_lane plan.lanes plan.latches) × (x ≡ pos (left_of plan 0))
      × (y ≡ pos (row_of lane))
