-- Contexts on a plan: several machines on the same wires. What enters the body in a context enters
-- it one macro step after what does so in the context before.
use Rattle.std.specs.Prelude.{ℤ, pos, ℕ, ◌+◌, ◌*◌, ◌<◌, ◌≤◌, ◌≡◌, ◌≢◌, ◌==◌, cond, Bool, true, false, List, [], length, map, take, get_or, replicate, All}
use Rattle.std.specs.List.{range_with_len}
use Rattle.ww_rule.specs.Wireworld.{Due}
use Rattle.tiling.specs.Tiling.{Edge, Lit}
use Rattle.tiling.specs.Steps.{driven_edges}
use Rattle.lane_core.specs.declared.plan.Plan.{Plan}
use Rattle.lane_core.specs.Instrs.{bit_on}
use Rattle.lane_core.specs.Columns.{after_columns}
use Rattle.lane_core.specs.Plans.{IsAdmissible, left_of, row_of, period_of}
use Rattle.lane_core.specs.Entering.{first_loop_lane, entering_bits}
use Rattle.lane_core.specs.Tape.{cycle_tiles}
use Rattle.plan_layout.specs.Layout.{tiling_of}
use Rattle.plan_waves.specs.Waves.{bits_at, tiles_back}
use Rattle.plan_waves.specs.WaysBack.{before_entry}

-- how many contexts can start outside the body: as many as the way back of a loop has tiles, or one
-- without loops
abbrev pub contexts_on_ways : Plan → ℕ
contexts_on_ways plan = cond (plan.latches == 0) 1 (tiles_back plan)

-- The bits with which the loops start, with a list for each context, lie on the loops' ways back:
-- those of context c lie c tiles before the loops' entries. No other edge is lit.
pub record StartsContexts (plan : Plan) (starts : List (List Bool)) (lit : Lit) : Type 0 where
  pub fit : length starts ≤ contexts_on_ways plan
  pub long : All (λ bits. length bits ≡ plan.latches) starts
  pub on_ways : (c loop : ℕ) → c < length starts → loop < plan.latches
      → lit (before_entry plan loop c) ≡ bit_on (get_or starts c []) loop
  pub only : (edge : Edge) → lit edge ≡ true
      → (c : ℕ) × (loop : ℕ) × (c < length starts) × (loop < plan.latches)
      × (edge ≡ before_entry plan loop c)

-- heads for context c are injected 32 c generations after multiples of the period, and only in the
-- cells of free entries
pub record DrivesContexts (plan : Plan) (contexts : ℕ) (due : Due) : Type 0 where
  pub on_time : (g : ℕ) (x y : ℤ) → due g x y ≡ true
      → (c : ℕ) × (t : ℕ) × (c < contexts) × (g ≡ 32 * c + t * period_of plan)
  pub at_free_entries : (g : ℕ) (x y : ℤ) → due g x y ≡ true
      → (lane : ℕ) × (lane < first_loop_lane plan.lanes plan.latches) × (x ≡ pos (left_of plan 0))
      × (y ≡ pos (row_of lane))

-- the bits that are injected in a cycle of a context, on the lanes that no loop enters
abbrev pub injected_in : Plan → Due → ℕ → ℕ → List Bool
injected_in plan due c t =
    map (λ lane. due (32 * c + t * period_of plan) (pos (left_of plan 0)) (pos (row_of lane)))
    (range_with_len 0 (first_loop_lane plan.lanes plan.latches))

-- the bits that enter the body in a cycle of a context; each context is a machine of its own
abbrev pub context_bits : Plan → Due → List (List Bool) → ℕ → ℕ → List Bool
context_bits plan due starts c t =
    entering_bits (first_loop_lane plan.lanes plan.latches) plan.columns (injected_in plan due c)
    (get_or starts c []) t

-- The entries of a column, or the outputs if `column` is the number of columns, have the bits of
-- cycle t of context c as many macro steps after that cycle's beginning as columns stand before
-- them. They are dark at all other macro times.
pub record RunsByContexts (plan : Plan) (due : Due) (starts : List (List Bool))
    (edges : ℕ → Lit) : Type 0 where
  pub lit : (c t column : ℕ) → c < length starts → column ≤ length plan.columns
      → bits_at plan column (edges (c + t * cycle_tiles plan + column))
      ≡ after_columns (take column plan.columns) (context_bits plan due starts c t)
  pub dark : (m column : ℕ) → column ≤ length plan.columns
      → ((c t : ℕ) → c < length starts → m ≢ c + t * cycle_tiles plan + column)
      → bits_at plan column (edges m) ≡ replicate plan.lanes false

-- every admissible plan runs by contexts, from all edges that start them
abbrev pub PlansRunByContexts : Type 0
PlansRunByContexts =
    (plan : Plan) → IsAdmissible plan → (due : Due) (starts : List (List Bool)) (lit : Lit)
    → DrivesContexts plan (length starts) due → StartsContexts plan starts lit
    → RunsByContexts plan due starts (driven_edges (tiling_of plan) due lit)
