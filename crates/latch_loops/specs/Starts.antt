-- The names of the edges at which loops start in several contexts.
use Rattle.std.specs.Prelude.{ℕ, zero, suc, Bool, cond, List, [], ◌∷◌, ◌++◌, length, get_or}
use Rattle.lane_core.specs.declared.starts.Start.{Start}
use Rattle.lane_core.specs.declared.plan.Plan.{Plan}
use Rattle.lane_core.specs.Instrs.{bit_on}
use Rattle.plan_layout.specs.Layout.{tiling_of}
use Rattle.plan_layout.specs.Starts.{edge_name}
use Rattle.plan_waves.specs.WaysBack.{before_entry}

-- the start of a loop in a context, if its bit is 1
abbrev pub start_in : Plan → List (List Bool) → ℕ → ℕ → List Start
start_in plan starts loop c =
    cond (bit_on (get_or starts c []) loop)
    (edge_name (tiling_of plan) (before_entry plan loop c) ∷ []) []

-- the starts of a loop in the first contexts, and those of the first loops in all contexts
abbrev pub starts_of_loop : Plan → List (List Bool) → ℕ → ℕ → List Start
starts_of_loop plan starts loop zero = []
starts_of_loop plan starts loop (suc c) =
    starts_of_loop plan starts loop c ++ start_in plan starts loop c

abbrev pub starts_of_loops : Plan → List (List Bool) → ℕ → List Start
starts_of_loops plan starts zero = []
starts_of_loops plan starts (suc loop) =
    starts_of_loops plan starts loop ++ starts_of_loop plan starts loop (length starts)
