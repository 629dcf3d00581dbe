-- Plans of flat netlists in several contexts.
use Rattle.std.specs.Prelude.{ℕ, ◌*◌, ◌<◌, ◌≤◌, ◌≡◌, nat_lt, Bool, true, List, [], ◌∷◌, ◌++◌, cond, length, All}
use Rattle.netlist_core.specs.declared.flat.Flat.{Flat}
use Rattle.lane_core.specs.declared.plan.Plan.{Plan}
use Rattle.lane_core.specs.Plans.{period_of}
use Rattle.latch_loops.specs.Closed.{contexts_size}
use Rattle.latch_loops.specs.Padded.{IsPaddedPlan}
use Rattle.plan_layout.specs.Starts.{start_edges}
use Rattle.plan_waves.specs.Contexts.{StartsContexts}

-- the bits that the latches start with, a list for each context; the plan's period has 32
-- generations for each
pub record AreStartsOf (flat : Flat) (plan : Plan) (starts : List (List Bool)) : Type 0 where
  pub some : 0 < length starts
  pub fit : 32 * length starts ≤ period_of plan
  pub long : All (λ start. length start ≡ length flat.latches) starts

-- the bits with which the loops of a plan start when the latches start with these bits; if there is
-- one more loop, it is that of constant 1
abbrev pub loop_starting_bits : Plan → List Bool → List Bool
loop_starting_bits plan bits = bits ++ cond (nat_lt (length bits) plan.latches) (true ∷ []) []

-- the start edges of the plan start its loops with these bits, a list for each context
abbrev pub StartsLoops : Plan → List (List Bool) → Type 0
StartsLoops plan starts = StartsContexts plan starts (start_edges plan)

-- the plan with the columns added that so many contexts need; its starts may be others
abbrev pub IsPaddedFor : (contexts : ℕ) → (plan padded : Plan) → Type 0
IsPaddedFor contexts plan padded = IsPaddedPlan (contexts_size plan.latches contexts) plan padded
