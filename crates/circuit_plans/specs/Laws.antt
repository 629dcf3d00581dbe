-- The bits of a circuit's loops tell the circuit's starts.
use Rattle.std.specs.Prelude.{ℕ, ◌<◌, ◌≡◌, Bool}
use Rattle.lane_core.specs.declared.plan.Plan.{Plan}
use Rattle.circuit_plans.specs.Circuits.{IsCircuit, starts_with_one, starts_where}

-- a test that holds exactly for the loops that start with 1 gives the plan's list of starts
abbrev pub StartsAreOfLoops : Type 0
StartsAreOfLoops =
    (plan : Plan) → IsCircuit plan → (holds : ℕ → Bool)
    → ((loop : ℕ) → loop < plan.latches
    → holds loop ≡ starts_with_one plan.starts.list plan.lanes plan.latches loop)
    → starts_where plan.lanes plan.latches holds ≡ plan.starts.list
