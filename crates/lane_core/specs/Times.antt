-- How long signals take in the drawing of a plan. A column is 32 cells wide, and a signal takes 32
-- generations through it.
use Rattle.std.specs.Prelude.{ℕ, ◌+◌, ◌*◌, ◌==◌, cond, length}
use Rattle.lane_core.specs.declared.plan.Plan.{Plan}

-- generations from an input at the entry of the first column to the outputs
abbrev pub latency_of : Plan → ℕ
latency_of plan = 32 * length plan.columns

-- generations from cycle to cycle: what a signal takes round a loop, which goes through each column
-- twice and has four tiles more for each loop; without loops the least that tiles allow
abbrev pub period_of : Plan → ℕ
period_of plan = cond (plan.latches == 0) 32 (32 * (2 * length plan.columns + 4 * plan.latches))
