-- The tiles of a cycle, and what enters in it.
use Rattle.std.proofs.Common.{◌≡◌, refl, sym, ◌∙◌, ap, ap₂, ℕ, zero, suc, ◌+◌, ◌*◌, ◌<◌, Bool, true, false, cond, List, ◌++◌, length, drop, reverse, arith}
use Rattle.std.specs.Prelude.{◌==◌, ◌/◌}
use Rattle.std.proofs.lemmas.Bool.{cond-true, cond-false, eq-eqb}
use Rattle.std.proofs.lemmas.Bool.Decides.{nat_tests}
use Rattle.std.proofs.Math.Nat.{mul_assoc, mul_comm}
use Rattle.lane_core.specs.declared.plan.Plan.{Plan}
use Rattle.lane_core.specs.Columns.{after_columns}
use Rattle.lane_core.specs.Plans.{period_of}
use Rattle.lane_core.specs.Entering.{first_loop_lane, entering_bits}
use Rattle.lane_core.specs.Tape.{cycle_tiles}
use Rattle.plan_waves.specs.Waves.{tiles_back}

-- a period is the macro steps of a cycle
pub period_is : (plan : Plan) → 32 * cycle_tiles plan ≡ period_of plan
period_is plan = by_loops (plan.latches == 0) (2 * length plan.columns + 4 * plan.latches)
  where
    by_loops : (b : Bool) (n : ℕ) → 32 * (cond b 32 (32 * n) / 32) ≡ cond b 32 (32 * n)
    by_loops true n = refl
    by_loops false n = omega arith

-- with a loop, a cycle is as long as a loop
pub tiles_with_loops : (plan : Plan) → 0 < plan.latches → cycle_tiles plan ≡ length plan.columns + tiles_back plan
tiles_with_loops plan some =
    let no : (plan.latches == 0) ≡ false = grind (arith, nat_tests) in
    let period = cond-false (plan.latches == 0) 32 (32 * (2 * length plan.columns + 4 * plan.latches)) no in
    omega (arith, period)

-- and without one it is a tile
pub tiles_without : (plan : Plan) → plan.latches ≡ 0 → cycle_tiles plan ≡ 1
tiles_without plan none =
    let period = cond-true (plan.latches == 0) 32 (32 * (2 * length plan.columns + 4 * plan.latches)) (eq-eqb plan.latches 0 none) in
    omega (arith, period)

pub cycle_time : (plan : Plan) (t : ℕ) → 32 * (t * cycle_tiles plan) ≡ t * period_of plan
cycle_time plan t =
    sym (mul_assoc 32 t (cycle_tiles plan)) ∙ ap (λ n. n * cycle_tiles plan) (mul_comm 32 t) ∙ mul_assoc t 32 (cycle_tiles plan)
    ∙ ap (λ n. t * n) (period_is plan)

-- the bits that enter the body depend on those of the inputs and of the start alone
pub same_entering : (plan : Plan) (inputs inputs' : ℕ → List Bool) (starts starts' : List Bool) → ((t : ℕ) → inputs t ≡ inputs' t) → starts ≡ starts'
    → (t : ℕ) → entering_bits (first_loop_lane plan.lanes plan.latches) plan.columns inputs starts t ≡ entering_bits (first_loop_lane plan.lanes plan.latches) plan.columns inputs' starts' t
same_entering plan inputs inputs' starts starts' each first zero = ap₂ (λ xs ys. xs ++ ys) (each 0) first
same_entering plan inputs inputs' starts starts' each first (suc t) =
    ap₂ (λ xs bits. xs ++ reverse (drop (first_loop_lane plan.lanes plan.latches) (after_columns plan.columns bits))) (each (suc t)) (same_entering plan inputs inputs' starts starts' each first t)
