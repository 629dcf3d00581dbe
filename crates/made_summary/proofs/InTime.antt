-- Few enough cycles are in time.
use Rattle.std.proofs.Common.{ℕ, ◌≡◌, ◌≤◌, ◌<◌, ◌+◌, ◌-◌, ◌*◌, sym, subst, Bool, true, false, cond, length, arith}
use Rattle.std.specs.Prelude.{◌==◌}
use Rattle.std.proofs.Math.Nat.{mul-le-mul, mul-mul-mul_comm}
use Rattle.netlist_meaning.specs.Weight.{weight}
use Rattle.made_netlists.specs.Design.{made_design}
use Rattle.drive.specs.Driving.{last_generation, greatest_generation}
use Rattle.made_summary.specs.Streams.{drawn_streams}
use Rattle.made_summary.specs.Laws.{most_columns, most_generations, RunsAreBounded, FewCyclesAreInTime}

-- once round at most three loops
round : (columns loops most : ℕ) → columns ≤ most → loops ≤ 3 → cond (loops == 0) 32 (32 * (2 * columns + 4 * loops)) ≤ 32 * (2 * most + 12)
round columns loops most few short = by (loops == 0)
  where
    by : (none : Bool) → cond none 32 (32 * (2 * columns + 4 * loops)) ≤ 32 * (2 * most + 12)
    by true = omega arith
    by false = omega (arith, few, short)

-- and so many times
rounds : (latency period further most : ℕ) → latency ≤ 32 * most → period ≤ 32 * (2 * most + 12) → latency + further * period ≤ 32 * most + 32 * further * (2 * most + 12)
rounds latency period further most first each = more (2 * most + 12) each
  where
    at_most_itself : further ≤ further
    at_most_itself = omega arith

    turned : (n : ℕ) → 1 * further * (32 * n) ≡ 1 * 32 * (further * n)
    turned n = mul-mul-mul_comm 1 further 32 n

    more : (n : ℕ) → period ≤ 32 * n → latency + further * period ≤ 32 * most + 32 * further * n
    more n most_each =
        let all : further * period ≤ further * (32 * n) = mul-le-mul at_most_itself most_each in
        let other : (32 * further) * (1 * n) ≡ (32 * 1) * (further * n) = mul-mul-mul_comm 32 further 1 n in
        omega (arith, first, all, turned n, other)

pub runs_are_bounded : RunsAreBounded
runs_are_bounded seed size cycles plan ports is =
    let most = most_columns (weight (made_design seed size)) in
    let first : ports.l ≤ 32 * most = subst (λ (l : ℕ). l ≤ 32 * most) (sym is.latency) (omega (arith, is.columns)) in
    let each : ports.p ≤ 32 * (2 * most + 12) = subst (λ (p : ℕ). p ≤ 32 * (2 * most + 12)) (sym is.period) (round (length plan.columns) plan.latches most is.columns is.loops) in
    let from_first : ports.l + 32 * (ports.c - 1) + (cycles - 1) * ports.p ≡ ports.l + (cycles - 1) * ports.p = (let one = is.contexts in omega (arith, one)) in
    subst (λ (n : ℕ). n ≤ most_generations (weight (made_design seed size)) cycles) (sym from_first) (rounds ports.l ports.p (cycles - 1) most first each)

pub few_cycles_are_in_time : FewCyclesAreInTime
few_cycles_are_in_time seed size cycles generations few cause =
    let bounded : last_generation cause.1 (drawn_streams seed size cycles) ≤ most_generations (weight (made_design seed size)) cycles = runs_are_bounded seed size cycles cause.0 cause.1 cause.2 in
    let late : greatest_generation < generations = cause.4 in
    omega (arith, few, bounded, late, cause.3)
