-- How many contexts fit, and closing in two steps.
use Rattle.std.proofs.Common.{◌≡◌, sym, ◌∙◌, ap, subst, ℕ, ◌+◌, ◌*◌, ◌<◌, ◌≤◌, max, min, false, ⊎_elim, List, length, arith}
use Rattle.std.specs.Prelude.{◌==◌}
use Rattle.std.proofs.lemmas.Bool.{cases_eq, cond-true, cond-false, eq-eqb}
use Rattle.std.proofs.lemmas.Bool.Decides.{nat_tests}
use Rattle.lane_core.specs.declared.instr.Column.{Column}
use Rattle.lane_core.specs.declared.plan.Program.{Program}
use Rattle.lane_core.specs.declared.plan.Plan.{Plan}
use Rattle.lane_core.specs.Plans.{period_of}
use Rattle.lane_core.specs.Tape.{cycle_tiles}
use Rattle.plan_waves.proofs.CycleTiles.{period_is, tiles_with_loops, tiles_without}
use Rattle.latch_loops.specs.Closed.{IsPadded, contexts_size, least_size, IsClosed, contexts_limit}
use Rattle.latch_loops.specs.Padded.{IsPaddedPlan}
use Rattle.latch_loops.proofs.Padding.{small_size, padded_more}

limit_without : (columns : List Column) (program : Program) → length program.latches ≡ 0 → contexts_limit columns program ≡ 1
limit_without columns program none =
    cond-true (length program.latches == 0) 1 (2 * max (length columns) (length program.latches) + 4 * length program.latches) (eq-eqb (length program.latches) 0 none)

limit_with : (columns : List Column) (program : Program) → 0 < length program.latches
    → contexts_limit columns program ≡ 2 * max (length columns) (length program.latches) + 4 * length program.latches
limit_with columns program some =
    let no : (length program.latches == 0) ≡ false = grind (arith, nat_tests) in
    cond-false (length program.latches == 0) 1 (2 * max (length columns) (length program.latches) + 4 * length program.latches) no

-- one context fits
pub one_fits : (columns : List Column) (program : Program) → 1 ≤ contexts_limit columns program
one_fits columns program =
    ⊎_elim
    (λ none. omega (arith, limit_without columns program none))
    (λ some. omega (arith, limit_with columns program (omega (arith, some)), some))
    (cases_eq (length program.latches) 0)

-- columns of a plan of one context at most
pub count_is : (program : Program) (columns : List Column) (contexts : ℕ) (plan : Plan) → contexts ≤ 1 → IsClosed program columns contexts plan
    → length plan.columns ≡ max (max (length program.latches) (min program.lanes 1)) (length columns)
count_is program columns contexts plan few c = omega (arith, c.padded.count, small_size (length program.latches) contexts few)

-- as many contexts fit as a cycle has tiles
pub limit_is_tiles : (program : Program) (columns : List Column) (contexts : ℕ) (plan : Plan) → contexts ≤ 1 → IsClosed program columns contexts plan
    → contexts_limit columns program ≡ cycle_tiles plan
limit_is_tiles program columns contexts plan few c =
    ⊎_elim
    (λ none. limit_without columns program none ∙ sym (tiles_without plan (c.latches ∙ none)))
    (λ some. (let loops : 0 < length program.latches = omega (arith, some) in
    omega (arith, limit_with columns program loops, tiles_with_loops plan (omega (arith, loops, c.latches)), count_is program columns contexts plan few c, c.latches, loops, program.loops_fit)))
    (cases_eq (length program.latches) 0)

pub limit_is_period : (program : Program) (columns : List Column) (plan : Plan) → IsClosed program columns 1 plan → period_of plan ≡ 32 * contexts_limit columns program
limit_is_period program columns plan c = sym (period_is plan) ∙ ap (λ n. 32 * n) (sym (limit_is_tiles program columns 1 plan (omega arith) c))

-- ---- a plan without starts, then the same with those of contexts
pub closed_more : (program : Program) (columns : List Column) (contexts : ℕ) (middle plan : Plan) → IsClosed program columns 0 middle → IsPaddedPlan (contexts_size middle.latches contexts) middle plan
    → IsClosed program columns contexts plan
closed_more program columns contexts middle plan c p = record {
  lanes = p.lanes ∙ c.lanes;
  latches = p.latches ∙ c.latches;
  ins = p.ins ∙ c.ins;
  outs = p.outs ∙ c.outs;
  padded = subst (λ (size : ℕ). IsPadded size columns plan.columns) sizes (padded_more (least_size program 0) (contexts_size middle.latches contexts) columns middle.columns plan.columns c.padded p.columns);
  nets = p.nets ∙ c.nets;
  tape = p.tape ∙ c.tape;
}
  where
    sizes : max (least_size program 0) (contexts_size middle.latches contexts) ≡ least_size program contexts
    sizes =
        let none = small_size (length program.latches) 0 (omega arith) in
        let same : contexts_size middle.latches contexts ≡ contexts_size (length program.latches) contexts = ap (λ k. contexts_size k contexts) c.latches in
        omega (arith, none, same)
