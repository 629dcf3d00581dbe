-- What leaves the body on the lanes of loops enters it again.
use Rattle.std.proofs.Common.{◌≡◌, ◌≢◌, refl, sym, ◌∙◌, ap, ℕ, ◌+◌, ◌-◌, ◌*◌, ◌<◌, ◌≤◌, true, false, ⊎_elim, length, arith}
use Rattle.std.proofs.lemmas.Bool.{cases_lt, true≢false}
use Rattle.std.proofs.lemmas.Bool.Decides.{nat_tests}
use Rattle.std.proofs.lemmas.List.{take_all}
use Rattle.tiling.specs.Tiling.{Edge, Lit}
use Rattle.tiling.specs.Tiling.Edge.{Beside, Above}
use Rattle.tiling.specs.Steps.{after_steps}
use Rattle.lane_core.specs.declared.plan.Plan.{Plan}
use Rattle.lane_core.specs.Plans.{IsAdmissible}
use Rattle.lane_core.specs.Instrs.{bit_on}
use Rattle.lane_core.specs.Columns.{after_columns}
use Rattle.lane_core.specs.Entering.{first_loop_lane}
use Rattle.plan_layout.specs.Layout.{tiling_of}
use Rattle.plan_waves.specs.Waves.{GoesOn, is_inside, bits_at, loop_exit, loop_entry, tiles_back}
use Rattle.plan_waves.specs.WaysBack.{tiles_before, before_entry, HasWayBack}
use Rattle.plan_waves.proofs.Passing.{beside_same}
use Rattle.plan_waves.proofs.Paths.{Reaches, further_back, joined, renamed}
use Rattle.plan_waves.proofs.Turns.{right_turn, left_turn}
use Rattle.plan_waves.proofs.WayBack.{way_back}
use Rattle.plan_waves.proofs.Columns.{bit_on-bits_at, columns_pass}

-- the whole path of a loop outside the body
pub loop_path : (plan : Plan) → IsAdmissible plan → (edges : ℕ → Lit) → GoesOn plan edges → (loop : ℕ) → loop < plan.latches
    → Reaches plan edges (tiles_back plan) (loop_exit plan loop) (loop_entry plan loop)
loop_path plan h edges g loop inside =
    let fits = h.size.loops_on_lanes in
    let rest = plan.latches - 1 - loop in
    renamed plan edges (4 * loop + 2 + (length plan.columns + (4 * rest + 2))) (tiles_back plan) _ _ _ _ (omega arith) refl
    (beside_same plan.latches plan.latches (plan.lanes - 1 - rest) (first_loop_lane plan.lanes plan.latches + loop) refl (omega arith))
    (joined plan edges _ _ _ _ _ (right_turn plan h edges g loop inside)
    (joined plan edges _ _ _ _ _ (way_back plan h edges g loop inside) (left_turn plan h edges g rest (omega arith))))

-- it lies so for all edges that go on
pub ways_back : (plan : Plan) → IsAdmissible plan → (loop : ℕ) → loop < plan.latches → HasWayBack plan loop
ways_back plan h loop inside = record {
  begins = any.back;
  outside = any.outside;
  apart = any.apart;
  enters = λ edges g m j within. (loop_path plan h edges g loop inside).along m j within;
}
  where
    dark : ℕ → Lit
    dark = after_steps (tiling_of plan) (λ edge. false)

    any : Reaches plan dark (tiles_back plan) (loop_exit plan loop) (loop_entry plan loop)
    any = loop_path plan h dark (record { next = λ m edge free. refl }) loop inside

-- a way back that met another, or itself, would meet the exit at which that one begins
exit_inside : (plan : Plan) → IsAdmissible plan → (loop : ℕ) → loop < plan.latches → is_inside plan (loop_exit plan loop) ≡ true
exit_inside plan h loop inside =
    let fits = h.size.loops_on_lanes in
    let some = h.size.loops_in_columns in
    grind (arith, nat_tests)

both_back : (plan : Plan) (loop other j i more : ℕ) → before_entry plan loop j ≡ before_entry plan other i → before_entry plan loop (j + more) ≡ before_entry plan other (i + more)
both_back plan loop other j i more same =
    further_back (tiling_of plan) (loop_entry plan loop) j more ∙ ap (tiles_before (tiling_of plan) more) same ∙ sym (further_back (tiling_of plan) (loop_entry plan other) i more)

not_sooner : (plan : Plan) → IsAdmissible plan → (loop other j i : ℕ) → loop < plan.latches → other < plan.latches → j < i → i ≤ tiles_back plan
    → before_entry plan loop j ≢ before_entry plan other i
not_sooner plan h loop other j i inside inside' sooner within same =
    let more = tiles_back plan - i in
    let last : i + more ≡ tiles_back plan = omega arith in
    let begin = both_back plan loop other j i more same ∙ ap (before_entry plan other) last ∙ (ways_back plan h other inside').begins in
    true≢false (sym (exit_inside plan h other inside') ∙ ap (is_inside plan) (sym begin) ∙ (ways_back plan h loop inside).apart (j + more) (omega arith))

abbrev lane_at : Edge → ℕ
lane_at (Beside q l) = l
lane_at (Above q l) = l

pub ways_back_are_apart : (plan : Plan) → IsAdmissible plan → (loop other j i : ℕ) → loop < plan.latches → other < plan.latches → j ≤ tiles_back plan → i ≤ tiles_back plan
    → before_entry plan loop j ≡ before_entry plan other i → (loop ≡ other) × (j ≡ i)
ways_back_are_apart plan h loop other j i inside inside' within within' same =
    let fits = h.size.loops_on_lanes in
    let sooner : i ≤ j = ⊎_elim (λ less. absurd (not_sooner plan h loop other j i inside inside' less within' same)) (λ more. more) (cases_lt j i) in
    let later : j ≤ i = ⊎_elim (λ less. absurd (not_sooner plan h other loop i j inside' inside less within (sym same))) (λ more. more) (cases_lt i j) in
    let both : j ≡ i = omega arith in
    let last : j + (tiles_back plan - j) ≡ tiles_back plan = omega arith in
    let last' : i + (tiles_back plan - j) ≡ tiles_back plan = omega arith in
    let exits = sym (ways_back plan h loop inside).begins ∙ ap (before_entry plan loop) (sym last) ∙ both_back plan loop other j i (tiles_back plan - j) same
    ∙ ap (before_entry plan other) last' ∙ (ways_back plan h other inside').begins in
    let lanes : plan.lanes - 1 - loop ≡ plan.lanes - 1 - other = ap lane_at exits in
    (omega arith, both)

pub loops_return : (plan : Plan) → IsAdmissible plan → (edges : ℕ → Lit) → GoesOn plan edges → (m loop : ℕ) → loop < plan.latches
    → edges (m + tiles_back plan) (loop_entry plan loop) ≡ edges m (loop_exit plan loop)
loops_return plan h edges g m loop inside =
    let way = ways_back plan h loop inside in
    way.enters edges g m (tiles_back plan) (omega arith) ∙ ap (edges m) way.begins

pub loops_come_round : (plan : Plan) → IsAdmissible plan → (edges : ℕ → Lit) → GoesOn plan edges → (m loop : ℕ) → loop < plan.latches
    → edges (m + (length plan.columns + tiles_back plan)) (loop_entry plan loop)
    ≡ bit_on (after_columns plan.columns (bits_at plan 0 (edges m))) (plan.lanes - 1 - loop)
loops_come_round plan h edges g m loop inside =
    let fits = h.size.loops_on_lanes in
    let all = length plan.columns in
    let sum : m + (all + tiles_back plan) ≡ m + all + tiles_back plan = omega arith in
    ap (λ n. edges n (loop_entry plan loop)) sum
    ∙ loops_return plan h edges g (m + all) loop inside
    ∙ sym (bit_on-bits_at plan all (edges (m + all)) (plan.lanes - 1 - loop) (omega arith))
    ∙ ap (λ bits. bit_on bits (plan.lanes - 1 - loop)) (columns_pass plan h edges g m all (omega arith))
    ∙ ap (λ columns. bit_on (after_columns columns (bits_at plan 0 (edges m))) (plan.lanes - 1 - loop)) (take_all all plan.columns (omega arith))
