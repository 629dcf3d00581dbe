-- How long the body of a plan stays dark at the beginning.
use Rattle.std.proofs.Common.{◌≡◌, refl, sym, ◌∙◌, ap, subst, ℕ, zero, suc, ◌+◌, ◌<◌, ◌≤◌, true, false, List, length, replicate, Option, Some, None, arith}
use Rattle.std.specs.Prelude.{◌==◌, IsTrue, All}
use Rattle.std.proofs.lemmas.Bool.Decides.{nat_tests}
use Rattle.std.proofs.lemmas.List.{ext_get_or, length-replicate}
use Rattle.tiling.specs.Tiling.{Lit}
use Rattle.tiling.specs.Tiling.Edge.{Beside}
use Rattle.lane_core.specs.declared.instr.Instr.{Instr}
use Rattle.lane_core.specs.declared.instr.Instr.TheVariants as instr
use Rattle.lane_core.specs.declared.plan.Plan.{Plan}
use Rattle.lane_core.specs.Instrs.{bit_on, after_instrs, IsOnLanes, are_sorted_apart, instr_on}
use Rattle.lane_core.specs.Plans.{IsAdmissible}
use Rattle.plan_layout.specs.Layout.{instrs_of}
use Rattle.lane_core.proofs.Dark.{dark}
use Rattle.plan_layout.proofs.Halves.{instrs_sorted, instrs_on_lanes}
use Rattle.plan_layout.proofs.Sides.{either}
use Rattle.plan_waves.specs.Waves.{GoesOn, is_inside, IsDarkInside, bits_at}
use Rattle.plan_waves.proofs.LaneBits.{answer_on, answers_agree, bit_after}
use Rattle.plan_waves.proofs.Columns.{length-bits_at, bit_on-bits_at, next_bits, not_free}
use Rattle.lane_core.proofs.Lengths.{length-after_instrs}

-- instructions make nothing of nothing
answer_dark : (l : ℕ) (o : Option Instr) → answer_on l o (λ n. false) ≡ false
answer_dark l None = refl
answer_dark l (Some (instr.Swap i)) = either (λ b. b ≡ false) (l == i) refl refl
answer_dark l (Some (instr.Fork i)) = either (λ b. b ≡ false) (l == i) refl refl
answer_dark l (Some (instr.Xor i)) = either (λ b. b ≡ false) (l == i) refl refl
answer_dark l (Some (instr.Or i)) = either (λ b. b ≡ false) (l == i) refl refl
answer_dark l (Some (instr.AndNot i)) = either (λ b. b ≡ false) (l == i) refl refl

pub after_dark : (n : ℕ) (xs : List Instr) → IsTrue (are_sorted_apart xs) → All (IsOnLanes n) xs → after_instrs xs (replicate n false) ≡ replicate n false
after_dark n xs sorted fit =
    let fit' : All (IsOnLanes (length (replicate n false))) xs = subst (λ (k : ℕ). All (IsOnLanes k) xs) (sym (length-replicate n false)) fit in
    ext_get_or false (after_instrs xs (replicate n false)) (replicate n false) (length-after_instrs xs (replicate n false))
    (λ l within. bit_after xs sorted (replicate n false) fit' l
    ∙ answers_agree (λ k. Unit {0}) (bit_on (replicate n false)) (λ k. false) (λ k u. dark n k) xs (λ k d w. (tt, tt)) l tt
    ∙ answer_dark l (instr_on xs l)
    ∙ sym (dark n l))

inside_body : (plan : Plan) (c l : ℕ) → 0 < c → c ≤ length plan.columns → l < plan.lanes → is_inside plan (Beside (plan.latches + c) l) ≡ true
inside_body plan c l some within low = grind (arith, nat_tests)

-- the body is dark until what enters it arrives
pub body_begins_dark : (plan : Plan) → IsAdmissible plan → (edges : ℕ → Lit) → GoesOn plan edges → IsDarkInside plan (edges 0)
    → (m c : ℕ) → m < c → c ≤ length plan.columns → bits_at plan c (edges m) ≡ replicate plan.lanes false
body_begins_dark plan h edges g begins zero c later within =
    ext_get_or false (bits_at plan c (edges 0)) (replicate plan.lanes false) (length-bits_at plan c (edges 0) ∙ sym (length-replicate plan.lanes false))
    (λ l low. (let lane : l < plan.lanes = omega (arith, low, length-bits_at plan c (edges 0)) in
    bit_on-bits_at plan c (edges 0) l lane
    ∙ begins (Beside (plan.latches + c) l) (inside_body plan c l later within lane)
    ∙ sym (dark plan.lanes l)))
body_begins_dark plan h edges g begins (suc m) zero later within = absurd (omega arith)
body_begins_dark plan h edges g begins (suc m) (suc c) later within =
    let one : suc c ≡ c + 1 = omega arith in
    ap (λ i. bits_at plan i (edges (suc m))) one
    ∙ next_bits plan h (edges m) (edges (suc m)) c (omega arith) (λ l low. g.next m (Beside (plan.latches + (c + 1)) l) (not_free plan c l))
    ∙ ap (after_instrs (instrs_of plan c)) (body_begins_dark plan h edges g begins m c (omega arith) (omega arith))
    ∙ after_dark plan.lanes (instrs_of plan c) (instrs_sorted plan.columns c) (instrs_on_lanes plan.lanes plan.columns c h.instrs)
