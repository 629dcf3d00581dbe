-- Signals pass each edge on the ways back of loops.
use Rattle.std.proofs.Common.{◌≡◌, refl, sym, ◌∙◌, ap, ℕ, zero, suc, ◌+◌, ◌-◌, ◌<◌, ◌≤◌, Bool, true, false, ◌&&◌, ◌||◌, ⊎_elim, arith}
use Rattle.std.specs.Prelude.{nat_lt}
use Rattle.std.proofs.lemmas.Bool.{true≢false, and_from, or_cases, or_left, or_right, lt-ltb}
use Rattle.tiling.specs.Tiling.{Slot, Tiling, Edge, Lit}
use Rattle.tiling.specs.Tiling.Edge.{Beside, Above}
use Rattle.tiling.specs.Matched.{is_left}
use Rattle.tiling.specs.MacroStep.{macro_step, slot_answers}
use Rattle.tiling.specs.Steps.{after_steps}
use Rattle.lane_core.specs.declared.plan.Plan.{Plan}
use Rattle.lane_core.specs.Plans.{IsAdmissible}
use Rattle.plan_layout.specs.Layout.{tiling_of}
use Rattle.plan_layout.specs.Starts.{is_port, is_passed}
use Rattle.plan_waves.specs.Waves.{GoesOn, loop_entry, tiles_back}
use Rattle.plan_waves.specs.WaysBack.{before_entry, HasWayBack}
use Rattle.plan_waves.proofs.Passing.{answers_none}
use Rattle.plan_waves.proofs.Loops.{ways_back}

-- where a block answers it is left
answered : (lit : Lit) (q l : ℕ) (slot : Slot) (x y : ℕ) → slot_answers lit q l slot x y ≡ true → is_port slot x y ≡ true
answered lit q l slot x y e = or_right _ _ (by (is_left slot x y) refl)
  where
    by : (b : Bool) → is_left slot x y ≡ b → is_left slot x y ≡ true
    by true is = is
    by false is = absurd (true≢false (sym e ∙ answers_none lit q l slot x y is))

-- so an edge that a macro step lights is passed
lit_passed : (tiling : Tiling) (lit : Lit) (edge : Edge) → macro_step tiling lit edge ≡ true → is_passed tiling edge ≡ true
lit_passed tiling lit (Beside zero l) e = or_right (nat_lt 0 0 && is_port (tiling (0 - 1) l) 31 8) _ (answered lit 0 l (tiling 0 l) 0 8 e)
lit_passed tiling lit (Beside (suc q) l) e =
    ⊎_elim
    (λ west. (let before : suc q - 1 ≡ q = omega arith in
    or_left _ _ (and_from (nat_lt 0 (suc q)) (is_port (tiling (suc q - 1) l) 31 8) (lt-ltb 0 (suc q) (omega arith)) (ap (λ n. is_port (tiling n l) 31 8) before ∙ answered lit q l (tiling q l) 31 8 west))))
    (λ east. or_right _ _ (answered lit (suc q) l (tiling (suc q) l) 0 8 east))
    (or_cases _ _ e)
lit_passed tiling lit (Above q zero) e = or_right (nat_lt 0 0 && is_port (tiling q (0 - 1)) 16 15) _ (answered lit q 0 (tiling q 0) 16 0 e)
lit_passed tiling lit (Above q (suc l)) e =
    ⊎_elim
    (λ north. (let above : suc l - 1 ≡ l = omega arith in
    or_left _ _ (and_from (nat_lt 0 (suc l)) (is_port (tiling q (suc l - 1)) 16 15) (lt-ltb 0 (suc l) (omega arith)) (ap (λ n. is_port (tiling q n) 16 15) above ∙ answered lit q l (tiling q l) 16 15 north))))
    (λ south. or_right _ _ (answered lit q (suc l) (tiling q (suc l)) 16 0 south))
    (or_cases _ _ e)

-- where all edges are lit at first, an edge on a way back is lit a macro step later by the tile before it
pub way_passed : (plan : Plan) → IsAdmissible plan → (loop c : ℕ) → loop < plan.latches → c < tiles_back plan → is_passed (tiling_of plan) (before_entry plan loop c) ≡ true
way_passed plan h loop c inside within =
    lit_passed (tiling_of plan) (λ edge. true) (before_entry plan loop c)
    (sym (way.enters edges goes_on 1 c (omega (arith, within)))
    ∙ ap (λ n. edges n (loop_entry plan loop)) later
    ∙ way.enters edges goes_on 0 (suc c) (omega (arith, within)))
  where
    way : HasWayBack plan loop
    way = ways_back plan h loop inside

    edges : ℕ → Lit
    edges = after_steps (tiling_of plan) (λ edge. true)

    goes_on : GoesOn plan edges
    goes_on = record { next = λ m edge free. refl }

    later : 1 + c ≡ 0 + suc c
    later = omega arith
