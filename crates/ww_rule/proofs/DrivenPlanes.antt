-- Driven evolutions: on what they depend.
use Rattle.std.proofs.Common.{ℤ, pos, ◌+ℤ◌, ◌-ℤ◌, ◌≤ℤ◌, ℕ, zero, suc, ◌≡◌, refl, ap, ap₂, ◌∙◌, Bool, cond, arith}
use Rattle.std.proofs.lemmas.Int.{ints}
use Rattle.std.proofs.Math.Path.{fun_ext}
use Rattle.ww_rule.specs.declared.pattern.State.TheVariants.{Head}
use Rattle.ww_rule.specs.Wireworld.{Plane, Due, next_plane, injected, driven}
use Rattle.ww_rule.specs.Laws.{moved, mirrored}
use Rattle.ww_rule.specs.DrivenLaws.{upside_down, due_moved, due_mirrored, due_upside_down, DrivesAnywhere, IsCausal, AgreeDueNear, IsDrivenLocally}
use Rattle.ww_rule.proofs.Moves.{next_plane_moved, next_plane_mirrored, next_plane_upside_down}
use Rattle.ww_rule.proofs.Locality.{next_plane_near, nearer}

-- the same cells made heads in the same plane
injected_same : (due other : ℤ → ℤ → Bool) (p q : Plane) → ((x y : ℤ) → due x y ≡ other x y) → p ≡ q → injected due p ≡ injected other q
injected_same due other p q agree e =
    ap (injected due) e ∙ fun_ext (λ x. fun_ext (λ y. ap (λ b. cond b Head (q x y)) (agree x y)))

pub is_causal : IsCausal
is_causal due other p zero agree = injected_same (due zero) (other zero) p p (λ x y. agree zero x y (omega arith)) refl
is_causal due other p (suc g) agree =
    injected_same (due (suc g)) (other (suc g)) (next_plane (driven due p g)) (next_plane (driven other p g)) (λ x y. agree (suc g) x y (omega arith)) (ap next_plane (is_causal due other p g (λ h x y le. agree h x y (omega arith))))

-- what commutes with the rule and with injections commutes with driven evolutions
pub drives_turned : (turn : Plane → Plane) (turned : Due → Due) → ((p : Plane) → next_plane (turn p) ≡ turn (next_plane p)) → ((due : Due) (g : ℕ) (p : Plane) → injected (turned due g) (turn p) ≡ turn (injected (due g) p)) → (due : Due) (p : Plane) (g : ℕ) → driven (turned due) (turn p) g ≡ turn (driven due p g)
drives_turned turn turned steps injects due p zero = injects due zero p
drives_turned turn turned steps injects due p (suc g) =
    ap (λ q. injected (turned due (suc g)) (next_plane q)) (drives_turned turn turned steps injects due p g)
    ∙ ap (injected (turned due (suc g))) (steps (driven due p g))
    ∙ injects due (suc g) (next_plane (driven due p g))

pub drives_anywhere : DrivesAnywhere
drives_anywhere =
    record {
      moves = λ a b. drives_turned (moved a b) (due_moved a b) (next_plane_moved a b) (λ due g p. refl);
      mirrors = λ a. drives_turned (mirrored a) (due_mirrored a) (next_plane_mirrored a) (λ due g p. refl);
      mirrors_down = λ b. drives_turned (upside_down b) (due_upside_down b) (next_plane_upside_down b) (λ due g p. refl);
    }

nearer_due : (n : ℕ) (due other : Due) (x y x' y' : ℤ) → AgreeDueNear (suc n) due other x y → (x -ℤ pos 1) ≤ℤ x' → x' ≤ℤ (x +ℤ pos 1) → (y -ℤ pos 1) ≤ℤ y' → y' ≤ℤ (y +ℤ pos 1) → AgreeDueNear n due other x' y'
nearer_due n due other x y x' y' agree a b c d g u v le e f h i =
    agree g u v (omega arith) (omega (arith, ints)) (omega (arith, ints)) (omega (arith, ints)) (omega (arith, ints))

pub is_driven_locally : IsDrivenLocally
is_driven_locally zero due other p q x y dues agree =
    ap₂ (λ b s. cond b Head s) (dues zero x y (omega arith) (omega (arith, ints)) (omega (arith, ints)) (omega (arith, ints)) (omega (arith, ints))) (agree x y (omega (arith, ints)) (omega (arith, ints)) (omega (arith, ints)) (omega (arith, ints)))
is_driven_locally (suc n) due other p q x y dues agree =
    ap₂ (λ b s. cond b Head s) (dues (suc n) x y (omega arith) (omega (arith, ints)) (omega (arith, ints)) (omega (arith, ints)) (omega (arith, ints))) (next_plane_near (driven due p n) (driven other q n) x y (λ u v a b c d. is_driven_locally n due other p q u v (nearer_due n due other x y u v dues a b c d) (nearer n p q x y u v agree a b c d)))
