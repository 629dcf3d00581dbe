-- Numbers of generations.
use Rattle.std.proofs.Common.{ℕ, zero, suc, ◌+◌, ◌≡◌, refl, ap, ◌∙◌, arith}
use Rattle.ww_rule.specs.Wireworld.{Plane, next_plane, evolve, driven, undriven}

-- what keeps one step keeps every number of steps
pub evolve_keeps : (f : Plane → Plane) → ((p : Plane) → next_plane (f p) ≡ f (next_plane p)) → (n : ℕ) (p : Plane) → evolve n (f p) ≡ f (evolve n p)
evolve_keeps f keeps zero p = refl
evolve_keeps f keeps (suc n) p = ap next_plane (evolve_keeps f keeps n p) ∙ keeps (evolve n p)

-- n generations, and then m more
pub evolve_add : (m n : ℕ) (p : Plane) → evolve (m + n) p ≡ evolve m (evolve n p)
evolve_add zero n p = let e : zero + n ≡ n = omega arith in ap (λ k. evolve k p) e
evolve_add (suc m) n p =
    let e : suc m + n ≡ suc (m + n) = omega arith in
    ap (λ k. evolve k p) e ∙ ap next_plane (evolve_add m n p)

pub undriven_evolves : (p : Plane) (g : ℕ) → driven undriven p g ≡ evolve g p
undriven_evolves p zero = refl
undriven_evolves p (suc g) = ap next_plane (undriven_evolves p g)
