-- When a signal is lit.
use Rattle.std.proofs.Common.{ℕ, suc, ◌+◌, ◌-◌, ◌*◌, ◌/◌, ◌%◌, ◌<◌, ◌≤◌, ◌≡◌, ap, ◌∙◌, inl, inr, true, ◌&&◌, ◌==◌, arith}
use Rattle.std.specs.Prelude.{nat_le}
use Rattle.std.proofs.lemmas.Bool.{and_parts, and_from, leb-true, le-leb, eqb-true, eq-eqb, cases_lt}
use Rattle.std.proofs.lemmas.Nat.{div-add-mod'}
use Rattle.std.proofs.Math.Nat.{mul-mod_left, mul-div_cancel, mul-le-mul_right}
use Rattle.gate_laws.specs.Signals.{Signal, is_lit}

-- the cycle in which a signal is lit
pub lit_in : (period : ℕ) (s : Signal) (g : ℕ) → is_lit period s g ≡ true → (t : ℕ) × (g ≡ s.first + t * period) × (s.bit t ≡ true)
lit_in period s g e =
    let parts = and_parts (nat_le s.first g && ((g - s.first) % period == 0)) (s.bit ((g - s.first) / period)) e in
    let times = and_parts (nat_le s.first g) ((g - s.first) % period == 0) parts.0 in
    let begun : s.first ≤ g = leb-true s.first g times.0 in
    let whole : (g - s.first) % period ≡ 0 = eqb-true ((g - s.first) % period) 0 times.1 in
    let split = div-add-mod' (g - s.first) period in
    ((g - s.first) / period, omega (arith, split, whole, begun), parts.1)

pub in_lit : (period : ℕ) (s : Signal) (g t : ℕ) → 0 < period → g ≡ s.first + t * period → s.bit t ≡ true → is_lit period s g ≡ true
in_lit period s g t some time bit =
    let begun : s.first ≤ g = omega (arith, time) in
    let since : g - s.first ≡ t * period = omega (arith, time) in
    let whole : (g - s.first) % period ≡ 0 = ap (λ n. n % period) since ∙ mul-mod_left t period in
    let cycle : (g - s.first) / period ≡ t = ap (λ n. n / period) since ∙ mul-div_cancel t some in
    and_from (nat_le s.first g && ((g - s.first) % period == 0)) (s.bit ((g - s.first) / period)) (and_from (nat_le s.first g) ((g - s.first) % period == 0) (le-leb s.first g begun) (eq-eqb ((g - s.first) % period) 0 whole)) (ap s.bit cycle ∙ bit)

-- a signal is not lit twice within less than a period
pub not_soon : (period : ℕ) (s : Signal) (g d : ℕ) → is_lit period s g ≡ true → is_lit period s (g + d) ≡ true → 0 < d → d < period → ⊥
not_soon period s g d once again some few =
    let a = lit_in period s g once in
    let b = lit_in period s (g + d) again in
    let at_a : g ≡ s.first + a.0 * period = a.1 in
    let at_b : g + d ≡ s.first + b.0 * period = b.1 in
    elim (cases_lt a.0 b.0) [
      | inl lt ↦ let more : suc a.0 * period ≤ b.0 * period = mul-le-mul_right period lt in omega arith
      | inr ge ↦ let less : b.0 * period ≤ a.0 * period = mul-le-mul_right period ge in omega arith
    ]
