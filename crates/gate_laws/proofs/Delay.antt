-- Wires that are some cycles long.
use Rattle.std.proofs.Common.{ℕ, suc, ◌+◌, ◌-◌, ◌*◌, ◌<◌, ◌≤◌, ◌≡◌, sym, ap, ◌∙◌, inl, inr, true, arith}
use Rattle.std.specs.Cmp.{both_ways}
use Rattle.std.proofs.lemmas.Bool.{cases_lt, true≢false, false_from_ne_true}
use Rattle.gate_laws.specs.Signals.{Signal, is_lit}
use Rattle.gate_laws.specs.Wires.{ComesCyclesLater}
use Rattle.gate_laws.specs.Laws.{WiresDelay}
use Rattle.gate_laws.proofs.WireLit.{lit_in, in_lit}

module _ (period n m : ℕ) (from to : Signal) (some : 0 < period) (h : ComesCyclesLater period n m from to) where
  -- a cycle of the end that is not a start is one of the beginning
  earlier : (g t : ℕ) → n ≤ g → g ≡ to.first + t * period → to.bit t ≡ true → (s : ℕ) × (g ≡ from.first + suc n + s * period) × (from.bit s ≡ true)
  earlier g t late time bit =
      elim (cases_lt t m) [
        | inl start ↦ absurd (true≢false (sym bit ∙ h.starts t start (omega (arith, time, late))))
        | inr ge ↦
            let cycle : m + (t - m) ≡ t = omega arith in
            let whole : to.first + (m + (t - m)) * period ≡ g = ap (λ k. to.first + k * period) cycle ∙ sym time in
            (t - m, omega (arith, whole, h.time), sym (h.bits (t - m)) ∙ ap to.bit cycle ∙ bit)
      ]

  goes : (g : ℕ) → is_lit period to (g + suc n) ≡ true → is_lit period from g ≡ true
  goes g lit =
      let c = lit_in period to (g + suc n) lit in
      let e = earlier (g + suc n) c.0 (omega arith) c.1 c.2 in
      let at : g + suc n ≡ from.first + suc n + e.0 * period = e.1 in
      in_lit period from g e.0 some (omega (arith, at)) e.2

  comes : (g : ℕ) → is_lit period from g ≡ true → is_lit period to (g + suc n) ≡ true
  comes g lit =
      let c = lit_in period from g lit in
      let at : g ≡ from.first + c.0 * period = c.1 in
      in_lit period to (g + suc n) (m + c.0) some (omega (arith, at, h.time)) (h.bits c.0 ∙ c.2)

  none : is_lit period to n ≡ true → ⊥
  none lit =
      let c = lit_in period to n lit in
      let e = earlier n c.0 (omega arith) c.1 c.2 in
      let at : n ≡ from.first + suc n + e.0 * period = e.1 in
      omega arith

pub wires_delay : WiresDelay
wires_delay period n m from to some h =
    record {
      later = λ g. both_ways _ _ (goes period n m from to some h g) (comes period n m from to some h g);
      clear = false_from_ne_true _ (none period n m from to some h);
    }
