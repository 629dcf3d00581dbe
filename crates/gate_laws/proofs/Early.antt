-- What an output of a part shows in a cycle depends on nothing that is due later.
use Rattle.std.proofs.Common.{ℤ, ℕ, zero, suc, ◌+◌, ◌*◌, ◌/◌, ◌<◌, ◌≤◌, ◌≡◌, refl, sym, ap, ap₂, ◌∙◌, Bool, true, ◌&&◌, ◌||◌, List, [], ◌∷◌, ◌++◌, length, get_or, arith}
use Rattle.std.specs.Prelude.{Contains}
use Rattle.std.specs.Cmp.{both_ways}
use Rattle.std.specs.Ordering.{int_eq}
use Rattle.std.proofs.Math.Nat.{mul-div_cancel}
use Rattle.lists.proofs.Members.{contains_from, in_right}
use Rattle.ww_rule.specs.declared.pattern.State.TheVariants.{Head}
use Rattle.ww_rule.specs.Wireworld.{Plane, driven}
use Rattle.ww_rule.proofs.DrivenPlanes.{is_causal}
use Rattle.gate_laws.specs.Signals.{Signal, cell_state, is_lit, due_of_signals}
use Rattle.gate_laws.specs.Rows.{Port, signal_of, signals_at, PartMeaning, IsPart, row_of_both}
use Rattle.gate_laws.proofs.WireLit.{lit_in, in_lit}
use Rattle.gate_laws.proofs.Rows.{port_signal, no_port, signal_of_port}

-- the first of two rows of bits, and the second
pub both_first : (count : ℕ) (first rest : ℕ → Bool) (i : ℕ) → i < count → row_of_both count first rest i ≡ first i
both_first zero first rest i l = absurd (omega arith)
both_first (suc count) first rest zero l = refl
both_first (suc count) first rest (suc i) l = both_first count (λ j. first (suc j)) rest i (omega arith)

pub both_rest : (count : ℕ) (first rest : ℕ → Bool) (i : ℕ) → row_of_both count first rest (count + i) ≡ rest i
both_rest zero first rest i = let e : 0 + i ≡ i = omega arith in ap rest e
both_rest (suc count) first rest i =
    let e : suc count + i ≡ suc (count + i) = omega arith in
    ap (row_of_both (suc count) first rest) e ∙ both_rest count (λ j. first (suc j)) rest i

-- the signals of ports beside others
pub signals_both : (ports others : List Port) (first rest : ℕ → ℕ → Bool) → signals_at (ports ++ others) (λ t. row_of_both (length ports) (first t) (rest t)) ≡ signals_at ports first ++ signals_at others rest
signals_both [] others first rest = refl
signals_both (port ∷ ports) others first rest =
    ap (λ signals. signal_of port (λ t. first t 0) ∷ signals) (signals_both ports others (λ t i. first t (suc i)) rest)

-- a signal is lit alike if its bits of this generation are the same
pub lit_same : (period : ℕ) (port : Port) (bit other : ℕ → Bool) (h : ℕ) → 0 < period → ((u : ℕ) → h ≡ port.1 + u * period → bit u ≡ other u) → is_lit period (signal_of port bit) h ≡ is_lit period (signal_of port other) h
lit_same period port bit other h some same =
    both_ways _ _ (λ lit. (let c = lit_in period (signal_of port bit) h lit in in_lit period (signal_of port other) h c.0 some c.1 (sym (same c.0 c.1) ∙ c.2))) (λ lit. (let c = lit_in period (signal_of port other) h lit in in_lit period (signal_of port bit) h c.0 some c.1 (same c.0 c.1 ∙ c.2)))

-- ports whose signals are lit alike make the same cells due
pub due_same : (period : ℕ) (ports : List Port) (bits others : ℕ → ℕ → Bool) (h : ℕ) (x y : ℤ) → ((i : ℕ) → i < length ports → is_lit period (port_signal (get_or ports i no_port) bits i) h ≡ is_lit period (port_signal (get_or ports i no_port) others i) h) → due_of_signals period (signals_at ports bits) h x y ≡ due_of_signals period (signals_at ports others) h x y
due_same period [] bits others h x y same = refl
due_same period (port ∷ ports) bits others h x y same =
    ap₂ (λ b c. b && int_eq port.0.0 x && int_eq port.0.1 y || c) (same 0 (omega arith)) (due_same period ports (λ t i. bits t (suc i)) (λ t i. others t (suc i)) h x y (λ i l. same (suc i) (omega arith)))

module _ (period : ℕ) (some : 0 < period) (p : Plane) (ins outs : List Port) (meaning : PartMeaning) (part : IsPart period p ins outs meaning) (i t : ℕ) (l : i < length outs) where
  abbrev time : ℕ
  time = (get_or outs i no_port).1 + t * period

  abbrev shown : (ℕ → ℕ → Bool) → Signal
  shown row = port_signal (get_or outs i no_port) (meaning row) i

  among : (row : ℕ → ℕ → Bool) → Contains (signals_at ins row ++ signals_at outs (meaning row)) (shown row)
  among row = contains_from _ (shown row) (in_right (signals_at ins row) (signals_at outs (meaning row)) (shown row) (signal_of_port outs (meaning row) i l))

  as_shown : (bits others : ℕ → ℕ → Bool) → ((h : ℕ) (x y : ℤ) → h ≤ time → due_of_signals period (signals_at ins bits) h x y ≡ due_of_signals period (signals_at ins others) h x y) → meaning bits t i ≡ true → meaning others t i ≡ true
  as_shown bits others agree bit =
      let head : cell_state (driven (due_of_signals period (signals_at ins bits)) p time) (get_or outs i no_port).0 ≡ Head = ((part bits).shows (shown bits) (among bits) time).1 (in_lit period (shown bits) time t some refl bit) in
      let planes : driven (due_of_signals period (signals_at ins bits)) p time ≡ driven (due_of_signals period (signals_at ins others)) p time = is_causal (due_of_signals period (signals_at ins bits)) (due_of_signals period (signals_at ins others)) p time agree in
      let lit : is_lit period (shown others) time ≡ true = ((part others).shows (shown others) (among others) time).0 (ap (λ q. cell_state q (get_or outs i no_port).0) (sym planes) ∙ head) in
      let c = lit_in period (shown others) time lit in
      let at : (get_or outs i no_port).1 + t * period ≡ (get_or outs i no_port).1 + c.0 * period = c.1 in
      let product : t * period ≡ c.0 * period = omega (arith, at) in
      let cycle : t ≡ c.0 = sym (mul-div_cancel t some) ∙ ap (λ n. n / period) product ∙ mul-div_cancel c.0 some in
      ap (λ u. meaning others u i) cycle ∙ c.2

  pub shown_early : (bits others : ℕ → ℕ → Bool) → ((h : ℕ) (x y : ℤ) → h ≤ (get_or outs i no_port).1 + t * period → due_of_signals period (signals_at ins bits) h x y ≡ due_of_signals period (signals_at ins others) h x y) → meaning bits t i ≡ meaning others t i
  shown_early bits others same =
      both_ways _ _ (as_shown bits others same) (as_shown others bits (λ h x y le. sym (same h x y le)))
