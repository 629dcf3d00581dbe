use Rattle.std.proofs.Common.{ℕ, ◌≡◌, ◌+◌, ◌-◌, ap, ap₂, ◌∙◌, get_or, arith}
use Rattle.std.specs.Int.RustNames.{bit_and, bit_xor}
use Rattle.lane_kernel.specs.Around.{wires_of}
use Rattle.lane_kernel.specs.Words.{from_west, from_east, ones_of, twos_of, fires}
use Rattle.lane_kernel.proofs.lanes.next_lanes.Goals as goal

of3 : (f : ℕ → ℕ → ℕ → ℕ) {a b c a' b' c' : ℕ} → a ≡ a' → b ≡ b' → c ≡ c' → f a b c ≡ f a' b' c'
of3 f p q r = ap₂ (λ g c. g c) (ap₂ f p q) r

of6 : (f : ℕ → ℕ → ℕ → ℕ → ℕ → ℕ → ℕ) {a b c d e g a' b' c' d' e' g' : ℕ} → a ≡ a' → b ≡ b' → c ≡ c' → d ≡ d' → e ≡ e' → g ≡ g' → f a b c d e g ≡ f a' b' c' d' e' g'
of6 f p q r s t u = ap₂ (λ h c. h c) (ap₂ (λ h c. h c) (ap₂ (λ h c. h c) (ap₂ (λ h c. h c) (ap₂ f p q) r) s) t) u

pub returns : goal.returns
returns c =
    record {
      long = c.and_lanes.ensures.long;
      each = λ k lt.
          let j = c.args.j in
          let s = c.args.stride in
          let from = c.requires.from in
          let at = λ (i i' : ℕ) (e : i ≡ i'). ap (λ n. get_or c.args.heads.now n 0) e in
          let a0 = c.lanes_across-a.ensures.before.each k lt ∙ at (j - 1 - s + k) (j + k - 1 - s) (omega (arith, from)) in
          let a = c.lanes_across-a.ensures.here.each k lt ∙ at (j - 1 + k) (j + k - 1) (omega (arith, from)) in
          let a2 = c.lanes_across-a.ensures.after.each k lt ∙ at (j - 1 + s + k) (j + k - 1 + s) (omega (arith, from)) in
          let h0 = c.lanes_across-h.ensures.before.each k lt ∙ at (j - s + k) (j + k - s) (omega (arith, from)) in
          let h = c.lanes_across-h.ensures.here.each k lt in
          let h2 = c.lanes_across-h.ensures.after.each k lt ∙ at (j + s + k) (j + k + s) (omega arith) in
          let b0 = c.lanes_across-b.ensures.before.each k lt ∙ at (j + 1 - s + k) (j + k + 1 - s) (omega (arith, from)) in
          let b = c.lanes_across-b.ensures.here.each k lt ∙ at (j + 1 + k) (j + k + 1) (omega arith) in
          let b2 = c.lanes_across-b.ensures.after.each k lt ∙ at (j + 1 + s + k) (j + k + 1 + s) (omega arith) in
          let one = c.ones_lanes-one.ensures.each k lt ∙ of3 ones_of a b h in
          let two = c.twos_lanes-two.ensures.each k lt ∙ of3 twos_of a b h in
          let w1 = c.west_lanes-west1.ensures.each k lt ∙ ap₂ from_west (c.ones_lanes.ensures.each k lt ∙ of3 ones_of a0 b0 h0) one in
          let w2 = c.west_lanes-west2.ensures.each k lt ∙ ap₂ from_west (c.twos_lanes.ensures.each k lt ∙ of3 twos_of a0 b0 h0) two in
          let e1 = c.east_lanes-east1.ensures.each k lt ∙ ap₂ from_east one (c.ones_lanes-2.ensures.each k lt ∙ of3 ones_of a2 b2 h2) in
          let e2 = c.east_lanes-east2.ensures.each k lt ∙ ap₂ from_east two (c.twos_lanes-2.ensures.each k lt ∙ of3 twos_of a2 b2 h2) in
          let wires = c.wires_lanes.ensures.each k lt ∙ of3 wires_of (c.lanes_at.ensures.each k lt) h (c.lanes_at-2.ensures.each k lt) in
          c.and_lanes.ensures.each k lt
          ∙ ap₂ bit_and wires (c.fires_lanes.ensures.each k lt ∙ of6 fires w1 w2 (c.xor_lanes-odd.ensures.each k lt ∙ ap₂ bit_xor a b) (c.and_lanes-both.ensures.each k lt ∙ ap₂ bit_and a b) e1 e2);
    }
