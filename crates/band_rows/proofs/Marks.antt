-- Bits of cells, set and cleared.
use Rattle.std.proofs.Common.{ℕ, ◌*◌, ◌/◌, ◌%◌, ◌^◌, ◌<◌, ◌≡◌, sym, ap, ◌∙◌, inl, inr, false, ◌==◌, ◌||◌, List, length, get_or, slice_set, arith}
use Rattle.std.specs.Prelude.{◌≢◌}
use Rattle.std.specs.Int.{w64}
use Rattle.std.specs.Int.RustNames.{bit_or}
use Rattle.std.proofs.lemmas.Bool.{cases_eq, eq-eqb, ne_eqb}
use Rattle.std.proofs.lemmas.Grind.{get_or-set_at}
use Rattle.std.proofs.lemmas.List.{get_or-set_other}
use Rattle.std.proofs.lemmas.Nat.Bits.{bit_at_set_same, bit_at_set_other}
use Rattle.lane_kernel.specs.Rows.{is_set}
use Rattle.lists.specs.Bits.{has_bit}
use Rattle.lane_kernel.proofs.Bits.{no_bit}

same_word : (words : List ℕ) (x k v : ℕ) → x / 64 < length words → k / 64 ≡ x / 64 → is_set (slice_set words (x / 64) v) k ≡ has_bit v (k % 64)
same_word words x k v lt e = ap (λ w. has_bit w (k % 64)) (get_or-set_at words (x / 64) (k / 64) v 0 e lt)

other_word : (words : List ℕ) (x k v : ℕ) → k / 64 ≢ x / 64 → is_set (slice_set words (x / 64) v) k ≡ is_set words k
other_word words x k v ne = ap (λ w. has_bit w (k % 64)) (get_or-set_other words (x / 64) (k / 64) v 0 ne)

pub set_one : (words : List ℕ) (x k : ℕ) → x / 64 < length words → is_set (slice_set words (x / 64) (bit_or (get_or words (x / 64) 0) (1 * 2 ^ (x % 64) % 2 ^ 64))) k ≡ (k == x || is_set words k)
set_one words x k lt =
    let w = get_or words (x / 64) 0 in
    let v = bit_or w (1 * 2 ^ (x % 64) % 2 ^ 64) in
    let within : x % 64 < 64 = omega arith in
    elim (cases_eq (k / 64) (x / 64)) [
      | inr ne ↦ other_word words x k v ne ∙ sym (ap (λ t. t || is_set words k) (ne_eqb k x (λ e. ne (ap (λ n. n / 64) e))))
      | inl e ↦
          elim (cases_eq (k % 64) (x % 64)) [
            | inl s ↦
                let q : k ≡ x = omega (arith, e, s) in
                same_word words x k v lt e ∙ ap (has_bit v) s ∙ ap (λ n. n == 1) (bit_at_set_same w64 w (x % 64) within) ∙ sym (ap (λ t. t || is_set words k) (eq-eqb k x q))
            | inr ne ↦
                same_word words x k v lt e
                ∙ ap (λ n. n == 1) (bit_at_set_other w64 w (x % 64) within (k % 64) ne)
                ∙ ap (λ j. has_bit (get_or words j 0) (k % 64)) (sym e)
                ∙ sym (ap (λ t. t || is_set words k) (ne_eqb k x (λ q. ne (ap (λ n. n % 64) q))))
          ]
    ]

-- a row without a bit
pub none_set : (n : ℕ) (words : List ℕ) → ((j : ℕ) → get_or words j 0 ≡ 0) → (k : ℕ) → is_set words k ≡ false
none_set n words z k = ap (λ w. has_bit w (k % 64)) (z (k / 64)) ∙ no_bit (k % 64)
