-- Bits in words, by their places.
use Rattle.std.proofs.Common.{◌≡◌, refl, sym, ◌∙◌, ap, ap₂, ℕ, zero, suc, ◌+◌, ◌*◌, ◌/◌, ◌%◌, ◌<◌, ◌≤◌, ◌==◌, Bool, true, false, ◌||◌, inl, inr, List, [], ◌∷◌, length, map, get_or, arith}
use Rattle.std.specs.Prelude.{replicate}
use Rattle.std.specs.List.{range_with_len}
use Rattle.std.proofs.lemmas.Bool.{cases_lt, ne_eqb}
use Rattle.std.proofs.lemmas.List.{get_or-replicate, get_or_past, length-replicate}
use Rattle.std.proofs.lemmas.List.FromFn.{length-map-range_with_len, get_or-map-range_with_len}
use Rattle.lists.specs.Bits.{has_bit}
use Rattle.lane_kernel.specs.Rows.{is_set}
use Rattle.lane_kernel.proofs.Bits.{no_bit}
use Rattle.vcd_write.specs.Bits.{unpacked}

pub packed_long : (count : ℕ) (words : List ℕ) → length (unpacked count words) ≡ count
packed_long count words = length-map-range_with_len (is_set words) 0 count

pub packed_at : (count : ℕ) (words : List ℕ) (k : ℕ) → k < count → get_or (unpacked count words) k false ≡ is_set words k
packed_at count words k lt = get_or-map-range_with_len (is_set words) 0 count k k false lt (omega arith)

past_packed : (count : ℕ) (words : List ℕ) (k : ℕ) → count ≤ k → get_or (unpacked count words) k false ≡ false
past_packed count words k le = let long = packed_long count words in get_or_past (unpacked count words) k false (omega (arith, long, le))

-- words of 0 have no bit
get_zero : (n i : ℕ) → ◌≡◌ {A = ℕ} (get_or (replicate n 0) i 0) 0
get_zero n i = elim (cases_lt i n) [
  | inl lt ↦ get_or-replicate n i 0 0 lt
  | inr ge ↦ let long = length-replicate {A = ℕ} n 0 in get_or_past (replicate n 0) i 0 (omega (arith, long, ge))
]

no_bits : (words : List ℕ) (n : ℕ) → words ≡ replicate n 0 → (k : ℕ) → is_set words k ≡ false
no_bits words n e k = ap (λ w. has_bit (get_or w (k / 64) 0) (k % 64)) e ∙ ap (λ w. has_bit w (k % 64)) (get_zero n (k / 64)) ∙ no_bit (k % 64)

pub all_none : (f : ℕ → Bool) (a count : ℕ) → ((k : ℕ) → f k ≡ false) → map f (range_with_len a count) ≡ replicate count false
all_none f a zero none = refl
all_none f a (suc count) none = ap₂ (λ b bs. b ∷ bs) (none a) (all_none f (a + 1) count none)

pub packed_zeros : (count n : ℕ) (words : List ℕ) → words ≡ replicate n 0 → unpacked count words ≡ replicate count false
packed_zeros count n words e = all_none (is_set words) 0 count (no_bits words n e)

pub zeros_at : (bits : List Bool) (count : ℕ) → bits ≡ replicate count false → (k : ℕ) → get_or bits k false ≡ false
zeros_at bits count e k = ap (λ bits. get_or bits k false) e ∙ elim (cases_lt k count) [
  | inl lt ↦ get_or-replicate count k false false lt
  | inr ge ↦ let long = length-replicate count false in get_or_past (replicate count false) k false (omega (arith, long, ge))
]

pub zeros_long : (bits : List Bool) (count : ℕ) → bits ≡ replicate count false → length bits ≡ count
zeros_long bits count e = ap length e ∙ length-replicate count false

-- one bit set
pub packed_set : (count : ℕ) (old new : List ℕ) (place : ℕ) → place < count → ((k : ℕ) → is_set new k ≡ (k == place || is_set old k))
    → (k : ℕ) → get_or (unpacked count new) k false ≡ (k == place || get_or (unpacked count old) k false)
packed_set count old new place low bits k = elim (cases_lt k count) [
  | inl lt ↦ packed_at count new k lt ∙ bits k ∙ sym (ap (λ b. k == place || b) (packed_at count old k lt))
  | inr ge ↦ past_packed count new k ge ∙ sym (ap₂ (λ t b. t || b) (ne_eqb k place (λ e. omega (arith, e, low, ge))) (past_packed count old k ge))
]
