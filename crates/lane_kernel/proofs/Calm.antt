-- A word beside whose free cells no head of another word stands.
use Rattle.std.proofs.Common.{ℕ, zero, suc, ◌+◌, ◌*◌, ◌/◌, ◌%◌, ◌^◌, ◌<◌, ◌≡◌, refl, sym, ap, ap₂, ◌∙◌, Bool, true, false, ◌&&◌, ◌||◌, ◌==◌, cond, inl, inr, List, get_or, arith}
use Rattle.std.proofs.lemmas.Bool.{cases_lt, or_parts, true≢false}
use Rattle.std.proofs.lemmas.Nat.{and_le_l, xor_lt}
use Rattle.std.proofs.lemmas.Nat.Bits.{same_from_bits_below, bit_at_lowest, bit_at-lt}
use Rattle.std.specs.Int.{bit_at}
use Rattle.std.specs.Int.Bits.{or_zero_r}
use Rattle.std.specs.Int.RustNames.{bit_and, bit_or, bit_xor}
use Rattle.lists.specs.Bits.{has_bit}
use Rattle.lists.proofs.WordBits.{by_digits, or_bit, and_bit}
use Rattle.lane_kernel.specs.Around.{Way, beside, free_of, wires_of, heads_alone, next_word, StepsAlone}
use Rattle.lane_kernel.specs.Around.Way.{north, south, west, east, north_west, north_east, south_west, south_east}
use Rattle.lane_kernel.specs.Words.{ones_of, twos_of, from_west, from_east, fires, new_heads_of, spread_of}
use Rattle.lane_kernel.proofs.Bits.{differ, odd, most, fire_bit, ones_bit, twos_bit, fires_bit, xor_bit, no_bit, west_bit, east_bit, west_is, east_is, not_last, low_bit, moved_high}
use Rattle.lane_kernel.proofs.Counting.{fires_at}
use Rattle.lane_kernel.proofs.Places.{Fit, ones_fit, twos_fit, west_column, east_column, same6}

-- words of 64 bits are equal if their bits are
one_bit : (x y : ℕ) → x < 2 → y < 2 → (x == 1) ≡ (y == 1) → x ≡ y
one_bit = by_digits (λ x y. (x == 1) ≡ (y == 1) → x ≡ y) (λ e. refl) (λ e. absurd (true≢false (sym e))) (λ e. absurd (true≢false e)) (λ e. refl)

pub same_words : (a b : ℕ) → a < 2 ^ 64 → b < 2 ^ 64 → ((i : ℕ) → i < 64 → has_bit a i ≡ has_bit b i) → a ≡ b
same_words a b fa fb same = same_from_bits_below 64 a b fa fb (λ i lt. one_bit (bit_at a i) (bit_at b i) (bit_at-lt a i) (bit_at-lt b i) (same i lt))

pub wires_fit : (c h t : ℕ) → c < 2 ^ 64 → wires_of c h t < 2 ^ 64
wires_fit c h t fits = xor_lt 64 c (bit_and c (bit_or h t)) fits (let e = and_le_l c (bit_or h t) in omega (arith, e, fits))

wire_is : (c h t i : ℕ) → has_bit (wires_of c h t) i ≡ differ (has_bit c i) (has_bit c i && (has_bit h i || has_bit t i))
wire_is c h t i = xor_bit c (bit_and c (bit_or h t)) i ∙ ap (differ (has_bit c i)) (and_bit c (bit_or h t) i ∙ ap (λ p. has_bit c i && p) (or_bit h t i))

free_is : (c t i : ℕ) → has_bit (bit_xor c (bit_and c t)) i ≡ differ (has_bit c i) (has_bit c i && has_bit t i)
free_is c t i = xor_bit c (bit_and c t) i ∙ ap (differ (has_bit c i)) (and_bit c t i)

wire_free : (c h t : Bool) → differ c (c && (h || t)) ≡ true → differ c (c && t) ≡ true
wire_free true true t e = absurd (true≢false (sym e))
wire_free true false true e = absurd (true≢false (sym e))
wire_free true false false e = refl
wire_free false h t e = absurd (true≢false (sym e))

-- a bit of a mask that meets none of the free cells
clear : (m f i : ℕ) → bit_and m f ≡ 0 → has_bit f i ≡ true → has_bit m i ≡ false
clear m f i none set = go (has_bit m i) refl
  where
    go : (b : Bool) → has_bit m i ≡ b → has_bit m i ≡ false
    go false e = e
    go true e = absurd (true≢false (sym (and_bit m f i ∙ ap₂ (λ p q. p && q) e set) ∙ ap (λ n. has_bit n i) none ∙ no_bit i))

-- the bit to the west and to the east, where none comes from another word
west_same : (a0 a i : ℕ) → has_bit (a0 / 2 ^ 63) i ≡ false → west_bit a0 a i ≡ west_bit 0 a i
west_same a0 a zero e = sym (ap (λ n. n == 1) (bit_at_lowest (a0 / 2 ^ 63))) ∙ e ∙ sym (no_bit 63)
west_same a0 a (suc i) e = refl

east_same : (a a2 i : ℕ) → i < 64 → has_bit (a2 * 2 ^ 63 % 2 ^ 64) i ≡ false → east_bit a a2 i ≡ east_bit a 0 i
east_same a a2 i lt e =
    elim (cases_lt i 63) [
      | inl less ↦ ap (λ t. cond t (has_bit a2 0) (has_bit a (i + 1))) (not_last i less) ∙ sym (ap (λ t. cond t (has_bit 0 0) (has_bit a (i + 1))) (not_last i less))
      | inr ge ↦ last i (omega (arith, lt, ge)) e
    ]
  where
    last : (i : ℕ) → i ≡ 63 → has_bit (a2 * 2 ^ 63 % 2 ^ 64) i ≡ false → east_bit a a2 i ≡ east_bit a 0 i
    last i e none =
        ap (east_bit a a2) e
        ∙ sym (ap (λ n. n == 1) (low_bit (a2 * 2 ^ 63) 63 (omega arith) ∙ moved_high a2 63 63 (omega arith) (omega arith)))
        ∙ sym (ap (has_bit (a2 * 2 ^ 63 % 2 ^ 64)) e)
        ∙ none
        ∙ sym (no_bit 0)
        ∙ sym (ap (east_bit a 0) e)

-- a word spread over its own cells
pub spread_is : (a i : ℕ) → a < 2 ^ 64 → i < 64 → has_bit (spread_of 0 a 0) i ≡ ((has_bit a i || west_bit 0 a i) || east_bit a 0 i)
spread_is a i fits lt =
    or_bit (bit_or a (from_west 0 a)) (from_east a 0) i
    ∙ ap₂ (λ p q. p || q) (or_bit a (from_west 0 a) i ∙ ap (λ p. has_bit a i || p) (west_is 0 a i (omega arith) lt)) (east_is a 0 i fits lt)

two_heads : (w e : Bool) → fires_at false false false w e false false false ≡ (w || e)
two_heads true true = refl
two_heads true false = refl
two_heads false true = refl
two_heads false false = refl

alone_bit : (h i : ℕ) → h < 2 ^ 64 → i < 64 → has_bit (bit_or (h * 2 ^ 1 % 2 ^ 64) (h / 2 ^ 1)) i ≡ (west_bit 0 h i || east_bit h 0 i)
alone_bit h i fits lt =
    or_bit (h * 2 ^ 1 % 2 ^ 64) (h / 2 ^ 1) i
    ∙ ap₂ (λ p q. p || q)
    (sym (ap (λ n. has_bit n i) (or_zero_r (h * 2 ^ 1 % 2 ^ 64))) ∙ west_is 0 h i (omega arith) lt)
    (sym (ap (λ n. has_bit n i) (or_zero_r (h / 2 ^ 1))) ∙ east_is h 0 i fits lt)

-- nine words
pub record AreWords (a0 a a2 h0 h h2 b0 b b2 : ℕ) : Type 0 where
  pub nw : a0 < 2 ^ 64
  pub n : a < 2 ^ 64
  pub ne : a2 < 2 ^ 64
  pub w : h0 < 2 ^ 64
  pub here : h < 2 ^ 64
  pub e : h2 < 2 ^ 64
  pub sw : b0 < 2 ^ 64
  pub s : b < 2 ^ 64
  pub se : b2 < 2 ^ 64

fires_around : (a0 a a2 h0 h h2 b0 b b2 i : ℕ) → AreWords a0 a a2 h0 h h2 b0 b b2 → i < 64 → (wires : ℕ)
    → has_bit (new_heads_of a0 a a2 h0 h h2 b0 b b2 wires) i
    ≡ (has_bit wires i && fires_at (west_bit a0 a i) (has_bit a i) (east_bit a a2 i) (west_bit h0 h i) (east_bit h h2 i) (west_bit b0 b i) (has_bit b i) (east_bit b b2 i))
fires_around a0 a a2 h0 h h2 b0 b b2 i f lt wires =
    let w1 = west_column ones_of odd ones_bit a0 a b0 b h0 h i (ones_fit a0 b0 h0 f.nw f.sw f.w) lt in
    let w2 = west_column twos_of most twos_bit a0 a b0 b h0 h i (twos_fit a0 b0 h0 f.nw f.sw f.w) lt in
    let e1 = east_column ones_of odd ones_bit a a2 b b2 h h2 i (ones_fit a b h f.n f.s f.here) lt in
    let e2 = east_column twos_of most twos_bit a a2 b b2 h h2 i (twos_fit a b h f.n f.s f.here) lt in
    and_bit wires _ i
    ∙ ap (λ q. has_bit wires i && q)
    (fires_bit (from_west (ones_of a0 b0 h0) (ones_of a b h)) (from_west (twos_of a0 b0 h0) (twos_of a b h)) (bit_xor a b) (bit_and a b) (from_east (ones_of a b h) (ones_of a2 b2 h2)) (from_east (twos_of a b h) (twos_of a2 b2 h2)) i
    ∙ same6 fire_bit w1 w2 (xor_bit a b i) (and_bit a b i) e1 e2)

same8 : {a b c d e f g h a' b' c' d' e' f' g' h' : Bool} → a ≡ a' → b ≡ b' → c ≡ c' → d ≡ d' → e ≡ e' → f ≡ f' → g ≡ g' → h ≡ h' → fires_at a b c d e f g h ≡ fires_at a' b' c' d' e' f' g' h'
same8 p q r s t u v w = ap₂ (λ f c. f c) (ap₂ (λ f c. f c) (ap₂ (λ f c. f c) (ap₂ (λ f c. f c) (ap₂ (λ f c. f c) (ap₂ (λ f c. f c) (ap₂ fires_at p q) r) s) t) u) v) w

module _ (a0 a a2 h0 h h2 b0 b b2 c t : ℕ) (f : AreWords a0 a a2 h0 h h2 b0 b b2) (fits : c < 2 ^ 64)
    (na : bit_and (spread_of 0 a 0) (free_of c t) ≡ 0) (nb : bit_and (spread_of 0 b 0) (free_of c t) ≡ 0)
    (wa : bit_and (a0 / 2 ^ 63) (free_of c t) ≡ 0) (wh : bit_and (h0 / 2 ^ 63) (free_of c t) ≡ 0) (wb : bit_and (b0 / 2 ^ 63) (free_of c t) ≡ 0)
    (ea : bit_and (a2 * 2 ^ 63 % 2 ^ 64) (free_of c t) ≡ 0) (eh : bit_and (h2 * 2 ^ 63 % 2 ^ 64) (free_of c t) ≡ 0) (eb : bit_and (b2 * 2 ^ 63 % 2 ^ 64) (free_of c t) ≡ 0) where
  fires_alone : (i : ℕ) → i < 64 → has_bit (wires_of c h t) i ≡ true
      → fires_at (west_bit a0 a i) (has_bit a i) (east_bit a a2 i) (west_bit h0 h i) (east_bit h h2 i) (west_bit b0 b i) (has_bit b i) (east_bit b b2 i)
      ≡ (west_bit 0 h i || east_bit h 0 i)
  fires_alone i lt wire =
      let free : has_bit (free_of c t) i ≡ true = free_is c t i ∙ wire_free (has_bit c i) (has_bit h i) (has_bit t i) (sym (wire_is c h t i) ∙ wire) in
      let n = or_parts (has_bit a i || west_bit 0 a i) (east_bit a 0 i) (sym (spread_is a i f.n lt) ∙ clear (spread_of 0 a 0) (free_of c t) i na free) in
      let n2 = or_parts (has_bit a i) (west_bit 0 a i) n.0 in
      let s = or_parts (has_bit b i || west_bit 0 b i) (east_bit b 0 i) (sym (spread_is b i f.s lt) ∙ clear (spread_of 0 b 0) (free_of c t) i nb free) in
      let s2 = or_parts (has_bit b i) (west_bit 0 b i) s.0 in
      let cl = λ (m : ℕ) (none : bit_and m (free_of c t) ≡ 0). clear m (free_of c t) i none free in
      same8
      (west_same a0 a i (cl (a0 / 2 ^ 63) wa) ∙ n2.1) n2.0 (east_same a a2 i lt (cl (a2 * 2 ^ 63 % 2 ^ 64) ea) ∙ n.1)
      (west_same h0 h i (cl (h0 / 2 ^ 63) wh)) (east_same h h2 i lt (cl (h2 * 2 ^ 63 % 2 ^ 64) eh))
      (west_same b0 b i (cl (b0 / 2 ^ 63) wb) ∙ s2.1) s2.0 (east_same b b2 i lt (cl (b2 * 2 ^ 63 % 2 ^ 64) eb) ∙ s.1)
      ∙ two_heads (west_bit 0 h i) (east_bit h 0 i)

  bits_alone : (i : ℕ) → i < 64 → has_bit (new_heads_of a0 a a2 h0 h h2 b0 b b2 (wires_of c h t)) i ≡ has_bit (heads_alone h (wires_of c h t)) i
  bits_alone i lt =
      fires_around a0 a a2 h0 h h2 b0 b b2 i f lt (wires_of c h t)
      ∙ go (has_bit (wires_of c h t) i) refl
      ∙ sym (and_bit (wires_of c h t) (bit_or (h * 2 ^ 1 % 2 ^ 64) (h / 2 ^ 1)) i ∙ ap (λ p. has_bit (wires_of c h t) i && p) (alone_bit h i f.here lt))
    where
      go : (v : Bool) → has_bit (wires_of c h t) i ≡ v
          → (has_bit (wires_of c h t) i && fires_at (west_bit a0 a i) (has_bit a i) (east_bit a a2 i) (west_bit h0 h i) (east_bit h h2 i) (west_bit b0 b i) (has_bit b i) (east_bit b b2 i))
          ≡ (has_bit (wires_of c h t) i && (west_bit 0 h i || east_bit h 0 i))
      go true e = ap (λ p. has_bit (wires_of c h t) i && p) (fires_alone i lt e)
      go false e = ap (λ p. p && fires_at (west_bit a0 a i) (has_bit a i) (east_bit a a2 i) (west_bit h0 h i) (east_bit h h2 i) (west_bit b0 b i) (has_bit b i) (east_bit b b2 i)) e ∙ sym (ap (λ p. p && (west_bit 0 h i || east_bit h 0 i)) e)

  pub heads_are : new_heads_of a0 a a2 h0 h h2 b0 b b2 (wires_of c h t) ≡ heads_alone h (wires_of c h t)
  heads_are =
      let w = wires_fit c h t fits in
      same_words _ _ (let e = and_le_l (wires_of c h t) (fires (from_west (ones_of a0 b0 h0) (ones_of a b h)) (from_west (twos_of a0 b0 h0) (twos_of a b h)) (bit_xor a b) (bit_and a b) (from_east (ones_of a b h) (ones_of a2 b2 h2)) (from_east (twos_of a b h) (twos_of a2 b2 h2))) in omega (arith, e, w))
      (let e = and_le_l (wires_of c h t) (bit_or (h * 2 ^ 1 % 2 ^ 64) (h / 2 ^ 1)) in omega (arith, e, w)) bits_alone

-- the next word of a calm word is its own doing
pub alone : (stride : ℕ) (heads tails cells : List ℕ) (i : ℕ) → Fit heads → Fit cells → StepsAlone stride heads tails cells i
    → next_word stride heads tails cells i ≡ heads_alone (get_or heads i 0) (wires_of (get_or cells i 0) (get_or heads i 0) (get_or tails i 0))
alone stride heads tails cells i fh fc calm =
    let at = λ (way : Way). get_or heads (beside stride way i) 0 in
    let fits : AreWords (at north_west) (at north) (at north_east) (at west) (get_or heads i 0) (at east) (at south_west) (at south) (at south_east) = record { nw = fh (beside stride north_west i); n = fh (beside stride north i); ne = fh (beside stride north_east i); w = fh (beside stride west i); here = fh i; e = fh (beside stride east i); sw = fh (beside stride south_west i); s = fh (beside stride south i); se = fh (beside stride south_east i) } in
    heads_are (at north_west) (at north) (at north_east) (at west) (get_or heads i 0) (at east) (at south_west) (at south) (at south_east) (get_or cells i 0) (get_or tails i 0) fits (fc i)
    (calm north) (calm south) (calm north_west) (calm west) (calm south_west) (calm north_east) (calm east) (calm south_east)

-- a word's next heads ask for no other word's tails
pub same_next : (stride : ℕ) (heads t t' cells : List ℕ) (i : ℕ) → get_or t i 0 ≡ get_or t' i 0 → next_word stride heads t cells i ≡ next_word stride heads t' cells i
same_next stride heads t t' cells i e =
    let at = λ (way : Way). get_or heads (beside stride way i) 0 in
    ap (λ w. new_heads_of (at north_west) (at north) (at north_east) (at west) (get_or heads i 0) (at east) (at south_west) (at south) (at south_east) (wires_of (get_or cells i 0) (get_or heads i 0) w)) e
