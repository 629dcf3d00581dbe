-- Cells of rows, by words and bits.
use Rattle.std.proofs.Common.{ℤ, pos, negsuc, ◌-ℤ◌, ◌+ℤ◌, ℕ, zero, suc, ◌+◌, ◌*◌, ◌/◌, ◌%◌, ◌^◌, ◌<◌, ◌≡◌, refl, sym, ap, ap₂, ◌∙◌, Bool, true, false, ◌&&◌, ◌||◌, ◌==◌, cond, List, length, get_or, inl, inr, arith}
use Rattle.std.proofs.lemmas.Bool.{cases_lt, true≢false}
use Rattle.std.proofs.lemmas.Int.{ints}
use Rattle.std.proofs.lemmas.List.{get_or_past}
use Rattle.std.proofs.lemmas.Nat.{and_le_l, or_lt, xor_lt}
use Rattle.std.specs.Int.RustNames.{bit_and, bit_xor}
use Rattle.ww_rule.specs.declared.pattern.State.{State}
use Rattle.ww_rule.specs.declared.pattern.State.TheVariants.{Head, Conductor}
use Rattle.ww_rule.specs.Wireworld.{count_head, heads_around, next_plane, next_state}
use Rattle.lane_kernel.specs.Rows.{is_set, state_of, row_state, plane_of_rows, AreDisjoint}
use Rattle.lane_kernel.specs.PlaneRows.{IsEmptyWest, ShowsHeads}
use Rattle.lists.specs.Bits.{has_bit}
use Rattle.lane_kernel.specs.Words.{ones_of, twos_of, from_west, from_east, before, new_heads_of, new_wires_of, heads_word, wires_word}
use Rattle.lane_kernel.proofs.Bits.{differ, odd, most, ones_bit, twos_bit, fires_bit, xor_bit, no_bit, west_bit, east_bit, west_is, east_is, not_last, fire_bit}
use Rattle.lane_kernel.proofs.Counting.{total, counts, count_is, next_is, no_clash, clash}
use Rattle.lists.proofs.WordBits.{or_bit, and_bit}
use Rattle.lists.specs.Items.{one_if}

-- words that fit
abbrev pub Fit : List ℕ → Type 0
Fit words = (j : ℕ) → get_or words j 0 < 2 ^ 64

-- is the bit of a cell set, by an integer?
abbrev pub row_bit : List ℕ → ℤ → Bool
row_bit words (pos x) = is_set words x
row_bit words (negsuc x) = false

before_fits : (words : List ℕ) (j : ℕ) → Fit words → before words j < 2 ^ 64
before_fits words zero h = omega arith
before_fits words (suc j) h = h j

pub ones_fit : (a b c : ℕ) → a < 2 ^ 64 → b < 2 ^ 64 → c < 2 ^ 64 → ones_of a b c < 2 ^ 64
ones_fit a b c p q r = xor_lt 64 (bit_xor a b) c (xor_lt 64 a b p q) r

pub twos_fit : (a b c : ℕ) → a < 2 ^ 64 → b < 2 ^ 64 → c < 2 ^ 64 → twos_of a b c < 2 ^ 64
twos_fit a b c p q r =
    or_lt 64 (bit_and a b) (bit_and (bit_xor a b) c)
    (let e = and_le_l a b in omega (arith, e, p))
    (let e = and_le_l (bit_xor a b) c in let x = xor_lt 64 a b p q in omega (arith, e, x))

pub is_set_at : (words : List ℕ) (x j i : ℕ) → x ≡ j * 64 + i → i < 64 → is_set words x ≡ has_bit (get_or words j 0) i
is_set_at words x j i e h =
    let q : x / 64 ≡ j = omega (arith, e, h) in
    let r : x % 64 ≡ i = omega (arith, e, h) in
    ap₂ (λ a b. has_bit (get_or words a 0) b) q r

-- the bit to the west
west_place : (words : List ℕ) (x j i : ℕ) → x ≡ j * 64 + i → i < 64 → west_bit (before words j) (get_or words j 0) i ≡ row_bit words (pos x -ℤ pos 1)
west_place words x zero zero e h =
    let z : pos x -ℤ pos 1 ≡ negsuc 0 = omega (arith, ints, e) in
    no_bit 63 ∙ sym (ap (row_bit words) z)
west_place words x (suc j) zero e h =
    let z : pos x -ℤ pos 1 ≡ pos (j * 64 + 63) = omega (arith, ints, e) in
    sym (ap (row_bit words) z ∙ is_set_at words (j * 64 + 63) j 63 refl (omega arith))
west_place words x j (suc i) e h =
    let z : pos x -ℤ pos 1 ≡ pos (j * 64 + i) = omega (arith, ints, e) in
    sym (ap (row_bit words) z ∙ is_set_at words (j * 64 + i) j i refl (omega (arith, h)))

-- the bit to the east
east_place : (words : List ℕ) (x j i : ℕ) → x ≡ j * 64 + i → i < 64 → east_bit (get_or words j 0) (get_or words (j + 1) 0) i ≡ row_bit words (pos x +ℤ pos 1)
east_place words x j i e h =
    elim (cases_lt i 63) [
      | inl lt ↦
          let s : x + 1 ≡ j * 64 + (i + 1) = omega (arith, e) in
          ap (λ t. cond t (has_bit (get_or words (j + 1) 0) 0) (has_bit (get_or words j 0) (i + 1))) (not_last i lt)
          ∙ sym (is_set_at words (x + 1) j (i + 1) s (omega (arith, lt)))
      | inr ge ↦
          let l : i ≡ 63 = omega (arith, h, ge) in
          let s : x + 1 ≡ (j + 1) * 64 + 0 = omega (arith, e, l) in
          ap (east_bit (get_or words j 0) (get_or words (j + 1) 0)) l
          ∙ sym (is_set_at words (x + 1) (j + 1) 0 s (omega arith))
    ]

-- a column beside a cell: its three bits
pub west_column : (f : ℕ → ℕ → ℕ → ℕ) (g : Bool → Bool → Bool → Bool) → ((a b c i : ℕ) → has_bit (f a b c) i ≡ g (has_bit a i) (has_bit b i) (has_bit c i)) → (a0 a b0 b h0 h i : ℕ) → f a0 b0 h0 < 2 ^ 64 → i < 64 → has_bit (from_west (f a0 b0 h0) (f a b h)) i ≡ g (west_bit a0 a i) (west_bit b0 b i) (west_bit h0 h i)
west_column f g is a0 a b0 b h0 h zero fit lt = west_is (f a0 b0 h0) (f a b h) 0 fit lt ∙ is a0 b0 h0 63
west_column f g is a0 a b0 b h0 h (suc i) fit lt = west_is (f a0 b0 h0) (f a b h) (suc i) fit lt ∙ is a b h i

pub east_column : (f : ℕ → ℕ → ℕ → ℕ) (g : Bool → Bool → Bool → Bool) → ((a b c i : ℕ) → has_bit (f a b c) i ≡ g (has_bit a i) (has_bit b i) (has_bit c i)) → (a a2 b b2 h h2 i : ℕ) → f a b h < 2 ^ 64 → i < 64 → has_bit (from_east (f a b h) (f a2 b2 h2)) i ≡ g (east_bit a a2 i) (east_bit b b2 i) (east_bit h h2 i)
east_column f g is a a2 b b2 h h2 i fit lt = east_is (f a b h) (f a2 b2 h2) i fit lt ∙ go (i == 63)
  where
    go : (t : Bool) → cond t (has_bit (f a2 b2 h2) 0) (has_bit (f a b h) (i + 1)) ≡ g (cond t (has_bit a2 0) (has_bit a (i + 1))) (cond t (has_bit b2 0) (has_bit b (i + 1))) (cond t (has_bit h2 0) (has_bit h (i + 1)))
    go true = is a2 b2 h2 0
    go false = is a b h (i + 1)

pub same3 : (g : Bool → Bool → Bool → Bool) {a b c a' b' c' : Bool} → a ≡ a' → b ≡ b' → c ≡ c' → g a b c ≡ g a' b' c'
same3 g p q r = ap₂ (λ f c. f c) (ap₂ g p q) r

pub same6 : (g : Bool → Bool → Bool → Bool → Bool → Bool → Bool) {a b c d e f a' b' c' d' e' f' : Bool} → a ≡ a' → b ≡ b' → c ≡ c' → d ≡ d' → e ≡ e' → f ≡ f' → g a b c d e f ≡ g a' b' c' d' e' f'
same6 g p q r s t u = ap₂ (λ f c. f c) (ap₂ (λ f c. f c) (ap₂ (λ f c. f c) (ap₂ (λ f c. f c) (ap₂ g p q) r) s) t) u

-- the heads around a cell of the middle row
module _ (above heads below tails wires : List ℕ) where
  abbrev plane : ℤ → ℤ → State
  plane = plane_of_rows above heads below tails wires

  count_above : (z : ℤ) → count_head (plane z (pos 0)) ≡ one_if (row_bit above z)
  count_above (pos x) = count_is (is_set above x) false false
  count_above (negsuc x) = refl

  count_here : (z : ℤ) → count_head (plane z (pos 1)) ≡ one_if (row_bit heads z)
  count_here (pos x) = count_is (is_set heads x) (is_set tails x) (is_set wires x)
  count_here (negsuc x) = refl

  count_below : (z : ℤ) → count_head (plane z (pos 2)) ≡ one_if (row_bit below z)
  count_below (pos x) = count_is (is_set below x) false false
  count_below (negsuc x) = refl

  abbrev around : ℕ → ℕ
  around x = heads_around plane (pos x) (pos 1)

  abbrev total_at : ℕ → ℕ
  total_at x =
      let w = pos x -ℤ pos 1 in
      let e = pos x +ℤ pos 1 in
      total (row_bit above w) (row_bit above (pos x)) (row_bit above e) (row_bit heads w) (row_bit heads e) (row_bit below w) (row_bit below (pos x)) (row_bit below e)

  around_is : (x : ℕ) → around x ≡ total_at x
  around_is x =
      let w = pos x -ℤ pos 1 in
      let e = pos x +ℤ pos 1 in
      sums (count_above w) (count_above (pos x)) (count_above e) (count_here w) (count_here e) (count_below w) (count_below (pos x)) (count_below e)
    where
      sums : {a b c d e f g h a' b' c' d' e' f' g' h' : ℕ} → a ≡ a' → b ≡ b' → c ≡ c' → d ≡ d' → e ≡ e' → f ≡ f' → g ≡ g' → h ≡ h' → a + b + c + d + e + f + g + h ≡ a' + b' + c' + d' + e' + f' + g' + h'
      sums p1 p2 p3 p4 p5 p6 p7 p8 = omega (arith, p1, p2, p3, p4, p5, p6, p7, p8)

  module _ (fa : Fit above) (fh : Fit heads) (fb : Fit below) where
    abbrev fires_here : ℕ → Bool
    fires_here x = around x == 1 || around x == 2

    head_bit : (x j i : ℕ) → x ≡ j * 64 + i → i < 64 → has_bit (heads_word above heads below wires j) i ≡ (is_set wires x && fires_here x)
    head_bit x j i e lt =
        let a0 = before above j in
        let a = get_or above j 0 in
        let a2 = get_or above (j + 1) 0 in
        let h0 = before heads j in
        let h = get_or heads j 0 in
        let h2 = get_or heads (j + 1) 0 in
        let b0 = before below j in
        let b = get_or below j 0 in
        let b2 = get_or below (j + 1) 0 in
        let west = pos x -ℤ pos 1 in
        let east = pos x +ℤ pos 1 in
        let wa = west_place above x j i e lt in
        let wb = west_place below x j i e lt in
        let wh = west_place heads x j i e lt in
        let ea = east_place above x j i e lt in
        let eb = east_place below x j i e lt in
        let eh = east_place heads x j i e lt in
        let ma = sym (is_set_at above x j i e lt) in
        let mb = sym (is_set_at below x j i e lt) in
        let w1 = west_column ones_of odd ones_bit a0 a b0 b h0 h i (ones_fit a0 b0 h0 (before_fits above j fa) (before_fits below j fb) (before_fits heads j fh)) lt ∙ same3 odd wa wb wh in
        let w2 = west_column twos_of most twos_bit a0 a b0 b h0 h i (twos_fit a0 b0 h0 (before_fits above j fa) (before_fits below j fb) (before_fits heads j fh)) lt ∙ same3 most wa wb wh in
        let e1 = east_column ones_of odd ones_bit a a2 b b2 h h2 i (ones_fit a b h (fa j) (fb j) (fh j)) lt ∙ same3 odd ea eb eh in
        let e2 = east_column twos_of most twos_bit a a2 b b2 h h2 i (twos_fit a b h (fa j) (fb j) (fh j)) lt ∙ same3 most ea eb eh in
        let one = xor_bit a b i ∙ ap₂ differ ma mb in
        let two = and_bit a b i ∙ ap₂ (λ p q. p && q) ma mb in
        let fire = fires_bit (from_west (ones_of a0 b0 h0) (ones_of a b h)) (from_west (twos_of a0 b0 h0) (twos_of a b h)) (bit_xor a b) (bit_and a b) (from_east (ones_of a b h) (ones_of a2 b2 h2)) (from_east (twos_of a b h) (twos_of a2 b2 h2)) i ∙ same6 fire_bit w1 w2 one two e1 e2 in
        let count = counts (row_bit above west) (row_bit above (pos x)) (row_bit above east) (row_bit heads west) (row_bit heads east) (row_bit below west) (row_bit below (pos x)) (row_bit below east) in
        and_bit (get_or wires j 0) _ i
        ∙ ap₂ (λ p q. p && q) (sym (is_set_at wires x j i e lt)) (fire ∙ count ∙ sym (ap (λ n. n == 1 || n == 2) (around_is x)))

    -- rows whose words are the next ones
    module _ (new_heads new_wires : List ℕ) (is_heads : (j : ℕ) → get_or new_heads j 0 ≡ heads_word above heads below wires j) (is_wires : (j : ℕ) → get_or new_wires j 0 ≡ wires_word above heads below tails wires j) where
      pub new_head : (x : ℕ) → is_set new_heads x ≡ (is_set wires x && fires_here x)
      new_head x =
          let e : x ≡ x / 64 * 64 + x % 64 = omega arith in
          ap (λ w. has_bit w (x % 64)) (is_heads (x / 64)) ∙ head_bit x (x / 64) (x % 64) e (omega arith)

      pub new_wire : (x : ℕ) → is_set new_wires x ≡ (differ (is_set wires x) (is_set wires x && fires_here x) || is_set tails x)
      new_wire x =
          let j = x / 64 in
          let i = x % 64 in
          let e : x ≡ j * 64 + i = omega arith in
          let w = get_or wires j 0 in
          let n = heads_word above heads below wires j in
          ap (λ w. has_bit w i) (is_wires j)
          ∙ or_bit (bit_xor w n) (get_or tails j 0) i
          ∙ ap (λ p. p || is_set tails x) (xor_bit w n i ∙ ap (differ (is_set wires x)) (head_bit x j i e (omega arith)))

      pub cells : AreDisjoint heads tails wires → (x : ℕ) → row_state new_heads heads new_wires x ≡ next_plane plane (pos x) (pos 1)
      cells apart x =
          ap₂ (λ p q. state_of p (is_set heads x) q) (new_head x) (new_wire x)
          ∙ next_is (is_set heads x) (is_set tails x) (is_set wires x) (around x) (apart x)

      pub stay_apart : AreDisjoint heads tails wires → AreDisjoint new_heads heads new_wires
      stay_apart apart x =
          ap₂ (λ p q. clash p (is_set heads x) q) (new_head x) (new_wire x)
          ∙ no_clash (is_set heads x) (is_set tails x) (is_set wires x) (fires_here x) (apart x)

-- beyond the rows' ends all words are 0
pub everywhere_heads : (above heads below wires new_heads : List ℕ) → length wires ≡ length heads → length new_heads ≡ length heads → ((j : ℕ) → j < length heads → get_or new_heads j 0 ≡ heads_word above heads below wires j) → (j : ℕ) → get_or new_heads j 0 ≡ heads_word above heads below wires j
everywhere_heads above heads below wires new_heads lw ln h j =
    elim (cases_lt j (length heads)) [
      | inl lt ↦ h j lt
      | inr ge ↦ get_or_past new_heads j 0 (omega (arith, ln, ge)) ∙ sym (ap (new_heads_of (before above j) (get_or above j 0) (get_or above (j + 1) 0) (before heads j) (get_or heads j 0) (get_or heads (j + 1) 0) (before below j) (get_or below j 0) (get_or below (j + 1) 0)) (get_or_past wires j 0 (omega (arith, lw, ge))))
    ]

pub everywhere_wires : (above heads below tails wires new_wires : List ℕ) → length wires ≡ length heads → length tails ≡ length heads → length new_wires ≡ length heads → ((j : ℕ) → j < length heads → get_or new_wires j 0 ≡ wires_word above heads below tails wires j) → (j : ℕ) → get_or new_wires j 0 ≡ wires_word above heads below tails wires j
everywhere_wires above heads below tails wires new_wires lw lt ln h j =
    elim (cases_lt j (length heads)) [
      | inl lt ↦ h j lt
      | inr ge ↦
          get_or_past new_wires j 0 (omega (arith, ln, ge))
          ∙ sym (ap₂ (λ w t. new_wires_of w t (new_heads_of (before above j) (get_or above j 0) (get_or above (j + 1) 0) (before heads j) (get_or heads j 0) (get_or heads (j + 1) 0) (before below j) (get_or below j 0) (get_or below (j + 1) 0) w)) (get_or_past wires j 0 (omega (arith, lw, ge))) (get_or_past tails j 0 (omega (arith, lt, ge))))
    ]

-- a row of words shows the row y of a plane
abbrev pub Shows : List ℕ → List ℕ → List ℕ → (ℤ → ℤ → State) → ℤ → Type 0
Shows heads tails wires p y = (x : ℕ) → row_state heads tails wires x ≡ p (pos x) y

pub heads_of_row : (heads tails wires : List ℕ) (p : ℤ → ℤ → State) (y : ℤ) → Shows heads tails wires p y → ShowsHeads heads p y
heads_of_row heads tails wires p y shows x = count_is (is_set heads x) false false ∙ sym (count_is (is_set heads x) (is_set tails x) (is_set wires x)) ∙ ap count_head (shows x)

heads_at : (heads : List ℕ) (p : ℤ → ℤ → State) (y : ℤ) → IsEmptyWest p → ShowsHeads heads p y → (z : ℤ) → one_if (row_bit heads z) ≡ count_head (p z y)
heads_at heads p y west shows (pos x) = sym (count_is (is_set heads x) false false) ∙ shows x
heads_at heads p y west shows (negsuc x) = sym (ap count_head (west x y))

-- three rows that show a plane: the middle one's next row shows the next plane
pub row_steps : (above heads below tails wires new_heads new_tails new_wires : List ℕ) (p : ℤ → ℤ → State) (y : ℤ) → IsEmptyWest p → ShowsHeads above p (y -ℤ pos 1) → Shows heads tails wires p y → ShowsHeads below p (y +ℤ pos 1) → ((x : ℕ) → row_state new_heads new_tails new_wires x ≡ next_plane (plane_of_rows above heads below tails wires) (pos x) (pos 1)) → Shows new_heads new_tails new_wires (next_plane p) y
row_steps above heads below tails wires new_heads new_tails new_wires p y west sa sh sb cells x =
    let q = plane_of_rows above heads below tails wires in
    let w = pos x -ℤ pos 1 in
    let e = pos x +ℤ pos 1 in
    let up = λ (z : ℤ). count_above above heads below tails wires z ∙ heads_at above p (y -ℤ pos 1) west sa z in
    let here = λ (z : ℤ). count_here above heads below tails wires z ∙ heads_at heads p y west (heads_of_row heads tails wires p y sh) z in
    let down = λ (z : ℤ). count_below above heads below tails wires z ∙ heads_at below p (y +ℤ pos 1) west sb z in
    cells x ∙ ap₂ next_state (sh x) (sums (up w) (up (pos x)) (up e) (here w) (here e) (down w) (down (pos x)) (down e))
  where
    sums : {a b c d e f g h a' b' c' d' e' f' g' h' : ℕ} → a ≡ a' → b ≡ b' → c ≡ c' → d ≡ d' → e ≡ e' → f ≡ f' → g ≡ g' → h ≡ h' → a + b + c + d + e + f + g + h ≡ a' + b' + c' + d' + e' + f' + g' + h'
    sums p1 p2 p3 p4 p5 p6 p7 p8 = omega (arith, p1, p2, p3, p4, p5, p6, p7, p8)

-- a row of heads, tails and cells: the next state of a cell, by the new head
next_by_cells : (h t c : Bool) (n : ℕ) → (t ≡ true → c ≡ true) → state_of (differ c (c && (h || t)) && (n == 1 || n == 2)) h c ≡ next_state (state_of h t c) n
next_by_cells true t true n on = refl
next_by_cells true t false n on = refl
next_by_cells false true true n on = refl
next_by_cells false true false n on = absurd (true≢false (sym (on refl)))
next_by_cells false false true n on = go (n == 1 || n == 2)
  where
    go : (f : Bool) → state_of f false true ≡ cond f Head Conductor
    go true = refl
    go false = refl
next_by_cells false false false n on = refl

-- the words of a row, by the cells that are neither heads nor tails: with the old heads as tails they show the next row
pub cells_next : (above heads below tails cells wires new_heads : List ℕ) → Fit above → Fit heads → Fit below
    → ((j : ℕ) → get_or new_heads j 0 ≡ heads_word above heads below wires j)
    → ((x : ℕ) → is_set wires x ≡ differ (is_set cells x) (is_set cells x && (is_set heads x || is_set tails x)))
    → ((x : ℕ) → is_set tails x ≡ true → is_set cells x ≡ true)
    → (x : ℕ) → row_state new_heads heads cells x ≡ next_plane (plane_of_rows above heads below tails cells) (pos x) (pos 1)
cells_next above heads below tails cells wires new_heads fa fh fb is_heads is_wires on x =
    let h = is_set heads x in
    let t = is_set tails x in
    let c = is_set cells x in
    let n = around above heads below tails wires x in
    let m = around above heads below tails cells x in
    let same : n ≡ m = around_is above heads below tails wires x ∙ sym (around_is above heads below tails cells x) in
    let e : x ≡ x / 64 * 64 + x % 64 = omega arith in
    let head = ap (λ w. has_bit w (x % 64)) (is_heads (x / 64)) ∙ head_bit above heads below tails wires fa fh fb x (x / 64) (x % 64) e (omega arith) in
    ap (λ p. state_of p h c) (head ∙ ap₂ (λ w n. w && (n == 1 || n == 2)) (is_wires x) same)
    ∙ next_by_cells h t c m (on x)
