-- Homes of inputs, then of loops, then of the dark lane.
use Rattle.std.proofs.Common.{◌≡◌, ◌≢◌, refl, sym, ◌∙◌, ap, ap₂, ℕ, ◌+◌, ◌-◌, ◌<◌, ◌≤◌, ⊎_elim, Bool, true, false, cond, List, [], ◌∷◌, ◌++◌, length, get_or, map, take, drop, arith}
use Rattle.std.specs.Prelude.{All, AllPairs}
use Rattle.std.specs.List.{range_with_len}
use Rattle.std.proofs.lemmas.Bool.{cases_lt}
use Rattle.std.proofs.lemmas.List.{length-append, length-take-le, length-drop, get_or_append_left, get_or-append-add, get_or-take, get_or-drop}
use Rattle.std.proofs.lemmas.List.FromFn.{length-map-range_with_len, get_or-map-range_with_len}
use Rattle.lists.proofs.Numbers.{at_most_one, length_if}
use Rattle.lane_core.specs.Places.{AreDistinctBelow}
use Rattle.lane_homes.specs.Homes.{AreHomesAbove}

module _ (above inputs loops : ℕ) (is_dark : Bool) (upper homes : List ℕ) (long : length upper ≡ inputs + cond is_dark 1 0) (apart : AreDistinctBelow above upper)
    (is : homes ≡ (take inputs upper ++ map (λ i. above + i) (range_with_len 0 loops)) ++ drop inputs upper) where
  abbrev row : List ℕ
  row = map (λ i. above + i) (range_with_len 0 loops)

  front : length (take inputs upper) ≡ inputs
  front = length-take-le inputs upper (omega (arith, long))

  wide : length row ≡ loops
  wide = length-map-range_with_len (λ i. above + i) 0 loops

  both : length (take inputs upper ++ row) ≡ inputs + loops
  both = length-append (take inputs upper) row ∙ ap₂ (λ a b. a + b) front wide

  all : length homes ≡ inputs + loops + cond is_dark 1 0
  all = let l = length-append (take inputs upper ++ row) (drop inputs upper) in let d = length-drop inputs upper in omega (arith, ap length is, l, both, d, long)

  at_input : (i d : ℕ) → i < inputs → get_or homes i d ≡ get_or upper i d
  at_input i d low =
      ap (λ hs. get_or hs i d) is ∙ get_or_append_left (take inputs upper ++ row) (drop inputs upper) d i (omega (arith, low, both))
      ∙ get_or_append_left (take inputs upper) row d i (omega (arith, low, front)) ∙ get_or-take inputs upper i d low

  at_loop : (s d : ℕ) → s < loops → get_or homes (inputs + s) d ≡ above + s
  at_loop s d low =
      ap (λ hs. get_or hs (inputs + s) d) is ∙ get_or_append_left (take inputs upper ++ row) (drop inputs upper) d (inputs + s) (omega (arith, low, both))
      ∙ ap (λ n. get_or (take inputs upper ++ row) (n + s) d) (sym front) ∙ get_or-append-add (take inputs upper) row s d
      ∙ get_or-map-range_with_len (λ i. above + i) 0 loops s s d low (omega arith)

  at_dark : (d : ℕ) → get_or homes (inputs + loops) d ≡ get_or upper inputs d
  at_dark d =
      ap (λ hs. get_or hs (inputs + loops) d) is
      ∙ (let n : inputs + loops ≡ length (take inputs upper ++ row) + 0 = omega (arith, both) in ap (λ n. get_or ((take inputs upper ++ row) ++ drop inputs upper) n d) n)
      ∙ get_or-append-add (take inputs upper ++ row) (drop inputs upper) 0 d ∙ get_or-drop inputs upper 0 d
      ∙ (let z : inputs + 0 ≡ inputs = omega arith in ap (λ n. get_or upper n d) z)

  -- an upper home is above the loops
  upper_low : (i d : ℕ) → i < length upper → get_or upper i d < above
  upper_low i d low = apart.below i d low

  -- a home among the loops, by its place
  loop_home : (j d : ℕ) → inputs ≤ j → j < inputs + loops → get_or homes j d ≡ above + (j - inputs)
  loop_home j d past low =
      let at : j ≡ inputs + (j - inputs) = omega (arith, past) in
      ap (λ n. get_or homes n d) at ∙ at_loop (j - inputs) d (omega (arith, past, low))

  -- a home past the loops is the dark one
  dark_home : (j d : ℕ) → inputs + loops ≤ j → j < length homes → (get_or homes j d ≡ get_or upper inputs d) × (inputs < length upper)
  dark_home j d past low =
      let one = at_most_one is_dark in
      let same : j ≡ inputs + loops = omega (arith, past, low, all, one) in
      (ap (λ n. get_or homes n d) same ∙ at_dark d, omega (arith, past, low, all, long))

  homes_apart : AllPairs (λ a b. a ≢ b) homes
  homes_apart i j d lt below =
      ⊎_elim
      (λ low. (λ e. apart.distinct i j d lt (omega (arith, low, long)) (sym (at_input i d (omega (arith, lt, low))) ∙ e ∙ at_input j d low)))
      (λ past. ⊎_elim
      (λ low. ⊎_elim
      (λ first. (λ e. (let a = at_input i d first in let u = upper_low i d (omega (arith, first, long)) in let b = loop_home j d past low in omega (arith, a, u, b, e))))
      (λ later. (λ e. (let a = loop_home i d later (omega (arith, lt, low)) in let b = loop_home j d past low in omega (arith, a, b, e, lt, later))))
      (cases_lt i inputs))
      (λ last. (let dark = dark_home j d last below in ⊎_elim
      (λ first. (λ e. apart.distinct i inputs d first dark.1 (sym (at_input i d first) ∙ e ∙ dark.0)))
      (λ later. (λ e. (let a = loop_home i d later (omega (arith, lt, last, below, all, at_most_one is_dark)) in let u = upper_low inputs d dark.1 in omega (arith, a, u, dark.0, e))))
      (cases_lt i inputs)))
      (cases_lt j (inputs + loops)))
      (cases_lt j inputs)

  pub homes_above : AreHomesAbove above inputs loops is_dark homes
  homes_above = record {
    long = all;
    apart = homes_apart;
    ins = λ i low. (let a = at_input i 0 low in let u = upper_low i 0 (omega (arith, low, long)) in omega (arith, a, u));
    side_by_side = λ s low. at_loop s 0 low;
    dark = λ e. (let one : cond {A = ℕ} is_dark 1 0 ≡ 1 = ap (λ b. cond {A = ℕ} b 1 0) e in let u = upper_low inputs 0 (omega (arith, long, one)) in let a = at_dark 0 in omega (arith, a, u));
  }

-- lanes side by side, and lane 0 above them
pub own_apart : (above inputs : ℕ) (is_dark : Bool) (lanes : List ℕ) → inputs + cond is_dark 1 0 ≤ above
    → lanes ≡ map (λ i. above - inputs + i) (range_with_len 0 inputs) ++ cond is_dark (0 ∷ []) [] → (length lanes ≡ inputs + cond is_dark 1 0) × AreDistinctBelow above lanes
own_apart above inputs is_dark lanes room is = (
  all,
  record {
    below = λ i d low. ⊎_elim (λ first. (let a = at i d first in omega (arith, a, first, room))) (λ past. (let z = last i d past low in omega (arith, z.0, z.1, room))) (cases_lt i inputs);
    distinct = λ i j d lt low e. ⊎_elim
        (λ first. (let a = at i d (omega (arith, lt, first)) in let b = at j d first in omega (arith, a, b, e, lt)))
        (λ past. (let z = last j d past low in let a = at i d (omega (arith, lt, z.2)) in omega (arith, a, z.0, z.1, room, e)))
        (cases_lt j inputs);
  },
)
  where
    row : List ℕ
    row = map (λ i. above - inputs + i) (range_with_len 0 inputs)

    wide : length row ≡ inputs
    wide = length-map-range_with_len (λ i. above - inputs + i) 0 inputs

    all : length lanes ≡ inputs + cond is_dark 1 0
    all = ap length is ∙ length-append row (cond is_dark (0 ∷ []) []) ∙ ap₂ (λ a b. a + b) wide (length_if is_dark 0)

    at : (i d : ℕ) → i < inputs → get_or lanes i d ≡ above - inputs + i
    at i d low = ap (λ l. get_or l i d) is ∙ get_or_append_left row (cond is_dark (0 ∷ []) []) d i (omega (arith, low, wide)) ∙ get_or-map-range_with_len (λ i. above - inputs + i) 0 inputs i i d low (omega arith)

    zero_at : (b : Bool) (d : ℕ) → cond {A = ℕ} b 1 0 ≡ 1 → get_or (row ++ cond b (0 ∷ []) []) inputs d ≡ 0
    zero_at true d e = (let n : inputs ≡ length row + 0 = omega (arith, wide) in ap (λ n. get_or (row ++ 0 ∷ []) n d) n) ∙ get_or-append-add row (0 ∷ []) 0 d
    zero_at false d e = absurd (omega (arith, e))

    last : (j d : ℕ) → inputs ≤ j → j < length lanes → (get_or lanes j d ≡ 0) × (cond {A = ℕ} is_dark 1 0 ≡ 1) × (j ≡ inputs)
    last j d past low =
        let one = at_most_one is_dark in
        let same : j ≡ inputs = omega (arith, past, low, all, one) in
        let dark : cond {A = ℕ} is_dark 1 0 ≡ 1 = omega (arith, past, low, all, one) in
        (ap (λ l. get_or l j d) is ∙ ap (λ k. get_or (row ++ cond is_dark (0 ∷ []) []) k d) same ∙ zero_at is_dark d dark, dark, same)
