-- The heads around a cell, if one more cell beside it may be a head.
use Rattle.std.proofs.Common.{ℤ, pos, ◌+ℤ◌, ◌-ℤ◌, ◌≤ℤ◌, ℕ, ◌+◌, ◌≡◌, sym, ap, ◌∙◌, inl, inr, Bool, true, false, ◌&&◌, cond, int_eq, arith}
use Rattle.std.specs.Prelude.{◌≢◌}
use Rattle.std.specs.Int.Signed.{≤ℤ_refl}
use Rattle.std.proofs.lemmas.Int.{ints}
use Rattle.std.proofs.lemmas.Bool.{and_parts, cases_Bool, true≢false}
use Rattle.std.proofs.lemmas.Bool.Decides.{Decides-int_eq}
use Rattle.ww_rule.specs.Wireworld.{Plane, heads_around, count_head}
use Rattle.ww_rule.proofs.Cells.{sum_same, across, from_one_less, to_one_more}
use Rattle.ww_rule.proofs.Integers.{other_int}
use Rattle.gate_laws.specs.Signals.{cell_state}
use Rattle.gate_laws.specs.Wires.{IsNear}
use Rattle.gate_laws.proofs.Dues.{same_cell}

pub near_itself : (c : ℤ × ℤ) → IsNear c c
near_itself c = record { west = from_one_less c.0; east = to_one_more c.0; north = from_one_less c.1; south = to_one_more c.1 }

pub near_back : (c d : ℤ × ℤ) → IsNear c d → IsNear d c
near_back c d near =
    record {
      west = omega (arith, ints, near.west, near.east);
      east = omega (arith, ints, near.west, near.east);
      north = omega (arith, ints, near.north, near.south);
      south = omega (arith, ints, near.north, near.south);
    }

-- a number that is one below another, the same, or one above
pub data Side : Type 0 where
  Below : Side
  At : Side
  Above : Side

abbrev is_below : Side → Bool
is_below Below = true
is_below At = false
is_below Above = false

abbrev is_at : Side → Bool
is_at Below = false
is_at At = true
is_at Above = false

abbrev is_above : Side → Bool
is_above Below = false
is_above At = false
is_above Above = true

record SideOf (x c : ℤ) : Type 0 where
  side : Side
  last : int_eq (x -ℤ pos 1) c ≡ is_below side
  same : int_eq x c ≡ is_at side
  next : int_eq (x +ℤ pos 1) c ≡ is_above side

side_of : (x c : ℤ) → (x -ℤ pos 1) ≤ℤ c → c ≤ℤ (x +ℤ pos 1) → SideOf x c
side_of x c low high =
    elim (cases_Bool (int_eq (x -ℤ pos 1) c)) [
      | inl t ↦ let e : x -ℤ pos 1 ≡ c = (Decides-int_eq (x -ℤ pos 1) c).0 t in record { side = Below; last = t; same = other_int x c (λ f. omega (arith, ints)); next = other_int (x +ℤ pos 1) c (λ f. omega (arith, ints)) }
      | inr f ↦
          elim (cases_Bool (int_eq x c)) [
            | inl t ↦ let e : x ≡ c = (Decides-int_eq x c).0 t in record { side = At; last = f; same = t; next = other_int (x +ℤ pos 1) c (λ g. omega (arith, ints)) }
            | inr g ↦
                let not_last : x -ℤ pos 1 ≢ c = λ e. true≢false (sym ((Decides-int_eq (x -ℤ pos 1) c).1 e) ∙ f) in
                let not_same : x ≢ c = λ e. true≢false (sym ((Decides-int_eq x c).1 e) ∙ g) in
                let e : x +ℤ pos 1 ≡ c = omega (arith, ints) in
                record { side = Above; last = f; same = g; next = (Decides-int_eq (x +ℤ pos 1) c).1 e }
          ]
    ]

-- so many for the cell at these two sides, and none for others
abbrev hit : ℕ → Bool → Bool → ℕ
hit k a b = cond (a && b) k 0

-- one of the eight cells around is at the two sides, unless both are the middle
hits : (k : ℕ) (s t : Side) → (is_at s && is_at t) ≡ false → hit k (is_below s) (is_below t) + hit k (is_at s) (is_below t) + hit k (is_above s) (is_below t) + hit k (is_below s) (is_at t) + hit k (is_above s) (is_at t) + hit k (is_below s) (is_above t) + hit k (is_at s) (is_above t) + hit k (is_above s) (is_above t) ≡ k
hits k Below Below e = omega arith
hits k Below At e = omega arith
hits k Below Above e = omega arith
hits k At Below e = omega arith
hits k At At e = absurd (true≢false e)
hits k At Above e = omega arith
hits k Above Below e = omega arith
hits k Above At e = omega arith
hits k Above Above e = omega arith

sum_of_sums : (a b c d e f g h a' b' c' d' e' f' g' h' k : ℕ) → a' + b' + c' + d' + e' + f' + g' + h' ≡ k → (a + a') + (b + b') + (c + c') + (d + d') + (e + e') + (f + f') + (g + g') + (h + h') ≡ (a + b + c + d + e + f + g + h) + k
sum_of_sums a b c d e f g h a' b' c' d' e' f' g' h' k s = omega arith

module _ (p q : Plane) (cell other : ℤ × ℤ) (near : IsNear other cell) (apart : other ≢ cell) (dark : count_head (cell_state q other) ≡ 0) (same : (c : ℤ × ℤ) → IsNear c cell → c ≢ other → count_head (cell_state p c) ≡ count_head (cell_state q c)) where
  counted : (u v : ℤ) (a b : Bool) → IsNear (u, v) cell → int_eq u other.0 ≡ a → int_eq v other.1 ≡ b → count_head (p u v) ≡ count_head (q u v) + hit (count_head (cell_state p other)) a b
  counted u v true true around e f =
      let here : (u, v) ≡ other = same_cell (u, v) other ((Decides-int_eq u other.0).0 e) ((Decides-int_eq v other.1).0 f) in
      let seen : count_head (p u v) ≡ count_head (cell_state p other) = ap (λ c. count_head (cell_state p c)) here in
      let none : count_head (q u v) ≡ 0 = ap (λ c. count_head (cell_state q c)) here ∙ dark in
      omega (arith, seen, none)
  counted u v true false around e f =
      let agree = same (u, v) around (λ w. true≢false (sym ((Decides-int_eq v other.1).1 (ap (λ c. c.1) w)) ∙ f)) in omega (arith, agree)
  counted u v false true around e f =
      let agree = same (u, v) around (λ w. true≢false (sym ((Decides-int_eq u other.0).1 (ap (λ c. c.0) w)) ∙ e)) in omega (arith, agree)
  counted u v false false around e f =
      let agree = same (u, v) around (λ w. true≢false (sym ((Decides-int_eq u other.0).1 (ap (λ c. c.0) w)) ∙ e)) in omega (arith, agree)

  not_middle : (s : SideOf cell.0 other.0) (t : SideOf cell.1 other.1) → (is_at s.side && is_at t.side) ≡ false
  not_middle s t =
      elim (cases_Bool (is_at s.side && is_at t.side)) [
        | inl m ↦
            let parts = and_parts (is_at s.side) (is_at t.side) m in
            absurd (apart (sym (same_cell cell other ((Decides-int_eq cell.0 other.0).0 (s.same ∙ parts.0)) ((Decides-int_eq cell.1 other.1).0 (t.same ∙ parts.1)))))
        | inr f ↦ f
      ]

  -- the heads around the cell are those of the other plane, and this cell if it is one
  pub one_more : heads_around p cell.0 cell.1 ≡ heads_around q cell.0 cell.1 + count_head (cell_state p other)
  one_more =
      let x = cell.0 in
      let y = cell.1 in
      let s = side_of x other.0 near.west near.east in
      let t = side_of y other.1 near.north near.south in
      let west = λ (v : ℤ) (n : (y -ℤ pos 1) ≤ℤ v) (m : v ≤ℤ (y +ℤ pos 1)) (b : Bool) (f : int_eq v other.1 ≡ b). counted (x -ℤ pos 1) v (is_below s.side) b (record { west = ≤ℤ_refl _; east = across x; north = n; south = m }) s.last f in
      let middle = λ (v : ℤ) (n : (y -ℤ pos 1) ≤ℤ v) (m : v ≤ℤ (y +ℤ pos 1)) (b : Bool) (f : int_eq v other.1 ≡ b). counted x v (is_at s.side) b (record { west = from_one_less x; east = to_one_more x; north = n; south = m }) s.same f in
      let east = λ (v : ℤ) (n : (y -ℤ pos 1) ≤ℤ v) (m : v ≤ℤ (y +ℤ pos 1)) (b : Bool) (f : int_eq v other.1 ≡ b). counted (x +ℤ pos 1) v (is_above s.side) b (record { west = across x; east = ≤ℤ_refl _; north = n; south = m }) s.next f in
      let above = y -ℤ pos 1 in
      let below = y +ℤ pos 1 in
      sum_same _ _ _ _ _ _ _ _ _ _ _ _ _ _ _ _ (west above (≤ℤ_refl _) (across y) (is_below t.side) t.last) (middle above (≤ℤ_refl _) (across y) (is_below t.side) t.last) (east above (≤ℤ_refl _) (across y) (is_below t.side) t.last) (west y (from_one_less y) (to_one_more y) (is_at t.side) t.same) (east y (from_one_less y) (to_one_more y) (is_at t.side) t.same) (west below (across y) (≤ℤ_refl _) (is_above t.side) t.next) (middle below (across y) (≤ℤ_refl _) (is_above t.side) t.next) (east below (across y) (≤ℤ_refl _) (is_above t.side) t.next)
      ∙ sum_of_sums _ _ _ _ _ _ _ _ _ _ _ _ _ _ _ _ (count_head (cell_state p other)) (hits (count_head (cell_state p other)) s.side t.side (not_middle s t))

-- cells around which the same cells are heads see as many
pub as_many : (p q : Plane) (cell : ℤ × ℤ) → ((c : ℤ × ℤ) → IsNear c cell → count_head (cell_state p c) ≡ count_head (cell_state q c)) → heads_around p cell.0 cell.1 ≡ heads_around q cell.0 cell.1
as_many p q cell same =
    let x = cell.0 in
    let y = cell.1 in
    let at = λ (u v : ℤ) (a : (x -ℤ pos 1) ≤ℤ u) (b : u ≤ℤ (x +ℤ pos 1)) (n : (y -ℤ pos 1) ≤ℤ v) (m : v ≤ℤ (y +ℤ pos 1)). same (u, v) (record { west = a; east = b; north = n; south = m }) in
    sum_same _ _ _ _ _ _ _ _ _ _ _ _ _ _ _ _ (at _ _ (≤ℤ_refl _) (across x) (≤ℤ_refl _) (across y)) (at _ _ (from_one_less x) (to_one_more x) (≤ℤ_refl _) (across y)) (at _ _ (across x) (≤ℤ_refl _) (≤ℤ_refl _) (across y)) (at _ _ (≤ℤ_refl _) (across x) (from_one_less y) (to_one_more y)) (at _ _ (across x) (≤ℤ_refl _) (from_one_less y) (to_one_more y)) (at _ _ (≤ℤ_refl _) (across x) (across y) (≤ℤ_refl _)) (at _ _ (from_one_less x) (to_one_more x) (across y) (≤ℤ_refl _)) (at _ _ (across x) (≤ℤ_refl _) (across y) (≤ℤ_refl _))
