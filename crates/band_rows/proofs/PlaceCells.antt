-- Cells of rows by the places of their words in planes.
use Rattle.std.proofs.Common.{ℕ, ◌+◌, ◌*◌, ◌/◌, ◌%◌, ◌^◌, ◌<◌, ◌≤◌, ◌≡◌, refl, sym, ap, ap₂, ◌∙◌, inl, inr, Bool, true, false, cond, ◌&&◌, ◌||◌, ◌==◌, List, length, get_or, slice_set, arith}
use Rattle.std.specs.Prelude.{◌≢◌}
use Rattle.std.specs.Int.{w64}
use Rattle.std.specs.Int.RustNames.{bit_or}
use Rattle.std.proofs.lemmas.Bool.{cases_eq, cases_lt, eq-eqb, ne_eqb}
use Rattle.std.proofs.lemmas.List.{get_or-set_same, get_or-set_other}
use Rattle.std.proofs.lemmas.Nat.{div-mul-add}
use Rattle.std.proofs.lemmas.Nat.Bits.{bit_at_set_same, bit_at_set_other}
use Rattle.std.proofs.Math.Bool.{and-false}
use Rattle.std.proofs.Math.Nat.{suc-mul}
use Rattle.ww_rule.specs.declared.pattern.State.TheVariants.{Head}
use Rattle.lists.specs.Bits.{has_bit}
use Rattle.lane_kernel.specs.Rows.{is_set, state_of}
use Rattle.lane_kernel.specs.PlaneRows.{place, row_in_plane}
use Rattle.lane_kernel.proofs.Bits.{no_bit}
use Rattle.lane_kernel.proofs.PlaneRows.{row_past, row_word}

-- no two words of a plane stand at one place
pub same_place : (s c r c' r' : ℕ) → r < s → r' < s → place s c r ≡ place s c' r' → (c ≡ c') × (r ≡ r')
same_place s c r c' r' lt lt' same =
    let m = suc-mul c s in
    let m' = suc-mul c' s in
    let e : c * s + r ≡ c' * s + r' = omega (arith, same, m, m') in
    let columns : c ≡ c' = sym (div-mul-add c s r lt) ∙ ap (λ n. n / s) e ∙ div-mul-add c' s r' lt' in
    let products : c * s ≡ c' * s = ap (λ n. n * s) columns in
    let rows : r ≡ r' = omega (arith, e, products) in
    (columns, rows)

pub row_set : (columns s : ℕ) (plane : List ℕ) (r u : ℕ) → u / 64 < columns → is_set (row_in_plane columns s plane r) u ≡ has_bit (get_or plane (place s (u / 64) r) 0) (u % 64)
row_set columns s plane r u lt = ap (λ w. has_bit w (u % 64)) (row_word columns s plane r (u / 64) lt)

pub row_unset : (columns s : ℕ) (plane : List ℕ) (r u : ℕ) → columns ≤ u / 64 → is_set (row_in_plane columns s plane r) u ≡ false
row_unset columns s plane r u le = ap (λ w. has_bit w (u % 64)) (row_past columns s plane r (u / 64) le) ∙ no_bit (u % 64)

-- a bit that was set
pub set_here : (w b i : ℕ) → b < 64 → has_bit (bit_or w (1 * 2 ^ b % 2 ^ 64)) i ≡ (i == b || has_bit w i)
set_here w b i lt =
    elim (cases_eq i b) [
      | inl e ↦ ap (has_bit (bit_or w (1 * 2 ^ b % 2 ^ 64))) e ∙ ap (λ n. n == 1) (bit_at_set_same w64 w b lt) ∙ sym (ap (λ t. t || has_bit w i) (eq-eqb i b e))
      | inr ne ↦ ap (λ n. n == 1) (bit_at_set_other w64 w b lt i ne) ∙ sym (ap (λ t. t || has_bit w i) (ne_eqb i b ne))
    ]

-- the bits of a row of a plane in which the bit of one cell was set
module _ (columns s : ℕ) (plane : List ℕ) (x k : ℕ) (west : x / 64 < columns) (low : k + 1 < s) (within : place s (x / 64) (k + 1) < length plane) where
  abbrev v : ℕ
  v = bit_or (get_or plane (place s (x / 64) (k + 1)) 0) (1 * 2 ^ (x % 64) % 2 ^ 64)

  abbrev new : List ℕ
  new = slice_set plane (place s (x / 64) (k + 1)) v

  pub put_bit : (u j : ℕ) → j + 1 < s → is_set (row_in_plane columns s new (j + 1)) u ≡ ((u == x && j == k) || is_set (row_in_plane columns s plane (j + 1)) u)
  put_bit u j lt =
      elim (cases_lt (u / 64) columns) [
        | inr past ↦
            row_unset columns s new (j + 1) u past
            ∙ sym (ap₂ (λ p q. (p && j == k) || q) (ne_eqb u x (λ e. let q = ap (λ n. n / 64) e in omega (arith, q, west, past))) (row_unset columns s plane (j + 1) u past))
        | inl inside ↦
            row_set columns s new (j + 1) u inside
            ∙ elim (cases_eq (place s (u / 64) (j + 1)) (place s (x / 64) (k + 1))) [
              | inr away ↦
                  ap (λ w. has_bit w (u % 64)) (get_or-set_other plane (place s (x / 64) (k + 1)) (place s (u / 64) (j + 1)) v 0 away)
                  ∙ sym (row_set columns s plane (j + 1) u inside)
                  ∙ sym (ap (λ t. t || is_set (row_in_plane columns s plane (j + 1)) u) (elsewhere u j away))
              | inl here ↦
                  let at = same_place s (u / 64) (j + 1) (x / 64) (k + 1) lt low here in
                  let row : j ≡ k = let r = at.1 in omega (arith, r) in
                  ap (λ i. has_bit (get_or new i 0) (u % 64)) here
                  ∙ ap (λ w. has_bit w (u % 64)) (get_or-set_same plane (place s (x / 64) (k + 1)) v 0 within)
                  ∙ set_here (get_or plane (place s (x / 64) (k + 1)) 0) (x % 64) (u % 64) (omega arith)
                  ∙ ap₂ (λ p q. p || q)
                  (column u j at.0 row)
                  (ap (λ i. has_bit (get_or plane i 0) (u % 64)) (sym here) ∙ sym (row_set columns s plane (j + 1) u inside))
            ]
      ]
    where
      elsewhere : (u j : ℕ) → place s (u / 64) (j + 1) ≢ place s (x / 64) (k + 1) → (u == x && j == k) ≡ false
      elsewhere u j away =
          elim (cases_eq j k) [
            | inr ne ↦ ap (λ t. u == x && t) (ne_eqb j k ne) ∙ and-false (u == x)
            | inl e ↦ ap (λ t. t && j == k) (ne_eqb u x (λ q. away (ap₂ (λ u j. place s (u / 64) (j + 1)) q e)))
          ]

      column : (u j : ℕ) → u / 64 ≡ x / 64 → j ≡ k → (u % 64 == x % 64) ≡ (u == x && j == k)
      column u j same row =
          elim (cases_eq (u % 64) (x % 64)) [
            | inl e ↦ let q : u ≡ x = omega (arith, same, e) in eq-eqb (u % 64) (x % 64) e ∙ sym (ap₂ (λ a b. a && b) (eq-eqb u x q) (eq-eqb j k row))
            | inr ne ↦ ne_eqb (u % 64) (x % 64) ne ∙ sym (ap (λ t. t && j == k) (ne_eqb u x (λ q. ne (ap (λ n. n % 64) q))))
          ]

-- the bits of a row of a plane into which a word was put
module _ (columns s : ℕ) (plane : List ℕ) (c k v : ℕ) (west : c < columns) (low : k + 1 < s) (within : place s c (k + 1) < length plane) where
  abbrev put : List ℕ
  put = slice_set plane (place s c (k + 1)) v

  pub put_here : (u : ℕ) → u / 64 ≡ c → is_set (row_in_plane columns s put (k + 1)) u ≡ has_bit v (u % 64)
  put_here u e =
      row_set columns s put (k + 1) u (omega (arith, e, west))
      ∙ ap (λ c. has_bit (get_or put (place s c (k + 1)) 0) (u % 64)) e
      ∙ ap (λ w. has_bit w (u % 64)) (get_or-set_same plane (place s c (k + 1)) v 0 within)

  pub put_other : (u j : ℕ) → j + 1 < s → (u / 64 ≡ c → j ≢ k) → is_set (row_in_plane columns s put (j + 1)) u ≡ is_set (row_in_plane columns s plane (j + 1)) u
  put_other u j lt ne =
      elim (cases_lt (u / 64) columns) [
        | inr past ↦ row_unset columns s put (j + 1) u past ∙ sym (row_unset columns s plane (j + 1) u past)
        | inl inside ↦
            row_set columns s put (j + 1) u inside
            ∙ ap (λ w. has_bit w (u % 64)) (get_or-set_other plane (place s c (k + 1)) (place s (u / 64) (j + 1)) v 0 (λ same.
            let at = same_place s (u / 64) (j + 1) c (k + 1) lt low same in
            let r = at.1 in
            let row : j ≡ k = omega (arith, r) in
            ne at.0 row))
            ∙ sym (row_set columns s plane (j + 1) u inside)
      ]

-- a cell that was made a head
pub head_state : (b h t c : Bool) → state_of (b || h) t (b || c) ≡ cond b Head (state_of h t c)
head_state true h t c = refl
head_state false h t c = refl
