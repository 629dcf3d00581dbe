-- What is empty stays so, and boxes of rows.
use Rattle.std.proofs.Common.{ℤ, pos, negsuc, ℕ, zero, suc, ◌*◌, ◌≤◌, ◌≡◌, refl, ap, ◌∙◌, inl, inr, false, nat_lt, cond, List, [], length, get_or, arith}
use Rattle.std.proofs.lemmas.Bool.{and_cases, ltb-false, cases_eq}
use Rattle.std.proofs.lemmas.List.{get_or_past}
use Rattle.std.proofs.lemmas.Bool.{cases_lt}
use Rattle.ww_rule.specs.declared.pattern.State.{State}
use Rattle.ww_rule.specs.declared.pattern.State.TheVariants.{Empty, Head}
use Rattle.ww_rule.specs.Wireworld.{Plane, Due, next_plane, evolve, driven}
use Rattle.ww_rule.specs.Grid.{IsGrid, IsEmptyOutside, in_box, plane_of}
use Rattle.ww_rule.proofs.Cells.{next_plane_empty}

-- an empty cell stays empty for ever
pub evolve_empty : (n : ℕ) (p : Plane) (x y : ℤ) → p x y ≡ Empty → evolve n p x y ≡ Empty
evolve_empty zero p x y e = e
evolve_empty (suc n) p x y e = next_plane_empty (evolve n p) x y (evolve_empty n p x y e)

-- and under injections that leave it out
pub driven_empty : (due : Due) (p : Plane) (x y : ℤ) → p x y ≡ Empty → ((g : ℕ) → due g x y ≡ false) → (g : ℕ) → driven due p g x y ≡ Empty
driven_empty due p x y e out zero = ap (λ b. cond b Head (p x y)) (out zero) ∙ e
driven_empty due p x y e out (suc g) =
    ap (λ b. cond b Head (next_plane (driven due p g) x y)) (out (suc g)) ∙ next_plane_empty (driven due p g) x y (driven_empty due p x y e out g)

-- no cell beside a row, and none below the last row
pub plane_of_beside : (rows : List (List State)) (x y : ℕ) → length (get_or rows y []) ≤ x → plane_of rows (pos x) (pos y) ≡ Empty
plane_of_beside rows x y h = get_or_past (get_or rows y []) x Empty h

pub plane_of_below : (rows : List (List State)) (x y : ℕ) → length rows ≤ y → plane_of rows (pos x) (pos y) ≡ Empty
plane_of_below rows x y h =
    let e : get_or rows y [] ≡ [] = get_or_past rows y [] h in ap (λ row. get_or row x Empty) e

-- a box without cells has no rows, and any other has no more than its height
pub rows_within : (width height : ℕ) (rows : List (List State)) → IsGrid width height rows → length rows ≤ height
rows_within width height rows grid =
    elim (cases_eq (width * height) 0) [
      | inl e ↦ let n : length rows ≡ 0 = ap length (grid.none e) in omega arith
      | inr n ↦ let e : length rows ≡ height = grid.many n in omega arith
    ]

pub plane_of_outside : (width height : ℕ) (rows : List (List State)) → IsGrid width height rows → IsEmptyOutside width height (plane_of rows)
plane_of_outside width height rows grid (pos x) (pos y) out =
    elim (and_cases (nat_lt x width) (nat_lt y height) out) [
      | inl e ↦
          elim (cases_lt y (length rows)) [
            | inl lt ↦ let n : length (get_or rows y []) ≡ width = grid.long y [] lt in let b : width ≤ x = ltb-false x width e in plane_of_beside rows x y (omega arith)
            | inr ge ↦ plane_of_below rows x y ge
          ]
      | inr e ↦
          let n : length rows ≤ height = rows_within width height rows grid in
          let b : height ≤ y = ltb-false y height e in
          plane_of_below rows x y (omega arith)
    ]
plane_of_outside width height rows grid (pos x) (negsuc y) out = refl
plane_of_outside width height rows grid (negsuc x) y out = refl

pub evolve_outside : (width height n : ℕ) (p : Plane) → IsEmptyOutside width height p → IsEmptyOutside width height (evolve n p)
evolve_outside width height n p empty x y out = evolve_empty n p x y (empty x y out)

pub driven_outside : (width height : ℕ) (due : Due) (p : Plane) → IsEmptyOutside width height p → ((g : ℕ) (x y : ℤ) → in_box width height x y ≡ false → due g x y ≡ false) → (g : ℕ) → IsEmptyOutside width height (driven due p g)
driven_outside width height due p empty within g x y out =
    driven_empty due p x y (empty x y out) (λ g. within g x y out) g
