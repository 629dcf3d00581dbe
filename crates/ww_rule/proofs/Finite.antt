-- Planes with finitely many cells.
use Rattle.std.proofs.Common.{ℤ, pos, negsuc, ◌-ℤ◌, ◌≤ℤ◌, ℕ, zero, suc, ◌+◌, ◌≤◌, ◌≡◌, ◌≢◌, refl, sym, ap, ◌∙◌, inl, inr, Bool, true, false, ◌&&◌, ◌||◌, ◌==◌, cond, List, [], ◌∷◌, length, get_or, arith, map, filter}
use Rattle.std.proofs.lemmas.Int.{ints}
use Rattle.std.proofs.lemmas.Bool.{cases_Bool, cases_lt, and_parts, or_cases, true≢false}
use Rattle.std.proofs.lemmas.Bool.Decides.{Decides-int_eq}
use Rattle.std.specs.Ordering.{int_eq}
use Rattle.ww_rule.specs.declared.pattern.State.{State}
use Rattle.ww_rule.specs.declared.pattern.State.TheVariants.{Empty, Head}
use Rattle.ww_rule.specs.declared.pattern.Injection.{Injection}
use Rattle.ww_rule.specs.Wireworld.{Plane, Due, next_plane, evolve, driven}
use Rattle.ww_rule.specs.Grid.{plane_of}
use Rattle.ww_rule.specs.Injections.{has_cell, due_of_list}
use Rattle.ww_rule.specs.Laws.{HasFinitelyManyCells}
use Rattle.ww_rule.proofs.Cells.{next_plane_empty}
use Rattle.ww_rule.proofs.Boxes.{evolve_empty, plane_of_beside, plane_of_below}

-- a cell lies within so many columns and rows of the origin
record IsNear (reach : ℕ) (x y : ℤ) : Type 0 where
  west : (pos 0 -ℤ pos reach) ≤ℤ x
  east : x ≤ℤ pos reach
  north : (pos 0 -ℤ pos reach) ≤ℤ y
  south : y ≤ℤ pos reach

finite : (reach : ℕ) (p : Plane) → ((x y : ℤ) → p x y ≢ Empty → IsNear reach x y) → HasFinitelyManyCells p
finite reach p near =
    record { reach = reach; west = λ x y h. (near x y h).west; east = λ x y h. (near x y h).east; north = λ x y h. (near x y h).north; south = λ x y h. (near x y h).south }

cells_of : List (List State) → ℕ
cells_of [] = 0
cells_of (row ∷ rows) = length row + cells_of rows

row_within : (rows : List (List State)) (y : ℕ) → length (get_or rows y []) ≤ cells_of rows
unfolding cells_of
row_within [] y = omega arith
row_within (row ∷ rows) zero = omega arith
row_within (row ∷ rows) (suc y) = let h : length (get_or rows y []) ≤ cells_of rows = row_within rows y in omega arith

pub plane_of_finite : (rows : List (List State)) → HasFinitelyManyCells (plane_of rows)
plane_of_finite rows = finite (length rows + cells_of rows) (plane_of rows) near
  where
    near : (x y : ℤ) → plane_of rows x y ≢ Empty → IsNear (length rows + cells_of rows) x y
    near (pos x) (pos y) h =
        elim (cases_lt y (length rows)) [
          | inr ge ↦ absurd (h (plane_of_below rows x y ge))
          | inl below ↦
              elim (cases_lt x (length (get_or rows y []))) [
                | inr ge ↦ absurd (h (plane_of_beside rows x y ge))
                | inl beside ↦
                    let w : length (get_or rows y []) ≤ cells_of rows = row_within rows y in
                    record { west = omega (arith, ints); east = omega (arith, ints); north = omega (arith, ints); south = omega (arith, ints) }
              ]
        ]
    near (pos x) (negsuc y) h = absurd (h refl)
    near (negsuc x) y h = absurd (h refl)

pub evolve_finite : (n : ℕ) (p : Plane) → HasFinitelyManyCells p → HasFinitelyManyCells (evolve n p)
evolve_finite n p f =
    let was = λ (x y : ℤ) (h : evolve n p x y ≢ Empty) (e : p x y ≡ Empty). h (evolve_empty n p x y e) in
    record { reach = f.reach; west = λ x y h. f.west x y (was x y h); east = λ x y h. f.east x y (was x y h); north = λ x y h. f.north x y (was x y h); south = λ x y h. f.south x y (was x y h) }

-- what holds of all cells that are not empty, and of all that are due, holds of them for ever
pub driven_within : (Q : ℤ → ℤ → Type 0) (due : Due) (p : Plane) → ((x y : ℤ) → p x y ≢ Empty → Q x y) → ((g : ℕ) (x y : ℤ) → due g x y ≡ true → Q x y) → (g : ℕ) (x y : ℤ) → driven due p g x y ≢ Empty → Q x y
driven_within Q due p old new zero x y h =
    elim (cases_Bool (due zero x y)) [
      | inl e ↦ new zero x y e
      | inr e ↦ old x y (λ was. h (ap (λ b. cond b Head (p x y)) e ∙ was))
    ]
driven_within Q due p old new (suc g) x y h =
    elim (cases_Bool (due (suc g) x y)) [
      | inl e ↦ new (suc g) x y e
      | inr e ↦ driven_within Q due p old new g x y (λ was. h (ap (λ b. cond b Head (next_plane (driven due p g) x y)) e ∙ next_plane_empty (driven due p g) x y was))
    ]

-- a list of injections with one more in front makes its cell due besides
pub due_of_cons : (i : Injection) (is : List Injection) (g : ℕ) (x y : ℤ) → due_of_list (i ∷ is) g x y ≡ ((i.generation == g && (int_eq (pos i.x) x && int_eq (pos i.y) y)) || due_of_list is g x y)
due_of_cons i is g x y = picked (i.generation == g)
  where
    picked : (b : Bool) → has_cell (map (λ i. (i.x, i.y)) (cond b (i ∷ filter (λ i. i.generation == g) is) (filter (λ i. i.generation == g) is))) x y ≡ ((b && (int_eq (pos i.x) x && int_eq (pos i.y) y)) || due_of_list is g x y)
    picked true = refl
    picked false = refl

places_of : List Injection → ℕ
places_of [] = 0
places_of (i ∷ is) = i.x + i.y + places_of is

due_within : (is : List Injection) (g : ℕ) (x y : ℤ) → due_of_list is g x y ≡ true → IsNear (places_of is) x y
unfolding places_of
due_within [] g x y e = absurd (true≢false (sym e))
due_within (i ∷ is) g x y e =
    elim (or_cases (i.generation == g && (int_eq (pos i.x) x && int_eq (pos i.y) y)) (due_of_list is g x y) (sym (due_of_cons i is g x y) ∙ e)) [
      | inl here ↦
          let at = and_parts (int_eq (pos i.x) x) (int_eq (pos i.y) y) (and_parts (i.generation == g) (int_eq (pos i.x) x && int_eq (pos i.y) y) here).1 in
          let ex : pos i.x ≡ x = (Decides-int_eq (pos i.x) x).0 at.0 in
          let ey : pos i.y ≡ y = (Decides-int_eq (pos i.y) y).0 at.1 in
          record { west = omega (arith, ints); east = omega (arith, ints); north = omega (arith, ints); south = omega (arith, ints) }
      | inr later ↦
          let h : IsNear (places_of is) x y = due_within is g x y later in
          record { west = omega (arith, ints); east = omega (arith, ints); north = omega (arith, ints); south = omega (arith, ints) }
    ]

wider : (a b : ℕ) (x y : ℤ) → IsNear a x y → a ≤ b → IsNear b x y
wider a b x y h le =
    record { west = omega (arith, ints); east = omega (arith, ints); north = omega (arith, ints); south = omega (arith, ints) }

pub driven_finite : (is : List Injection) (p : Plane) (g : ℕ) → HasFinitelyManyCells p → HasFinitelyManyCells (driven (due_of_list is) p g)
driven_finite is p g f =
    let old = λ (x y : ℤ) (h : p x y ≢ Empty). let n : IsNear f.reach x y = record { west = f.west x y h; east = f.east x y h; north = f.north x y h; south = f.south x y h } in wider f.reach (f.reach + places_of is) x y n (omega arith) in
    let new = λ (g : ℕ) (x y : ℤ) (e : due_of_list is g x y ≡ true). wider (places_of is) (f.reach + places_of is) x y (due_within is g x y e) (omega arith) in
    finite (f.reach + places_of is) _ (driven_within (IsNear (f.reach + places_of is)) (due_of_list is) p old new g)
