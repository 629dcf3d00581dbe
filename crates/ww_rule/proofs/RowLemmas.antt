-- Rows of a box.
use Rattle.std.proofs.Common.{ℤ, pos, negsuc, ◌-ℤ◌, ℕ, ◌+◌, ◌-◌, ◌*◌, ◌<◌, ◌≡◌, refl, sym, ap, subst, below_more, ◌∙◌, inl, inr, List, [], ◌∷◌, ◌++◌, length, get_or, map, reverse, take, get_or-take, length-take, All, arith}
use Rattle.std.proofs.lemmas.Bool.{cases_lt}
use Rattle.std.proofs.lemmas.List.{get_or-reverse, get_or-map, get_or_past, length-map, length-reverse, nil_from_length, get_or_default}
use Rattle.std.proofs.lemmas.Int.{ints}
use Rattle.std.proofs.Math.Nat.{mul-lt-mul_of_pos_left}
use Rattle.std.proofs.Math.ListN.{get_or-append}
use Rattle.std.proofs.Math.Seq.{get_or-append_seam}
use Rattle.std.proofs.Math.Path.{fun_ext}
pub use Rattle.std.proofs.lemmas.List.{get_or_default as get_or_any}
use Rattle.ww_rule.specs.declared.pattern.State.{State}
use Rattle.ww_rule.specs.declared.pattern.State.TheVariants.{Empty}
use Rattle.ww_rule.specs.Grid.{IsGrid, plane_of}
use Rattle.ww_rule.specs.Laws.{mirrored}

-- rows of the same lengths are a box of the same size
pub same_grid : (width height : ℕ) (old new : List (List State)) → IsGrid width height old → length new ≡ length old → ((y : ℕ) → y < length old → length (get_or new y []) ≡ length (get_or old y [])) → IsGrid width height new
same_grid width height old new grid many long =
    record {
      long = λ y d h. let b : y < length old = omega arith in ap length (get_or_default new y d [] h) ∙ long y b ∙ grid.long y [] b;
      many = λ n. many ∙ grid.many n;
      none = λ e. nil_from_length new (many ∙ ap length (grid.none e));
    }

-- a cell of the box stands in the rows
pub in_rows : (width height x y : ℕ) (rows : List (List State)) → IsGrid width height rows → x < width → y < height → y < length rows
in_rows width height x y rows grid inx iny =
    let big : width * 0 < width * height = mul-lt-mul_of_pos_left (omega arith) (omega arith) in
    let e : length rows ≡ height = grid.many (λ e. omega arith) in
    omega arith

pub in_row : (width height x y : ℕ) (rows : List (List State)) → IsGrid width height rows → x < width → y < height → x < length (get_or rows y [])
in_row width height x y rows grid inx iny =
    let h : y < length rows = in_rows width height x y rows grid inx iny in
    let e : length (get_or rows y []) ≡ width = grid.long y [] h in
    omega arith

-- what holds of each item of a list, and of one more at its end, holds of each item of both
pub pushed : {X : Type 0} (P : ℕ → X → Type 0) (xs : List X) (z d : X) (i : ℕ) → length xs ≡ i → ((k : ℕ) → k < i → P k (get_or xs k d)) → P i z → (k : ℕ) → k < i + 1 → P k (get_or (xs ++ z ∷ []) k d)
pushed P xs z d i n was here =
    below_more (λ k. P k (get_or (xs ++ z ∷ []) k d)) i (λ k h. subst (P k) (sym (get_or-append xs (z ∷ []) d k (omega arith))) (was k h)) (subst (P i) (sym (ap (λ j. get_or (xs ++ z ∷ []) j d) (sym n) ∙ get_or-append_seam xs z [] d)) here)

-- a row by an integer
row_at : List State → ℤ → State
row_at row (pos x) = get_or row x Empty
row_at row (negsuc x) = Empty

plane_of_row : (rows : List (List State)) (u : ℤ) (y : ℕ) → plane_of rows u (pos y) ≡ row_at (get_or rows y []) u
unfolding row_at
plane_of_row rows (pos x) y = refl
plane_of_row rows (negsuc x) y = refl

no_row : (u : ℤ) → row_at [] u ≡ Empty
unfolding row_at
no_row (pos x) = get_or_past [] x Empty (omega arith)
no_row (negsuc x) = refl

plane_of_north : (rows : List (List State)) (u : ℤ) (y : ℕ) → plane_of rows u (negsuc y) ≡ Empty
plane_of_north rows (pos x) y = refl
plane_of_north rows (negsuc x) y = refl

reversed_row : (rows : List (List State)) (y : ℕ) → get_or (map reverse rows) y [] ≡ reverse (get_or rows y [])
reversed_row rows y =
    elim (cases_lt y (length rows)) [
      | inl h ↦ get_or-map reverse rows y [] [] h
      | inr h ↦
          let e : get_or rows y [] ≡ [] = get_or_past rows y [] h in
          let n : length (map reverse rows) ≡ length rows = length-map rows reverse in
          get_or_past (map reverse rows) y [] (omega arith) ∙ sym (ap reverse e)
    ]

-- a row from its end to its start, by an integer
row_turned : (row : List State) (x : ℤ) → row_at (reverse row) x ≡ row_at row ((pos (length row) -ℤ pos 1) -ℤ x)
unfolding row_at
row_turned row (pos x) =
    elim (cases_lt x (length row)) [
      | inl h ↦
          let e : (pos (length row) -ℤ pos 1) -ℤ pos x ≡ pos (length row - 1 - x) = omega (arith, ints) in
          get_or-reverse row x Empty h ∙ sym (ap (row_at row) e)
      | inr h ↦
          let e : (pos (length row) -ℤ pos 1) -ℤ pos x ≡ negsuc (x - length row) = omega (arith, ints) in
          let n : length (reverse row) ≡ length row = length-reverse row in
          get_or_past (reverse row) x Empty (omega arith) ∙ sym (ap (row_at row) e)
    ]
row_turned row (negsuc x) =
    let e : (pos (length row) -ℤ pos 1) -ℤ negsuc x ≡ pos (length row + x) = omega (arith, ints) in
    sym (ap (row_at row) e ∙ get_or_past row (length row + x) Empty (omega arith))

pub reversed_grid : (width height : ℕ) (rows : List (List State)) → IsGrid width height rows → IsGrid width height (map reverse rows)
reversed_grid width height rows grid =
    same_grid width height rows (map reverse rows) grid (length-map rows reverse) (λ y h. ap length (reversed_row rows y) ∙ length-reverse (get_or rows y []))

row_mirrored : (width y : ℕ) (rows : List (List State)) (x : ℤ) → (y < length rows → length (get_or rows y []) ≡ width) → row_at (reverse (get_or rows y [])) x ≡ row_at (get_or rows y []) ((pos width -ℤ pos 1) -ℤ x)
row_mirrored width y rows x long =
    elim (cases_lt y (length rows)) [
      | inl h ↦ row_turned (get_or rows y []) x ∙ ap (λ n. row_at (get_or rows y []) ((pos n -ℤ pos 1) -ℤ x)) (long h)
      | inr h ↦
          let e : get_or rows y [] ≡ [] = get_or_past rows y [] h in
          ap (λ row. row_at (reverse row) x) e ∙ no_row x ∙ sym (ap (λ row. row_at row ((pos width -ℤ pos 1) -ℤ x)) e ∙ no_row ((pos width -ℤ pos 1) -ℤ x))
    ]

pub reversed_shows : (width height : ℕ) (rows : List (List State)) → IsGrid width height rows → plane_of (map reverse rows) ≡ mirrored (pos width -ℤ pos 1) (plane_of rows)
reversed_shows width height rows grid = fun_ext (λ x. fun_ext (λ y. place x y))
  where
    place : (x y : ℤ) → plane_of (map reverse rows) x y ≡ plane_of rows ((pos width -ℤ pos 1) -ℤ x) y
    place x (pos y) =
        plane_of_row (map reverse rows) x y
        ∙ ap (λ row. row_at row x) (reversed_row rows y)
        ∙ row_mirrored width y rows x (λ h. grid.long y [] h)
        ∙ sym (plane_of_row rows ((pos width -ℤ pos 1) -ℤ x) y)
    place x (negsuc y) =
        plane_of_north (map reverse rows) x y ∙ sym (plane_of_north rows ((pos width -ℤ pos 1) -ℤ x) y)

-- rows of one length, reversed, are of that length
pub reversed_long : (rows : List (List State)) (y : ℕ) → y < length rows → All (λ row. length row ≡ length (get_or rows 0 [])) rows → All (λ row. length row ≡ length (reverse (get_or rows y []))) (map reverse (take y rows))
reversed_long rows y iny long k d h =
    let n : length (map reverse (take y rows)) ≡ length (take y rows) = length-map (take y rows) reverse in
    let ink : k < y = omega (arith, length-take y rows) in
    ap length (get_or-map reverse (take y rows) k [] d (omega arith))
    ∙ length-reverse (get_or (take y rows) k [])
    ∙ ap length (get_or-take y rows k [] ink)
    ∙ long k [] (omega arith)
    ∙ sym (length-reverse (get_or rows y []) ∙ long y [] iny)
