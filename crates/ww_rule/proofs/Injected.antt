-- Cells made heads.
use Rattle.std.proofs.Common.{ℤ, pos, negsuc, ℕ, ◌+◌, ◌<◌, ◌≡◌, ◌⊎◌, refl, sym, ap, ap₂, ◌∙◌, inl, inr, Bool, true, false, ◌||◌, ◌&&◌, cond, List, [], ◌∷◌, length, get_or, take, arith, slice_set, get_or-set_other}
use Rattle.std.proofs.lemmas.Bool.{cases_eq}
use Rattle.std.proofs.lemmas.Bool.Decides.{Decides-int_eq}
use Rattle.std.proofs.lemmas.Grind.{get_or-set_at}
use Rattle.std.proofs.lemmas.List.{length-set}
use Rattle.std.proofs.lemmas.List.Folds.{list_any_more}
use Rattle.std.proofs.lemmas.Int.{ints}
use Rattle.std.proofs.Math.Path.{fun_ext}
use Rattle.std.specs.Ordering.{int_eq}
use Rattle.ww_rule.specs.declared.pattern.State.{State}
use Rattle.ww_rule.specs.declared.pattern.State.TheVariants.{Empty, Head}
use Rattle.ww_rule.specs.Wireworld.{Plane, injected}
use Rattle.ww_rule.specs.Grid.{IsGrid, plane_of}
use Rattle.ww_rule.specs.Injections.{has_cell}
use Rattle.ww_rule.proofs.RowLemmas.{same_grid}
use Rattle.ww_rule.proofs.Integers.{other_int}

-- the rows with the cell of column x and row y made a head
abbrev pub with_head : List (List State) → ℕ → ℕ → List (List State)
with_head rows x y = slice_set rows y (slice_set (get_or rows y []) x Head)

pub with_head_grid : (width height x y : ℕ) (rows : List (List State)) → IsGrid width height rows → y < length rows → IsGrid width height (with_head rows x y)
with_head_grid width height x y rows grid iny =
    same_grid width height rows (with_head rows x y) grid (length-set rows y (slice_set (get_or rows y []) x Head)) (λ k h. at k (cases_eq k y))
  where
    at : (k : ℕ) → (k ≡ y) ⊎ (k ≡ y → ⊥) → length (get_or (with_head rows x y) k []) ≡ length (get_or rows k [])
    at k (inl e) =
        let row = slice_set (get_or rows y []) x Head in
        ap length (get_or-set_at rows y k row [] e iny) ∙ length-set (get_or rows y []) x Head ∙ ap (λ j. length (get_or rows j [])) (sym e)
    at k (inr n) = ap length (get_or-set_other rows y k (slice_set (get_or rows y []) x Head) [] n)

same_number : (a b : ℕ) → a ≡ b → int_eq (pos a) (pos b) ≡ true
same_number a b e = (Decides-int_eq (pos a) (pos b)).1 (ap pos e)

other_number : (a b : ℕ) → (a ≡ b → ⊥) → int_eq (pos a) (pos b) ≡ false
other_number a b n = other_int (pos a) (pos b) (λ e. n (let same : a ≡ b = omega (arith, ints, e) in same))

pub with_head_shows : (x y : ℕ) (rows : List (List State)) → y < length rows → x < length (get_or rows y []) → plane_of (with_head rows x y) ≡ injected (has_cell ((x, y) ∷ [])) (plane_of rows)
with_head_shows x y rows iny inx = fun_ext (λ u. fun_ext (λ v. place u v))
  where
    -- with the test's two answers
    told : (u v : ℕ) (a b : Bool) → int_eq (pos x) (pos u) ≡ a → int_eq (pos y) (pos v) ≡ b → get_or (get_or (with_head rows x y) v []) u Empty ≡ cond ((a && b) || false) Head (plane_of rows (pos u) (pos v)) → get_or (get_or (with_head rows x y) v []) u Empty ≡ injected (has_cell ((x, y) ∷ [])) (plane_of rows) (pos u) (pos v)
    told u v a b ea eb e =
        e ∙ sym (ap₂ (λ a b. cond ((a && b) || false) Head (plane_of rows (pos u) (pos v))) ea eb)

    cell : (u v : ℕ) → (v ≡ y) ⊎ (v ≡ y → ⊥) → (u ≡ x) ⊎ (u ≡ x → ⊥) → get_or (get_or (with_head rows x y) v []) u Empty ≡ injected (has_cell ((x, y) ∷ [])) (plane_of rows) (pos u) (pos v)
    cell u v (inl ev) (inl eu) =
        told u v true true (same_number x u (sym eu)) (same_number y v (sym ev)) (ap (λ row. get_or row u Empty) (get_or-set_at rows y v (slice_set (get_or rows y []) x Head) [] ev iny) ∙ get_or-set_at (get_or rows y []) x u Head Empty eu inx)
    cell u v (inl ev) (inr nu) =
        told u v false true (other_number x u (λ e. nu (sym e))) (same_number y v (sym ev)) (ap (λ row. get_or row u Empty) (get_or-set_at rows y v (slice_set (get_or rows y []) x Head) [] ev iny) ∙ get_or-set_other (get_or rows y []) x u Head Empty nu ∙ ap (λ j. get_or (get_or rows j []) u Empty) (sym ev))
    cell u v (inr nv) (inl eu) =
        told u v true false (same_number x u (sym eu)) (other_number y v (λ e. nv (sym e))) (ap (λ row. get_or row u Empty) (get_or-set_other rows y v (slice_set (get_or rows y []) x Head) [] nv))
    cell u v (inr nv) (inr nu) =
        told u v false false (other_number x u (λ e. nu (sym e))) (other_number y v (λ e. nv (sym e))) (ap (λ row. get_or row u Empty) (get_or-set_other rows y v (slice_set (get_or rows y []) x Head) [] nv))

    north : (b : Bool) → Empty ≡ cond ((b && false) || false) Head Empty
    north true = refl
    north false = refl

    place : (u v : ℤ) → plane_of (with_head rows x y) u v ≡ injected (has_cell ((x, y) ∷ [])) (plane_of rows) u v
    place (pos u) (pos v) = cell u v (cases_eq v y) (cases_eq u x)
    place (pos u) (negsuc v) = north (int_eq (pos x) (pos u))
    place (negsuc u) v = refl

-- one more cell, after the others
pub injected_more : (cells : List (ℕ × ℕ)) (i : ℕ) (d : ℕ × ℕ) (p : Plane) → i < length cells → injected (has_cell (get_or cells i d ∷ [])) (injected (has_cell (take i cells)) p) ≡ injected (has_cell (take (i + 1) cells)) p
injected_more cells i d p h = fun_ext (λ x. fun_ext (λ y. place x y))
  where
    either : (a b : Bool) (s : State) → cond (b || false) Head (cond a Head s) ≡ cond (a || b) Head s
    either true true s = refl
    either true false s = refl
    either false true s = refl
    either false false s = refl

    place : (x y : ℤ) → injected (has_cell (get_or cells i d ∷ [])) (injected (has_cell (take i cells)) p) x y ≡ injected (has_cell (take (i + 1) cells)) p x y
    place x y =
        let test = λ (cell : ℕ × ℕ). int_eq (pos cell.0) x && int_eq (pos cell.1) y in
        either (has_cell (take i cells) x y) (test (get_or cells i d)) (p x y)
        ∙ sym (ap (λ b. cond b Head (p x y)) (list_any_more test cells i d h))
