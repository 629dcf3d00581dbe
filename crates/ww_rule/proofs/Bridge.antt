-- Inside a box, the rule on natural numbers with an empty frame is the rule on the plane.
use Rattle.std.proofs.Common.{ℤ, pos, negsuc, ◌+ℤ◌, ◌-ℤ◌, ℕ, zero, suc, ◌+◌, ◌-◌, ◌<◌, ◌≡◌, refl, sym, ap, ap₂, ◌∙◌, inl, inr, List, [], ◌∷◌, length, get_or, arith}
use Rattle.std.proofs.lemmas.Bool.{cases_lt}
use Rattle.std.proofs.Math.IntN.{+ℤ-neg_ℤ_cancel}
use Rattle.std.proofs.Math.Path.{fun_ext}
use Rattle.ww_rule.specs.declared.pattern.State.{State}
use Rattle.ww_rule.specs.declared.pattern.State.TheVariants.{Empty}
use Rattle.ww_rule.specs.Wireworld.{Plane, next_plane, heads_around, count_head}
use Rattle.ww_rule.specs.Grid.{plane_of}
use Rattle.ww_rule.proofs.Cells.{next_plane_same}
use Rattle.ww_rule.proofs.Boxes.{plane_of_beside, plane_of_below}

-- the look-up by places that are counted from 1, where 0 is the empty frame
abbrev pub look_before : (ℕ → ℕ → State) → ℕ → ℕ → State
look_before look x zero = Empty
look_before look zero (suc y) = Empty
look_before look (suc x) (suc y) = look x y

pub one_back : (x : ℕ) → pos (suc x) -ℤ pos 1 ≡ pos x
one_back x = let e : suc x ≡ x + 1 = omega arith in ap (λ n. pos n -ℤ pos 1) e ∙ +ℤ-neg_ℤ_cancel (pos x) (pos 1)

pub same_place : (x : ℕ) → pos (x + 1) -ℤ pos 1 ≡ pos x
same_place x = +ℤ-neg_ℤ_cancel (pos x) (pos 1)

pub one_on : (x : ℕ) → pos (x + 2) -ℤ pos 1 ≡ pos x +ℤ pos 1
one_on x = let e : x + 2 ≡ x + 1 + 1 = omega arith in ap (λ n. pos n -ℤ pos 1) e ∙ +ℤ-neg_ℤ_cancel (pos (x + 1)) (pos 1)

count_moved : (p : Plane) (u u' v v' : ℤ) (a : ℕ) → u ≡ u' → v ≡ v' → a ≡ count_head (p u v) → a ≡ count_head (p u' v')
count_moved p u u' v v' a e f h = h ∙ ap₂ (λ x y. count_head (p x y)) e f

sum_moved : (a b c d e f g h a' b' c' d' e' f' g' h' : ℕ) → a ≡ a' → b ≡ b' → c ≡ c' → d ≡ d' → e ≡ e' → f ≡ f' → g ≡ g' → h ≡ h' → a + b + c + (d + e) + (f + g + h) ≡ a' + b' + c' + d' + e' + f' + g' + h'
sum_moved a b c d e f g h a' b' c' d' e' f' g' h' p1 p2 p3 p4 p5 p6 p7 p8 = omega arith

-- the eight counts of any plane, by places that are counted from 1
pub heads_around_before : (p : Plane) (x y a b c d e f g h : ℕ) → a ≡ count_head (p (pos x -ℤ pos 1) (pos y -ℤ pos 1)) → b ≡ count_head (p (pos (x + 1) -ℤ pos 1) (pos y -ℤ pos 1)) → c ≡ count_head (p (pos (x + 2) -ℤ pos 1) (pos y -ℤ pos 1)) → d ≡ count_head (p (pos x -ℤ pos 1) (pos (y + 1) -ℤ pos 1)) → e ≡ count_head (p (pos (x + 2) -ℤ pos 1) (pos (y + 1) -ℤ pos 1)) → f ≡ count_head (p (pos x -ℤ pos 1) (pos (y + 2) -ℤ pos 1)) → g ≡ count_head (p (pos (x + 1) -ℤ pos 1) (pos (y + 2) -ℤ pos 1)) → h ≡ count_head (p (pos (x + 2) -ℤ pos 1) (pos (y + 2) -ℤ pos 1)) → a + b + c + (d + e) + (f + g + h) ≡ heads_around p (pos x) (pos y)
heads_around_before p x y a b c d e f g h p1 p2 p3 p4 p5 p6 p7 p8 =
    sum_moved a b c d e f g h _ _ _ _ _ _ _ _ p1 (count_moved p _ _ _ _ b (same_place x) refl p2) (count_moved p _ _ _ _ c (one_on x) refl p3) (count_moved p _ _ _ _ d refl (same_place y) p4) (count_moved p _ _ _ _ e (one_on x) (same_place y) p5) (count_moved p _ _ _ _ f refl (one_on y) p6) (count_moved p _ _ _ _ g (same_place x) (one_on y) p7) (count_moved p _ _ _ _ h (one_on x) (one_on y) p8)

-- how many heads a look-up has around a place
abbrev pub heads_seen : (ℕ → ℕ → State) → ℕ → ℕ → ℕ
heads_seen look x y =
    count_head (look_before look x y)
    + count_head (look_before look (x + 1) y)
    + count_head (look_before look (x + 2) y)
    + (count_head (look_before look x (y + 1)) + count_head (look_before look (x + 2) (y + 1)))
    + (count_head (look_before look x (y + 2))
    + count_head (look_before look (x + 1) (y + 2))
    + count_head (look_before look (x + 2) (y + 2)))

-- the same row in two boxes of rows
row_same : (rows rows' : List (List State)) (i j : ℕ) → get_or rows i [] ≡ get_or rows' j [] → (u : ℤ) → plane_of rows u (pos i) ≡ plane_of rows' u (pos j)
row_same rows rows' i j e (pos x) = ap (λ row. get_or row x Empty) e
row_same rows rows' i j e (negsuc x) = refl

row_above : (above row below : List State) (rows : List (List State)) (y : ℕ) → (y ≡ 0 → above ≡ []) → (0 < y → above ≡ get_or rows (y - 1) []) → (u : ℤ) → plane_of (above ∷ row ∷ below ∷ []) u (pos 0) ≡ plane_of rows u (pos y -ℤ pos 1)
row_above above row below rows zero first later (pos x) = ap (λ row. get_or row x Empty) (first refl)
row_above above row below rows zero first later (negsuc x) = refl
row_above above row below rows (suc y) first later u =
    let e : suc y - 1 ≡ y = omega arith in
    row_same (above ∷ row ∷ below ∷ []) rows 0 y (later (omega arith) ∙ ap (λ n. get_or rows n []) e) u
    ∙ ap (λ v. plane_of rows u v) (sym (one_back y))

-- a row of the next plane looks at three rows alone
pub next_of_three : (rows : List (List State)) (above row below : List State) (x y : ℕ) → (y ≡ 0 → above ≡ []) → (0 < y → above ≡ get_or rows (y - 1) []) → row ≡ get_or rows y [] → below ≡ get_or rows (y + 1) [] → next_plane (plane_of (above ∷ row ∷ below ∷ [])) (pos x) (pos 1) ≡ next_plane (plane_of rows) (pos x) (pos y)
next_of_three rows above row below x y first later here under =
    let three = above ∷ row ∷ below ∷ [] in
    let up = row_above above row below rows y first later in
    let mid = row_same three rows 1 y here in
    let down = row_same three rows 2 (y + 1) under in
    next_plane_same (plane_of three) (plane_of rows) (pos x) (pos 1) (pos x) (pos y) (mid (pos x)) (up (pos x -ℤ pos 1)) (up (pos x)) (up (pos x +ℤ pos 1)) (mid (pos x -ℤ pos 1)) (mid (pos x +ℤ pos 1)) (down (pos x -ℤ pos 1)) (down (pos x)) (down (pos x +ℤ pos 1))

-- rows show a plane that is empty where other rows of the same lengths are, if each of their cells is the plane's there
pub rows_show : (q : Plane) (old new : List (List State)) → length new ≡ length old → ((y : ℕ) → y < length old → length (get_or new y []) ≡ length (get_or old y [])) → ((x y : ℤ) → plane_of old x y ≡ Empty → q x y ≡ Empty) → ((y : ℕ) → y < length old → (x : ℕ) → x < length (get_or old y []) → get_or (get_or new y []) x Empty ≡ q (pos x) (pos y)) → plane_of new ≡ q
rows_show q old new many long out each = fun_ext (λ x. fun_ext (λ y. place x y))
  where
    place : (x y : ℤ) → plane_of new x y ≡ q x y
    place (pos x) (pos y) =
        elim (cases_lt y (length old)) [
          | inr off ↦ plane_of_below new x y (omega arith) ∙ sym (out (pos x) (pos y) (plane_of_below old x y off))
          | inl within ↦
              elim (cases_lt x (length (get_or old y []))) [
                | inr off ↦ let e : length (get_or new y []) ≡ length (get_or old y []) = long y within in plane_of_beside new x y (omega arith) ∙ sym (out (pos x) (pos y) (plane_of_beside old x y off))
                | inl inside ↦ each y within x inside
              ]
        ]
    place (pos x) (negsuc y) = sym (out (pos x) (negsuc y) refl)
    place (negsuc x) y = sym (out (negsuc x) y refl)
