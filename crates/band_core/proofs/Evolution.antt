-- The driven evolution of a pattern, in its box.
use Rattle.ww_rule.specs.Due.{AreInOrderFrom}
use Rattle.std.proofs.Common.{ℤ, pos, negsuc, ◌+ℤ◌, ℕ, suc, ◌+◌, ◌-◌, ◌*◌, ◌/◌, ◌%◌, min, ◌<◌, ◌≤◌, ◌≡◌, refl, sym, ap, ap₂, subst, ◌∙◌, inl, inr, Bool, true, false, ◌&&◌, ◌||◌, ◌==◌, nat_lt, cond, List, [], ◌∷◌, length, get_or, filter, All, arith}
use Rattle.std.specs.Ordering.{int_eq}
use Rattle.std.proofs.lemmas.Bool.{cases_Bool, cases_lt, and_cases, ltb-false, lt-ltb, true≢false, eqb-true, eqb-false, and_right}
use Rattle.std.proofs.lemmas.Bool.Decides.{Decides-int_eq}
use Rattle.std.proofs.lemmas.Int.{ints}
use Rattle.std.proofs.lemmas.Nat.{div-mul-add}
use Rattle.std.proofs.lemmas.List.Elements.{All-contains, All-head, All-tail, All-nil, All-cons}
use Rattle.ww_rule.specs.declared.pattern.State.{State}
use Rattle.ww_rule.specs.declared.pattern.Injection.{Injection}
use Rattle.ww_rule.specs.Wireworld.{next_plane, injected, driven}
use Rattle.ww_rule.specs.Grid.{IsGrid, IsEmptyOutside, in_box, plane_of}
use Rattle.ww_rule.specs.Injections.{due_of_list, AreInside}
use Rattle.ww_rule.proofs.Boxes.{plane_of_beside, plane_of_below, driven_outside}
use Rattle.ww_rule.proofs.Finite.{due_of_cons}
use Rattle.ww_rule.proofs.Lists.{lists_are_injected}
use Rattle.ww_rule.proofs.RowLemmas.{in_rows}
use Rattle.band_core.specs.Bands.{bands_in}
use Rattle.band_core.specs.Band.{AreInRows, IsEvolution}
use Rattle.ww_rule.proofs.Due.{from_earlier}
use Rattle.std.proofs.Math.Nat.{mul-le-mul_right, mul_comm, suc-mul}
use Rattle.std.proofs.Math.Bool.{and-false}

-- the box of the rows that are there
rows_outside : (width height : ℕ) (rows : List (List State)) → IsGrid width height rows → IsEmptyOutside width (length rows) (plane_of rows)
rows_outside width height rows grid (pos x) (pos y) out =
    elim (cases_lt y (length rows)) [
      | inr ge ↦ plane_of_below rows x y ge
      | inl lt ↦
          elim (and_cases (nat_lt x width) (nat_lt y (length rows)) out) [
            | inl e ↦ let n : length (get_or rows y []) ≡ width = grid.long y [] lt in let b : width ≤ x = ltb-false x width e in plane_of_beside rows x y (omega arith)
            | inr e ↦ let b : length rows ≤ y = ltb-false y (length rows) e in plane_of_below rows x y b
          ]
    ]
rows_outside width height rows grid (pos x) (negsuc y) out = refl
rows_outside width height rows grid (negsuc x) y out = refl

pub due_outside : (width height : ℕ) (rows : List (List State)) (injections : List Injection) → IsGrid width height rows → AreInside width height injections → (g : ℕ) (x y : ℤ) → in_box width (length rows) x y ≡ false → due_of_list injections g x y ≡ false
due_outside width height rows injections grid inside g x y out =
    elim (cases_Bool (due_of_list injections g x y)) [
      | inr e ↦ e
      | inl e ↦
          let is = (lists_are_injected.exactly injections g x y).0 e in
          let fits = All-contains (λ (i : Injection). (i.x < width) × (i.y < height)) injections is.injection inside is.is_in in
          let row = in_rows width height is.injection.x is.injection.y rows grid fits.0 fits.1 in
          let here : in_box width (length rows) (pos is.injection.x) (pos is.injection.y) ≡ true = ap₂ (λ a b. a && b) (lt-ltb is.injection.x width fits.0) (lt-ltb is.injection.y (length rows) row) in
          absurd (true≢false (sym here ∙ ap₂ (in_box width (length rows)) is.column is.row ∙ out))
    ]

pub evolution : (width height : ℕ) (rows : List (List State)) (injections : List Injection) → IsGrid width height rows → AreInside width height injections → IsEvolution (driven (due_of_list injections) (plane_of rows)) (due_of_list injections) width (length rows)
evolution width height rows injections grid inside =
    let due = due_of_list injections in
    record {
      next = λ g. let s : g + 1 ≡ suc g = omega arith in subst (λ n. driven due (plane_of rows) n ≡ injected (due n) (next_plane (driven due (plane_of rows) g))) (sym s) refl;
      empty = driven_outside width (length rows) due (plane_of rows) (rows_outside width height rows grid) (due_outside width height rows injections grid inside);
    }

-- ---- the injections of a band

pub share_due : (injections : List Injection) (height b g x k : ℕ) → k < height → due_of_list (filter (λ i. i.y / height == b) injections) g (pos x) (pos (b * height) +ℤ pos k) ≡ due_of_list injections g (pos x) (pos (b * height) +ℤ pos k)
share_due [] height b g x k lt = refl
share_due (i ∷ later) height b g x k lt = go (i.y / height == b) refl (share_due later height b g x k lt)
  where
    go : (t : Bool) → (i.y / height == b) ≡ t → due_of_list (filter (λ i. i.y / height == b) later) g (pos x) (pos (b * height) +ℤ pos k) ≡ due_of_list later g (pos x) (pos (b * height) +ℤ pos k) → due_of_list (cond t (i ∷ filter (λ i. i.y / height == b) later) (filter (λ i. i.y / height == b) later)) g (pos x) (pos (b * height) +ℤ pos k) ≡ due_of_list (i ∷ later) g (pos x) (pos (b * height) +ℤ pos k)
    go true e ih =
        due_of_cons i (filter (λ i. i.y / height == b) later) g (pos x) (pos (b * height) +ℤ pos k)
        ∙ ap (λ t. (i.generation == g && (int_eq (pos i.x) (pos x) && int_eq (pos i.y) (pos (b * height) +ℤ pos k))) || t) ih
        ∙ sym (due_of_cons i later g (pos x) (pos (b * height) +ℤ pos k))
    go false e ih =
        let other : int_eq (pos i.y) (pos (b * height) +ℤ pos k) ≡ false =
        elim (cases_Bool (int_eq (pos i.y) (pos (b * height) +ℤ pos k))) [
          | inr f ↦ f
          | inl f ↦
              let q = (Decides-int_eq (pos i.y) (pos (b * height) +ℤ pos k)).0 f in
              let r : i.y ≡ b * height + k = omega (arith, ints, q) in
              absurd (eqb-false (i.y / height) b e (ap (λ n. n / height) r ∙ div-mul-add b height k lt))
        ] in
        ih
        ∙ ap (λ t. t || due_of_list later g (pos x) (pos (b * height) +ℤ pos k)) (sym (and_right (i.generation == g) _ (and-false (int_eq (pos i.x) (pos x)))))
        ∙ ap (λ t. (i.generation == g && (int_eq (pos i.x) (pos x) && t)) || due_of_list later g (pos x) (pos (b * height) +ℤ pos k)) (sym other)
        ∙ sym (due_of_cons i later g (pos x) (pos (b * height) +ℤ pos k))

pub share_in_order : (p : Injection → Bool) (g : ℕ) (injections : List Injection) → AreInOrderFrom g injections → AreInOrderFrom g (filter p injections)
share_in_order p g [] order = tt
share_in_order p g (i ∷ later) order = go (p i) (share_in_order p i.generation later order.1)
  where
    go : (t : Bool) → AreInOrderFrom i.generation (filter p later) → AreInOrderFrom g (cond t (i ∷ filter p later) (filter p later))
    go true rest = (order.0, rest)
    go false rest = from_earlier g i.generation (filter p later) order.0 rest

-- the band of a row
pub in_bands : (b height y rows : ℕ) → 0 < height → b * height ≤ y → y < rows → b < bands_in rows height
in_bands b height y rows some from lt =
    elim (cases_lt b (bands_in rows height)) [
      | inl l ↦ l
      | inr ge ↦
          let n = rows + (height - 1) in
          let r : n % height < height = omega (arith, some) in
          let parts : height * (n / height) + n % height ≡ n = omega (arith, some) in
          let turned = mul_comm height (n / height) in
          let most = mul-le-mul_right height ge in
          absurd (omega (arith, r, parts, turned, most, from, lt, some))
    ]

pub share_inside : (words total height b : ℕ) (injections : List Injection) → 0 < height → AreInRows words 0 total injections → AreInRows words (b * height) (min height (total - b * height)) (filter (λ i. i.y / height == b) injections)
share_inside words total height b [] some inside = All-nil (λ (i : Injection). (b * height ≤ i.y) × (i.y < b * height + min height (total - b * height)) × (i.x / 64 < words))
share_inside words total height b (i ∷ later) some inside = go (i.y / height == b) refl (share_inside words total height b later some (All-tail (λ (i : Injection). (0 ≤ i.y) × (i.y < 0 + total) × (i.x / 64 < words)) i later inside))
  where
    go : (t : Bool) → (i.y / height == b) ≡ t → AreInRows words (b * height) (min height (total - b * height)) (filter (λ i. i.y / height == b) later) → AreInRows words (b * height) (min height (total - b * height)) (cond t (i ∷ filter (λ i. i.y / height == b) later) (filter (λ i. i.y / height == b) later))
    go true e rest =
        let mine = All-head (λ (i : Injection). (0 ≤ i.y) × (i.y < 0 + total) × (i.x / 64 < words)) i later inside in
        let q : i.y / height ≡ b = eqb-true (i.y / height) b e in
        let r : i.y % height < height = omega (arith, some) in
        let parts : height * (i.y / height) + i.y % height ≡ i.y = omega (arith, some) in
        let turned : height * (i.y / height) ≡ b * height = mul_comm height (i.y / height) ∙ ap (λ k. k * height) q in
        let lt = mine.1 in
        All-cons (λ (i : Injection). (b * height ≤ i.y) × (i.y < b * height + min height (total - b * height)) × (i.x / 64 < words)) i (filter (λ i. i.y / height == b) later)
        (omega (arith, r, parts, turned), omega (arith, r, parts, turned, lt), mine.2) rest
    go false e rest = rest

pub starts : (b height rows : ℕ) → 0 < height → b < bands_in rows height → b * height < rows
starts b height rows some lt =
    let n = rows + (height - 1) in
    let parts : height * (n / height) + n % height ≡ n = omega (arith, some) in
    let turned = mul_comm height (n / height) in
    let least : (b + 1) * height ≤ n / height * height = mul-le-mul_right height (let l : b + 1 ≤ n / height = omega (arith, lt) in l) in
    let m = (let s : b + 1 ≡ suc b = omega arith in ap (λ n. n * height) s ∙ suc-mul b height) in
    omega (arith, parts, turned, least, m, some)

pub drive_in_rows : (width height words : ℕ) (rows : List (List State)) (injections : List Injection) → IsGrid width height rows → All (λ row. length row ≤ 64 * words) rows → AreInside width height injections → AreInRows words 0 (length rows) injections
drive_in_rows width height words rows injections grid long inside k d lt =
    let i = get_or injections k d in
    let fits = inside k d lt in
    let x = fits.0 in
    let row = in_rows width height i.x i.y rows grid fits.0 fits.1 in
    let wide : length (get_or rows i.y []) ≡ width = grid.long i.y [] row in
    let most = long i.y [] row in
    (omega arith, omega (arith, row), omega (arith, x, wide, most))
