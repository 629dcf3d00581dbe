-- One generation of rows of cells in planes of words.
use Rattle.std.proofs.Common.{ℤ, pos, ◌-ℤ◌, ◌+ℤ◌, ℕ, zero, suc, ◌+◌, ◌-◌, ◌/◌, ◌%◌, ◌<◌, ◌≤◌, ◌≡◌, refl, sym, ap, ap₂, subst, ◌∙◌, Bool, true, false, ◌&&◌, ◌||◌, List, length, get_or, map, inl, inr, arith}
use Rattle.std.specs.List.{range_with_len}
use Rattle.std.proofs.lemmas.Bool.{cases_lt, true≢false}
use Rattle.std.proofs.lemmas.Int.{ints}
use Rattle.std.proofs.lemmas.List.{get_or_past}
use Rattle.std.proofs.lemmas.List.FromFn.{get_or-map-range_with_len, length-map-range_with_len}
use Rattle.std.proofs.Math.Nat.{suc-mul}
use Rattle.std.specs.Int.RustNames.{bit_and, bit_or}
use Rattle.lists.specs.Bits.{has_bit}
use Rattle.lists.proofs.WordBits.{and_bit, or_bit}
use Rattle.ww_rule.specs.Wireworld.{Plane, count_head, next_plane}
use Rattle.lane_kernel.specs.Rows.{is_set, plane_of_rows, row_state}
use Rattle.lane_kernel.specs.Words.{before, heads_word, new_heads_of}
use Rattle.lane_kernel.specs.Around.{next_word, wires_of}
use Rattle.lane_kernel.specs.Marked.{AreOn}
use Rattle.lane_kernel.specs.PlaneRows.{place, row_in_plane, stride_of, HasDarkSides, IsEmptyWest, IsNextPlane, PlanesShow, ShowsHeads}
use Rattle.lane_kernel.proofs.Bits.{differ, no_bit, xor_bit}
use Rattle.lane_kernel.proofs.Counting.{count_is}
use Rattle.lane_kernel.proofs.Parts.{same_heads}
use Rattle.lane_kernel.proofs.Places.{Fit, cells_next, everywhere_heads, row_steps}

-- ---- the words of a row

pub length_row : (columns stride : ℕ) (plane : List ℕ) (r : ℕ) → length (row_in_plane columns stride plane r) ≡ columns
length_row columns stride plane r = length-map-range_with_len (λ c. get_or plane (place stride c r) 0) 0 columns

pub row_word : (columns stride : ℕ) (plane : List ℕ) (r c : ℕ) → c < columns → get_or (row_in_plane columns stride plane r) c 0 ≡ get_or plane (place stride c r) 0
row_word columns stride plane r c lt = get_or-map-range_with_len (λ c. get_or plane (place stride c r) 0) 0 columns c c 0 lt (omega arith)

pub row_past : (columns stride : ℕ) (plane : List ℕ) (r c : ℕ) → columns ≤ c → get_or (row_in_plane columns stride plane r) c 0 ≡ 0
row_past columns stride plane r c le = get_or_past (row_in_plane columns stride plane r) c 0 (let l = length_row columns stride plane r in omega (arith, l, le))

pub row_fits : (columns stride : ℕ) (plane : List ℕ) (r : ℕ) → Fit plane → Fit (row_in_plane columns stride plane r)
row_fits columns stride plane r fits c =
    elim (cases_lt c columns) [
      | inl lt ↦ let e = row_word columns stride plane r c lt in let f = fits (place stride c r) in omega (arith, e, f)
      | inr ge ↦ let e = row_past columns stride plane r c ge in omega (arith, e)
    ]

-- the word to the west and the word to the east, with dark word columns beside the plane's own
module _ (columns stride : ℕ) (heads : List ℕ) (dark : HasDarkSides columns stride heads) where
  west_word : (r c : ℕ) → r < stride → c < columns → get_or heads (place stride c r - stride) 0 ≡ before (row_in_plane columns stride heads r) c
  west_word r zero low lt = dark (place stride zero r - stride) (inl (let e = suc-mul 0 stride in omega (arith, low, e)))
  west_word r (suc c) low lt =
      let e : place stride (suc c) r - stride ≡ place stride c r = let m = suc-mul (c + 1) stride in omega (arith, m) in
      ap (λ i. get_or heads i 0) e ∙ sym (row_word columns stride heads r c (omega (arith, lt)))

  east_word : (r c : ℕ) → c < columns → get_or heads (place stride c r + stride) 0 ≡ get_or (row_in_plane columns stride heads r) (c + 1) 0
  east_word r c lt =
      let e : place stride c r + stride ≡ place stride (c + 1) r = let m = suc-mul (c + 1) stride in omega (arith, m) in
      ap (λ i. get_or heads i 0) e
      ∙ elim (cases_lt (c + 1) columns) [
        | inl more ↦ sym (row_word columns stride heads r (c + 1) more)
        | inr past ↦
            let q : c + 1 ≡ columns = omega (arith, lt, past) in
            dark (place stride (c + 1) r) (inr (subst (λ n. place stride n 0 ≤ place stride (c + 1) r) q (omega arith)))
            ∙ sym (row_past columns stride heads r (c + 1) past)
      ]

-- ---- the next heads of a row

module _ (columns rows : ℕ) (heads tails cells new : List ℕ) (dark : HasDarkSides columns (stride_of rows) heads) (next : (i : ℕ) → get_or new i 0 ≡ next_word (stride_of rows) heads tails cells i) where
  abbrev s : ℕ
  s = stride_of rows

  abbrev W : ℕ → List ℕ
  W k = map (λ c. wires_of (get_or cells (place s c (k + 1)) 0) (get_or heads (place s c (k + 1)) 0) (get_or tails (place s c (k + 1)) 0)) (range_with_len 0 columns)

  abbrev H : ℕ → List ℕ
  H r = row_in_plane columns s heads r

  next_in_row : (k c : ℕ) → k < rows → c < columns → get_or (row_in_plane columns s new (k + 1)) c 0 ≡ heads_word (H k) (H (k + 1)) (H (k + 2)) (W k) c
  next_in_row k c low lt =
      let i = place s c (k + 1) in
      let at = λ (j j' : ℕ) (e : j ≡ j'). ap (λ j. get_or heads j 0) e in
      let up : i - 1 ≡ place s c k = omega arith in
      let down : i + 1 ≡ place s c (k + 2) = omega arith in
      let w = get_or-map-range_with_len (λ c. wires_of (get_or cells (place s c (k + 1)) 0) (get_or heads (place s c (k + 1)) 0) (get_or tails (place s c (k + 1)) 0)) 0 columns c c 0 lt (omega arith) in
      row_word columns s new (k + 1) c lt
      ∙ next i
      ∙ same_heads (wires_of (get_or cells i 0) (get_or heads i 0) (get_or tails i 0))
      (at (i - 1 - s) (place s c k - s) (ap (λ j. j - s) up) ∙ west_word columns s heads dark k c (omega (arith, low)) lt)
      (at (i - 1) (place s c k) up ∙ sym (row_word columns s heads k c lt))
      (at (i - 1 + s) (place s c k + s) (ap (λ j. j + s) up) ∙ east_word columns s heads dark k c lt)
      (west_word columns s heads dark (k + 1) c (omega (arith, low)) lt)
      (sym (row_word columns s heads (k + 1) c lt))
      (east_word columns s heads dark (k + 1) c lt)
      (at (i + 1 - s) (place s c (k + 2) - s) (ap (λ j. j - s) down) ∙ west_word columns s heads dark (k + 2) c (omega (arith, low)) lt)
      (at (i + 1) (place s c (k + 2)) down ∙ sym (row_word columns s heads (k + 2) c lt))
      (at (i + 1 + s) (place s c (k + 2) + s) (ap (λ j. j + s) down) ∙ east_word columns s heads dark (k + 2) c lt)
      ∙ ap (new_heads_of (before (H k) c) (get_or (H k) c 0) (get_or (H k) (c + 1) 0) (before (H (k + 1)) c) (get_or (H (k + 1)) c 0) (get_or (H (k + 1)) (c + 1) 0) (before (H (k + 2)) c) (get_or (H (k + 2)) c 0) (get_or (H (k + 2)) (c + 1) 0)) (sym w)

  length_wires : (k : ℕ) → length (W k) ≡ columns
  length_wires k = length-map-range_with_len (λ c. wires_of (get_or cells (place s c (k + 1)) 0) (get_or heads (place s c (k + 1)) 0) (get_or tails (place s c (k + 1)) 0)) 0 columns

  pub next_row : (k : ℕ) → k < rows → (j : ℕ) → get_or (row_in_plane columns s new (k + 1)) j 0 ≡ heads_word (H k) (H (k + 1)) (H (k + 2)) (W k) j
  next_row k low =
      let h = length_row columns s heads (k + 1) in
      everywhere_heads (H k) (H (k + 1)) (H (k + 2)) (W k) (row_in_plane columns s new (k + 1)) (length_wires k ∙ sym h) (length_row columns s new (k + 1) ∙ sym h) (λ j lt. next_in_row k j low (omega (arith, lt, h)))

  -- the bits of the wires, by those of the planes
  wire_bit : (k x : ℕ) → is_set (W k) x ≡ differ (is_set (row_in_plane columns s cells (k + 1)) x) (is_set (row_in_plane columns s cells (k + 1)) x && (is_set (H (k + 1)) x || is_set (row_in_plane columns s tails (k + 1)) x))
  wire_bit k x =
      let j = x / 64 in
      let i = x % 64 in
      let c = get_or (row_in_plane columns s cells (k + 1)) j 0 in
      let h = get_or (H (k + 1)) j 0 in
      let t = get_or (row_in_plane columns s tails (k + 1)) j 0 in
      let word : get_or (W k) j 0 ≡ wires_of c h t =
      elim (cases_lt j columns) [
        | inl lt ↦
            get_or-map-range_with_len (λ c. wires_of (get_or cells (place s c (k + 1)) 0) (get_or heads (place s c (k + 1)) 0) (get_or tails (place s c (k + 1)) 0)) 0 columns j j 0 lt (omega arith)
            ∙ sym (ap₂ (λ f t. f t) (ap₂ wires_of (row_word columns s cells (k + 1) j lt) (row_word columns s heads (k + 1) j lt)) (row_word columns s tails (k + 1) j lt))
        | inr ge ↦
            get_or_past (W k) j 0 (let l = length_wires k in omega (arith, l, ge))
            ∙ sym (ap (λ c. wires_of c h t) (row_past columns s cells (k + 1) j ge))
      ] in
      ap (λ w. has_bit w i) word
      ∙ xor_bit c (bit_and c (bit_or h t)) i
      ∙ ap (differ (has_bit c i)) (and_bit c (bit_or h t) i ∙ ap (λ p. has_bit c i && p) (or_bit h t i))

  tail_on_cell : AreOn cells tails → (k x : ℕ) → is_set (row_in_plane columns s tails (k + 1)) x ≡ true → is_set (row_in_plane columns s cells (k + 1)) x ≡ true
  tail_on_cell on k x set =
      let j = x / 64 in
      let i = x % 64 in
      elim (cases_lt j columns) [
        | inl lt ↦
            let c = get_or cells (place s j (k + 1)) 0 in
            let t = get_or tails (place s j (k + 1)) 0 in
            let ct = row_word columns s cells (k + 1) j lt in
            let tt' = row_word columns s tails (k + 1) j lt in
            let both : (has_bit c i && has_bit t i) ≡ has_bit t i = sym (and_bit c t i) ∙ ap (λ w. has_bit w i) (on (place s j (k + 1))) in
            let bit : has_bit t i ≡ true = sym (ap (λ w. has_bit w i) tt') ∙ set in
            ap (λ w. has_bit w i) ct ∙ first_of_both (has_bit c i) (has_bit t i) both bit
        | inr ge ↦ absurd (true≢false (sym set ∙ ap (λ w. has_bit w i) (row_past columns s tails (k + 1) j ge) ∙ no_bit i))
      ]
    where
      first_of_both : (c t : Bool) → (c && t) ≡ t → t ≡ true → c ≡ true
      first_of_both true t e set = refl
      first_of_both false t e set = e ∙ set

  pub cells_in_row : Fit heads → AreOn cells tails → (k : ℕ) → k < rows → (x : ℕ)
      → row_state (row_in_plane columns s new (k + 1)) (H (k + 1)) (row_in_plane columns s cells (k + 1)) x
      ≡ next_plane (plane_of_rows (H k) (H (k + 1)) (H (k + 2)) (row_in_plane columns s tails (k + 1)) (row_in_plane columns s cells (k + 1))) (pos x) (pos 1)
  cells_in_row fits on k low x =
      cells_next (H k) (H (k + 1)) (H (k + 2)) (row_in_plane columns s tails (k + 1)) (row_in_plane columns s cells (k + 1)) (W k) (row_in_plane columns s new (k + 1))
      (row_fits columns s heads k fits) (row_fits columns s heads (k + 1) fits) (row_fits columns s heads (k + 2) fits)
      (next_row k low) (wire_bit k) (tail_on_cell on k) x

  -- rows between two others that show a plane show the next one
  planes_step : Fit heads → AreOn cells tails → (p : Plane) (y : ℤ) → IsEmptyWest p
      → ShowsHeads (H 0) p (y -ℤ pos 1) → PlanesShow columns rows s heads tails cells p y → ShowsHeads (H (rows + 1)) p (y +ℤ pos rows)
      → PlanesShow columns rows s new heads cells (next_plane p) y
  planes_step fits on p y bare over shown under k x low =
      row_steps (H k) (H (k + 1)) (H (k + 2)) (row_in_plane columns s tails (k + 1)) (row_in_plane columns s cells (k + 1)) (row_in_plane columns s new (k + 1)) (H (k + 1)) (row_in_plane columns s cells (k + 1))
      p (y +ℤ pos k) bare (above k low) (λ x. shown k x low) (below k low) (cells_in_row fits on k low) x
    where
      heads_in : (k : ℕ) → k < rows → ShowsHeads (H (k + 1)) p (y +ℤ pos k)
      heads_in k low x = count_is (is_set (H (k + 1)) x) false false ∙ sym (count_is (is_set (H (k + 1)) x) (is_set (row_in_plane columns s tails (k + 1)) x) (is_set (row_in_plane columns s cells (k + 1)) x)) ∙ ap count_head (shown k x low)

      above : (k : ℕ) → k < rows → ShowsHeads (H k) p ((y +ℤ pos k) -ℤ pos 1)
      above zero low = let e : y -ℤ pos 1 ≡ (y +ℤ pos 0) -ℤ pos 1 = omega (arith, ints) in subst (ShowsHeads (H 0) p) e over
      above (suc k) low =
          let e : y +ℤ pos k ≡ (y +ℤ pos (suc k)) -ℤ pos 1 = omega (arith, ints) in
          let q : k + 1 ≡ suc k = omega arith in
          subst (λ r. ShowsHeads (H r) p ((y +ℤ pos (suc k)) -ℤ pos 1)) q (subst (ShowsHeads (H (k + 1)) p) e (heads_in k (omega (arith, low))))

      below : (k : ℕ) → k < rows → ShowsHeads (H (k + 2)) p ((y +ℤ pos k) +ℤ pos 1)
      below k low =
          elim (cases_lt (k + 1) rows) [
            | inl more ↦
                let e : y +ℤ pos (k + 1) ≡ (y +ℤ pos k) +ℤ pos 1 = omega (arith, ints) in
                let q : k + 1 + 1 ≡ k + 2 = omega arith in
                subst (λ r. ShowsHeads (H r) p ((y +ℤ pos k) +ℤ pos 1)) q (subst (ShowsHeads (H (k + 1 + 1)) p) e (heads_in (k + 1) more))
            | inr last ↦
                let n : rows ≡ k + 1 = omega (arith, low, last) in
                let e : y +ℤ pos rows ≡ (y +ℤ pos k) +ℤ pos 1 = omega (arith, ints, n) in
                let q : rows + 1 ≡ k + 2 = omega (arith, n) in
                subst (λ r. ShowsHeads (H r) p ((y +ℤ pos k) +ℤ pos 1)) q (subst (ShowsHeads (H (rows + 1)) p) e under)
          ]

-- words that are the next ones, one by one, are the next plane
module _ (columns rows : ℕ) (heads tails cells new : List ℕ) (fits : Fit heads) (on : AreOn cells tails) (p : Plane) (y : ℤ) (bare : IsEmptyWest p) where
  abbrev Steps : ℕ → Type 0
  Steps s =
      ((i : ℕ) → get_or new i 0 ≡ next_word s heads tails cells i) → HasDarkSides columns s heads
      → ShowsHeads (row_in_plane columns s heads 0) p (y -ℤ pos 1) → PlanesShow columns rows s heads tails cells p y → ShowsHeads (row_in_plane columns s heads (rows + 1)) p (y +ℤ pos rows)
      → PlanesShow columns rows s new heads cells (next_plane p) y

  steps_at : (s : ℕ) → s ≡ stride_of rows → Steps s
  steps_at s e = subst Steps (sym e) (λ next dark over shown under. planes_step columns rows heads tails cells new dark next fits on p y bare over shown under)

pub is_next_plane : (stride : ℕ) (heads tails cells new : List ℕ) → Fit heads → AreOn cells tails → ((i : ℕ) → get_or new i 0 ≡ next_word stride heads tails cells i) → IsNextPlane stride heads tails cells new
is_next_plane stride heads tails cells new fits on next columns rows p y e bare dark over shown under =
    steps_at columns rows heads tails cells new fits on p y bare stride e next dark over shown under
