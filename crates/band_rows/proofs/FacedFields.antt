-- A field between rows of heads.
use Rattle.std.proofs.Common.{ℤ, pos, ◌-ℤ◌, ◌+ℤ◌, ℕ, ◌+◌, ◌-◌, ◌*◌, ◌/◌, ◌%◌, ◌<◌, ◌≤◌, ◌≡◌, refl, sym, ap, ap₂, subst, ◌∙◌, inl, inr, List, length, get_or, slice_set, arith}
use Rattle.std.specs.Prelude.{◌≢◌, ◌⊎◌}
use Rattle.std.specs.Int.RustNames.{bit_and}
use Rattle.std.proofs.lemmas.Bool.{cases_eq, cases_lt}
use Rattle.std.proofs.lemmas.List.{get_or-set_same, get_or-set_other, get_or_past}
use Rattle.std.proofs.lemmas.Nat.{and_comm}
use Rattle.std.proofs.Math.Nat.{suc-mul, mul-le-mul_right}
use Rattle.lists.specs.Bits.{has_bit}
use Rattle.ww_rule.specs.Wireworld.{Plane, next_plane}
use Rattle.lane_kernel.specs.Rows.{row_state, state_of}
use Rattle.lane_kernel.specs.declared.free_cells.Free.{Free}
use Rattle.lane_kernel.specs.Around.{beside, free_of, near_heads, IsInner}
use Rattle.lane_kernel.specs.Marked.{AreMore, AreOn, AreTold, IsMarked, IsTold, opposite}
use Rattle.lane_kernel.specs.PlaneRows.{place, row_in_plane, HasDarkSides, IsEmptyWest, ShowsHeads}
use Rattle.lane_kernel.proofs.PlaneRows.{row_past, row_word}
use Rattle.lane_kernel.proofs.Ways.{there_and_back, back_again}
use Rattle.band_rows.specs.declared.field.Field.{Field}
use Rattle.band_rows.specs.RowsPut.{HasRowPut}
use Rattle.band_rows.specs.Fields.{field_heads, field_state, field_tails, AreOfOneSize, HasForgotten, HasSteppedBetween, HasTaken, IsBesideRows, IsClosedField, IsFieldStepped, ShowsField}
use Rattle.lane_kernel.proofs.Places.{heads_of_row}
use Rattle.band_rows.proofs.Bands.{words_show}
use Rattle.band_rows.proofs.ClosedFields.{dark_margin, dark_sides, same_row_words, stepped_on}
use Rattle.band_rows.proofs.GoneOn.{same_size}
use Rattle.band_rows.proofs.PlaceCells.{same_place}

-- ---- a row of words that is put into a plane, word by word

pub put_none : (s r : ℕ) (words : ℕ → ℕ) (old : List ℕ) → HasRowPut s r 0 words old old
put_none s r words old = record { at = λ c lt. absurd (omega (arith, lt)); other = λ i out. refl }

pub put_more : (s r n w : ℕ) (words : ℕ → ℕ) (old new : List ℕ) → r < s → place s n r < length new → w ≡ words n → HasRowPut s r n words old new → HasRowPut s r (n + 1) words old (slice_set new (place s n r) w)
put_more s r n w words old new low within is put =
    record {
      at = λ c lt.
          elim (cases_eq c n) [
            | inl e ↦
                ap (λ c. get_or (slice_set new (place s n r) w) (place s c r) 0) e
                ∙ get_or-set_same new (place s n r) w 0 within ∙ is ∙ sym (ap words e)
            | inr ne ↦
                get_or-set_other new (place s n r) (place s c r) w 0 (λ same. ne ((same_place s c r n r low low same).0))
                ∙ put.at c (omega (arith, lt, ne))
          ];
      other = λ i out.
          get_or-set_other new (place s n r) i w 0 (out n (omega arith))
          ∙ put.other i (λ c lt. out c (omega (arith, lt)));
    }

pub inner_at : (columns s c r many : ℕ) → c < columns → r < s → many ≡ (columns + 2) * s + 2 → IsInner s many (place s c r)
inner_at columns s c r many west low size =
    let m = suc-mul c s in
    let m1 = suc-mul (c + 1) s in
    let m2 = suc-mul (c + 2) s in
    let le : c + 3 ≤ columns + 2 = omega (arith, west) in
    let most = mul-le-mul_right s le in
    let third : (c + 3) * s ≡ (c + 2) * s + s = omega (arith, m2) in
    let second : (c + 2) * s ≡ (c + 1) * s + s = omega (arith, m1) in
    let first : (c + 1) * s ≡ c * s + s = omega (arith, m) in
    record { from = omega (arith, first); to = omega (arith, most, third, second, low, size) }

pub beside_low : (rows s r : ℕ) → s ≡ rows + 2 → IsBesideRows rows r → r < s
beside_low rows s r tall beside = elim beside [ inl e ↦ omega (arith, e, tall) | inr e ↦ omega (arith, e, tall) ]

pub beside_apart : (rows r : ℕ) → IsBesideRows rows r → (k : ℕ) → k < rows → r ≢ k + 1
beside_apart rows r beside k low same = elim beside [ inl e ↦ omega (arith, e, same) | inr e ↦ omega (arith, e, same, low) ]

-- ---- the marks after heads were put into a word without cells

module _ (free : Free) (heads bytes : List ℕ) (i h : ℕ) (new : List ℕ) (within : i < length heads)
    (none : get_or free.cells.now i 0 ≡ 0) (was : IsMarked free.stride heads free.tails.now free.cells.now bytes) (more : AreMore bytes new)
    (told : AreTold free h i new) where
  abbrev stride : ℕ
  stride = free.stride

  abbrev tails : List ℕ
  tails = free.tails.now

  abbrev cells : List ℕ
  cells = free.cells.now

  abbrev H : List ℕ
  H = slice_set heads i h

  pub taken_marked : IsMarked stride H tails cells new
  taken_marked =
      record {
        dark = λ j zero.
            let m = more j in
            elim (cases_eq j i) [
              | inl e ↦ inl (ap (λ j. get_or cells j 0) e ∙ none)
              | inr ne ↦
                  elim (was.dark j (omega (arith, m, zero))) [
                    | inl empty ↦ inl empty
                    | inr d ↦ inr (get_or-set_other heads i j h 0 ne ∙ d.0, d.1)
                  ]
            ];
        calm = λ j low way.
            let m = more j in
            let s = beside stride way j in
            let t = get_or tails j 0 in
            elim (cases_eq s i) [
              | inr away ↦
                  ap (λ w. bit_and (near_heads way w) (free_of (get_or cells j 0) t)) (get_or-set_other heads i s h 0 away)
                  ∙ was.calm j (omega (arith, m, low)) way
              | inl e ↦
                  elim (cases_eq (get_or cells j 0) 0) [
                    | inl empty ↦ ap (λ w. bit_and (near_heads way (get_or H s 0)) (free_of w t)) empty ∙ and_comm _ 0
                    | inr some ↦
                        let back : beside stride (opposite way) i ≡ j = sym (ap (beside stride (opposite way)) e) ∙ there_and_back stride (length cells) way j (free.framed j some) in
                        let at : IsTold (near_heads (opposite (opposite way)) h) tails cells new j = subst (IsTold (near_heads (opposite (opposite way)) h) tails cells new) back (told (opposite way)) in
                        elim at [
                          | inl two ↦ absurd (omega (arith, low, two))
                          | inr clear ↦
                              ap (λ w. bit_and (near_heads way w) (free_of (get_or cells j 0) t)) (ap (λ s. get_or H s 0) e ∙ get_or-set_same heads i h 0 within)
                              ∙ ap (λ w. bit_and (near_heads w h) (free_of (get_or cells j 0) t)) (sym (back_again way))
                              ∙ clear
                        ]
                  ]
            ];
      }

-- ---- fields that differ beside their rows alone

pub same_words_state : (h t c h' t' c' : List ℕ) (x : ℕ) → ((j : ℕ) → get_or h' j 0 ≡ get_or h j 0) → ((j : ℕ) → get_or t' j 0 ≡ get_or t j 0) → ((j : ℕ) → get_or c' j 0 ≡ get_or c j 0) → row_state h' t' c' x ≡ row_state h t c x
same_words_state h t c h' t' c' x p q r =
    let f = λ (w : ℕ). has_bit w (x % 64) in
    ap₂ (λ a b. state_of (f a) (f b) (f (get_or c' (x / 64) 0))) (p (x / 64)) (q (x / 64))
    ∙ ap (λ a. state_of (f (get_or h (x / 64) 0)) (f (get_or t (x / 64) 0)) (f a)) (r (x / 64))

-- the words of the rows are those of the other field
abbrev pub AreSameInRows : Field → List ℕ → List ℕ → Type 0
AreSameInRows field a b = (c k : ℕ) → c < field.columns → k < field.rows → get_or b (place field.stride c (k + 1)) 0 ≡ get_or a (place field.stride c (k + 1)) 0

pub same_states : (old new : Field) → AreOfOneSize old new → AreSameInRows old old.heads.items new.heads.items → AreSameInRows old old.tails.items new.tails.items → new.cells.items ≡ old.cells.items
    → (x k : ℕ) → k < old.rows → field_state new x k ≡ field_state old x k
same_states old new size heads tails cells x k low =
    let f = λ (columns stride : ℕ). row_state (row_in_plane columns stride new.heads.items (k + 1)) (row_in_plane columns stride new.tails.items (k + 1)) (row_in_plane columns stride new.cells.items (k + 1)) x in
    ap₂ f size.columns size.stride
    ∙ same_words_state (field_heads old (k + 1)) (field_tails old (k + 1)) (row_in_plane old.columns old.stride old.cells.items (k + 1)) _ _ _ x
    (same_row_words old.columns old.stride new.heads.items old.heads.items (k + 1) (λ c lt. heads c k lt low))
    (same_row_words old.columns old.stride new.tails.items old.tails.items (k + 1) (λ c lt. tails c k lt low))
    (λ j. ap (λ l. get_or (row_in_plane old.columns old.stride l (k + 1)) j 0) cells)

-- ---- one generation between two rows

module _ (above below : List ℕ) (na nb : ℕ) (old one two three four five : Field) (closed : IsClosedField old)
    (long_above : length above ≡ na) (long_below : length below ≡ nb) (narrow_above : na ≤ old.columns) (narrow_below : nb ≤ old.columns)
    (first : HasTaken above 0 old one) (second : HasTaken below (old.rows + 1) one two) (stepped : IsFieldStepped two three)
    (third : HasForgotten na 0 three four) (last : HasForgotten nb (old.rows + 1) four five) where
  abbrev s : ℕ
  s = old.stride

  tall : s ≡ old.rows + 2
  tall = closed.is.stride

  to_two : AreOfOneSize old two
  to_two = same_size first.size second.size

  to_three : AreOfOneSize old three
  to_three = same_size to_two stepped.size

  to_four : AreOfOneSize old four
  to_four = same_size to_three third.size

  to_five : AreOfOneSize old five
  to_five = same_size to_four last.size

  cells_two : two.cells.items ≡ old.cells.items
  cells_two = second.cells ∙ first.cells

  cells_five : five.cells.items ≡ old.cells.items
  cells_five = last.cells ∙ third.cells ∙ stepped.cells ∙ cells_two

  -- what was put, by the places of the first field
  above_put : HasRowPut s 0 na (λ c. get_or above c 0) old.heads.items one.heads.items
  above_put = subst (λ n. HasRowPut s 0 n (λ c. get_or above c 0) old.heads.items one.heads.items) long_above first.heads

  below_put : HasRowPut s (old.rows + 1) nb (λ c. get_or below c 0) one.heads.items two.heads.items
  below_put = subst (λ n. HasRowPut s (old.rows + 1) n (λ c. get_or below c 0) one.heads.items two.heads.items) long_below
      (subst (λ s. HasRowPut s (old.rows + 1) (length below) (λ c. get_or below c 0) one.heads.items two.heads.items) first.size.stride second.heads)

  above_gone : HasRowPut s 0 na (λ c. 0) three.tails.items four.tails.items
  above_gone = subst (λ s. HasRowPut s 0 na (λ c. 0) three.tails.items four.tails.items) to_three.stride third.tails

  below_gone : HasRowPut s (old.rows + 1) nb (λ c. 0) four.tails.items five.tails.items
  below_gone = subst (λ s. HasRowPut s (old.rows + 1) nb (λ c. 0) four.tails.items five.tails.items) to_four.stride last.tails

  -- places of rows, and those beside them
  apart_above : (c r c' : ℕ) → 0 < r → r < s → place s c r ≢ place s c' 0
  apart_above c r c' some low same = let e = (same_place s c r c' 0 low (let t = tall in omega (arith, t)) same).1 in omega (arith, e, some)

  apart_below : (c r c' : ℕ) → r < old.rows + 1 → place s c r ≢ place s c' (old.rows + 1)
  apart_below c r c' low same = let t = tall in let e = (same_place s c r c' (old.rows + 1) (omega (arith, low, t)) (omega (arith, t)) same).1 in omega (arith, e, low)

  abbrev IsOff : ℕ → Type 0
  IsOff i = ((c : ℕ) → c < na → i ≢ place s c 0) × ((c : ℕ) → c < nb → i ≢ place s c (old.rows + 1))

  off_row : (c k : ℕ) → k < old.rows → IsOff (place s c (k + 1))
  off_row c k low =
      let t = tall in
      (λ c' lt. apart_above c (k + 1) c' (omega arith) (omega (arith, low, t)), λ c' lt. apart_below c (k + 1) c' (omega (arith, low)))

  heads_kept : (i : ℕ) → IsOff i → get_or two.heads.items i 0 ≡ get_or old.heads.items i 0
  heads_kept i off = below_put.other i off.1 ∙ above_put.other i off.0

  tails_kept : (i : ℕ) → IsOff i → get_or five.tails.items i 0 ≡ get_or old.heads.items i 0
  tails_kept i off = below_gone.other i off.1 ∙ above_gone.other i off.0 ∙ ap (λ l. get_or l i 0) stepped.tails ∙ heads_kept i off

  -- the rows before the step
  same_two : (x k : ℕ) → k < old.rows → field_state two x k ≡ field_state old x k
  same_two = same_states old two to_two (λ c k lt low. heads_kept (place s c (k + 1)) (off_row c k low)) (λ c k lt low. ap (λ l. get_or l (place s c (k + 1)) 0) (second.tails ∙ first.tails)) cells_two

  dark_two : HasDarkSides two.columns two.stride two.heads.items
  dark_two =
      subst (λ c. HasDarkSides c two.stride two.heads.items) (sym to_two.columns) (subst (λ s. HasDarkSides old.columns s two.heads.items) (sym to_two.stride)
      (λ i side. heads_kept i (off_side i side) ∙ dark_sides old closed i side))
    where
      not_side : (c r i : ℕ) → c < old.columns → r < s → i ≡ place s c r → (i < s + 1) ⊎ (place s old.columns 0 ≤ i) → ⊥
      not_side c r i west low same side =
          let m = suc-mul c s in
          let m1 = suc-mul (c + 1) s in
          let le : c + 2 ≤ old.columns + 1 = omega (arith, west) in
          let most = mul-le-mul_right s le in
          let next : (c + 2) * s ≡ (c + 1) * s + s = omega (arith, m1) in
          let this : (c + 1) * s ≡ c * s + s = omega (arith, m) in
          elim side [
            | inl lt ↦ omega (arith, lt, same, this)
            | inr ge ↦ omega (arith, ge, same, most, next, low)
          ]

      off_side : (i : ℕ) → (i < s + 1) ⊎ (place s old.columns 0 ≤ i) → IsOff i
      off_side i side =
          let t = tall in (
            λ c lt same. not_side c 0 i (omega (arith, lt, narrow_above)) (omega (arith, t)) same side,
            λ c lt same. not_side c (old.rows + 1) i (omega (arith, lt, narrow_below)) (omega (arith, t)) same side,
          )

  -- the rows beside, before the step
  row_above : (j : ℕ) → get_or (row_in_plane old.columns s two.heads.items 0) j 0 ≡ get_or above j 0
  row_above j =
      let t = tall in
      elim (cases_lt j na) [
        | inl lt ↦
            row_word old.columns s two.heads.items 0 j (omega (arith, lt, narrow_above))
            ∙ below_put.other (place s j 0) (λ c lt'. apart_below j 0 c (omega arith))
            ∙ above_put.at j lt
        | inr ge ↦
            elim (cases_lt j old.columns) [
              | inr past ↦ row_past old.columns s two.heads.items 0 j past
              | inl within ↦
                  row_word old.columns s two.heads.items 0 j within
                  ∙ heads_kept (place s j 0) (λ c lt same. let e = (same_place s j 0 c 0 (omega (arith, t)) (omega (arith, t)) same).0 in omega (arith, e, lt, ge), λ c lt. apart_below j 0 c (omega arith))
                  ∙ dark_margin old closed j 0 (omega (arith, t)) (λ k low same. omega (arith, same))
            ]
            ∙ sym (get_or_past above j 0 (omega (arith, ge, long_above)))
      ]

  row_below : (j : ℕ) → get_or (row_in_plane old.columns s two.heads.items (old.rows + 1)) j 0 ≡ get_or below j 0
  row_below j =
      let t = tall in
      elim (cases_lt j nb) [
        | inl lt ↦
            row_word old.columns s two.heads.items (old.rows + 1) j (omega (arith, lt, narrow_below))
            ∙ below_put.at j lt
        | inr ge ↦
            elim (cases_lt j old.columns) [
              | inr past ↦ row_past old.columns s two.heads.items (old.rows + 1) j past
              | inl within ↦
                  row_word old.columns s two.heads.items (old.rows + 1) j within
                  ∙ heads_kept (place s j (old.rows + 1)) (
                    λ c lt. apart_above j (old.rows + 1) c (omega arith) (omega (arith, t)),
                    λ c lt same. let e = (same_place s j (old.rows + 1) c (old.rows + 1) (omega (arith, t)) (omega (arith, t)) same).0 in omega (arith, e, lt, ge),
                  )
                  ∙ dark_margin old closed j (old.rows + 1) (omega (arith, t)) (λ k low same. omega (arith, low, same))
            ]
            ∙ sym (get_or_past below j 0 (omega (arith, ge, long_below)))
      ]

  -- the tails after the step lie on cells
  tails_off : (i : ℕ) → get_or five.tails.items i 0 ≢ 0 → IsOff i
  tails_off i some = (
    λ c lt same.
        some (ap (λ i. get_or five.tails.items i 0) same ∙ below_gone.other (place s c 0) (λ c' lt'. apart_below c 0 c' (omega arith)) ∙ above_gone.at c lt),
    λ c lt same.
        some (ap (λ i. get_or five.tails.items i 0) same ∙ below_gone.at c lt),
  )

  tails_on : AreOn old.cells.items five.tails.items
  tails_on i =
      elim (cases_eq (get_or five.tails.items i 0) 0) [
        | inl e ↦ ap (bit_and (get_or old.cells.items i 0)) e ∙ and_comm _ 0 ∙ sym e
        | inr some ↦
            let kept = tails_kept i (tails_off i some) in
            ap (bit_and (get_or old.cells.items i 0)) kept ∙ closed.heads i ∙ sym kept
      ]

  pub closed_five : IsClosedField five
  closed_five =
      record {
        is = last.is;
        heads = subst (λ c. AreOn c five.heads.items) (sym (last.cells ∙ third.cells)) (subst (AreOn three.cells.items) (sym (last.heads ∙ third.heads)) (stepped_on two three stepped));
        tails = subst (λ c. AreOn c five.tails.items) (sym cells_five) tails_on;
      }

  same_five : (x k : ℕ) → k < three.rows → field_state five x k ≡ field_state three x k
  same_five =
      same_states three five (same_size third.size last.size)
      (λ c k lt low. ap (λ l. get_or l (place three.stride c (k + 1)) 0) (last.heads ∙ third.heads))
      (λ c k lt low.
      let rows = to_three.rows in
      let off = off_row c k (omega (arith, low, rows)) in
      ap (λ s. get_or five.tails.items (place s c (k + 1)) 0) to_three.stride
      ∙ below_gone.other (place s c (k + 1)) off.1 ∙ above_gone.other (place s c (k + 1)) off.0
      ∙ sym (ap (λ s. get_or three.tails.items (place s c (k + 1)) 0) to_three.stride))
      (last.cells ∙ third.cells)

  abbrev Shows : Type 0
  Shows =
      (p : Plane) (y : ℤ) → IsEmptyWest p → HasDarkSides two.columns two.stride two.heads.items → ShowsHeads (field_heads two 0) p (y -ℤ pos 1) → ShowsField two p y
      → ShowsHeads (field_heads two (two.rows + 1)) p (y +ℤ pos two.rows) → ShowsField three (next_plane p) y

  pub stepped_between : Shows → HasSteppedBetween above below old five
  stepped_between shows =
      record {
        closed = closed_five;
        size = to_five;
        tails = λ p y shown k low.
            let rows = to_five.rows in
            let k_low : k < old.rows = omega (arith, low, rows) in
            words_show (field_tails five (k + 1)) (field_heads old (k + 1)) p (y +ℤ pos k)
            (λ j. ap₂ (λ c s. get_or (row_in_plane c s five.tails.items (k + 1)) j 0) to_five.columns to_five.stride
            ∙ same_row_words old.columns s five.tails.items old.heads.items (k + 1) (λ c lt. tails_kept (place s c (k + 1)) (off_row c k k_low)) j)
            (heads_of_row (field_heads old (k + 1)) (field_tails old (k + 1)) (row_in_plane old.columns s old.cells.items (k + 1)) p (y +ℤ pos k) (λ x. shown k x k_low));
        shows = λ p y bare up shown down k x low.
            let rows = to_five.rows in
            let rows_three = to_three.rows in
            let rows_two = to_two.rows in
            let over = words_show (field_heads two 0) above p (y -ℤ pos 1) (λ j. ap₂ (λ c s. get_or (row_in_plane c s two.heads.items 0) j 0) to_two.columns to_two.stride ∙ row_above j) up in
            let under_old = words_show (field_heads two (old.rows + 1)) below p (y +ℤ pos old.rows) (λ j. ap₂ (λ c s. get_or (row_in_plane c s two.heads.items (old.rows + 1)) j 0) to_two.columns to_two.stride ∙ row_below j) down in
            let under = subst (λ n. ShowsHeads (field_heads two (n + 1)) p (y +ℤ pos n)) (sym rows_two) under_old in
            same_five x k (omega (arith, low, rows, rows_three))
            ∙ shows p y bare dark_two over (λ k x low. same_two x k (omega (arith, low, rows_two)) ∙ shown k x (omega (arith, low, rows_two))) under k x (omega (arith, low, rows, rows_three));
      }

-- the same cells with other marks
pub settled_shows : (old mid : Field) → AreOfOneSize old mid → mid.heads.items ≡ old.heads.items → mid.tails.items ≡ old.tails.items → mid.cells.items ≡ old.cells.items
    → (p : Plane) (y : ℤ) → ShowsField old p y → ShowsField mid p y
settled_shows old mid size heads tails cells p y shown k x low =
    let rows = size.rows in
    let within : k < old.rows = omega (arith, low, rows) in
    same_states old mid size (λ c k lt low. ap (λ l. get_or l (place old.stride c (k + 1)) 0) heads) (λ c k lt low. ap (λ l. get_or l (place old.stride c (k + 1)) 0) tails) cells x k within
    ∙ shown k x within
