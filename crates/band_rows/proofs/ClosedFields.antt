-- Where a field has no cells, and what follows there.
use Rattle.std.proofs.Common.{ℤ, ℕ, ◌+◌, ◌*◌, ◌/◌, ◌%◌, ◌<◌, ◌≤◌, ◌≡◌, refl, sym, ap, ap₂, subst, ◌∙◌, inl, inr, Bool, true, false, ◌&&◌, List, [], get_or, arith}
use Rattle.std.specs.Prelude.{◌≢◌, ◌⊎◌}
use Rattle.std.specs.Int.RustNames.{bit_and, bit_or, bit_xor}
use Rattle.std.proofs.lemmas.Bool.{cases_eq, cases_lt}
use Rattle.std.proofs.lemmas.List.{get_or_past}
use Rattle.std.proofs.lemmas.Nat.{and_comm, and_le_l}
use Rattle.std.proofs.Math.Nat.{suc-mul, mul-le-mul_right}
use Rattle.lists.specs.Bits.{has_bit}
use Rattle.lists.proofs.WordBits.{and_bit}
use Rattle.ww_rule.specs.Wireworld.{Plane}
use Rattle.lane_kernel.specs.Rows.{is_set}
use Rattle.lane_kernel.specs.Around.{beside, free_of, near_heads, next_word}
use Rattle.lane_kernel.specs.Around.Way.{west}
use Rattle.lane_kernel.specs.Marked.{AreOn, IsMarked}
use Rattle.lane_kernel.specs.PlaneRows.{place, row_in_plane, stride_of, HasDarkSides, IsInRow, ShowsHeads}
use Rattle.lane_kernel.proofs.Bits.{differ, no_bit, xor_bit}
use Rattle.lane_kernel.proofs.Places.{Fit}
use Rattle.lane_kernel.proofs.PlaneRows.{row_past, row_word}
use Rattle.lane_kernel.proofs.UnderWay.{no_tails}
use Rattle.band_rows.specs.declared.field.Field.{Field}
use Rattle.band_rows.specs.Fields.{IsClosedField, IsDarkField, IsFieldStepped}
use Rattle.band_rows.proofs.Bands.{words_show}
use Rattle.band_rows.proofs.HeadPlaced.{same_bits}
use Rattle.band_rows.proofs.PlaceCells.{same_place}

-- ---- places without cells

module _ (columns rows s : ℕ) (e : s ≡ stride_of rows) (cells : List ℕ) (in_rows : (i : ℕ) → get_or cells i 0 ≢ 0 → IsInRow columns rows i) where
  pub empty_at : (i : ℕ) → ((c k : ℕ) → c < columns → k < rows → i ≢ place s c (k + 1)) → get_or cells i 0 ≡ 0
  empty_at i out =
      elim (cases_eq (get_or cells i 0) 0) [
        | inl none ↦ none
        | inr some ↦
            let r = in_rows i some in
            absurd (out r.column r.row r.west r.above (r.is ∙ sym (ap (λ s. place s r.column (r.row + 1)) e)))
      ]

  pub empty_margin : (c r : ℕ) → r < s → ((k : ℕ) → k < rows → r ≢ k + 1) → get_or cells (place s c r) 0 ≡ 0
  empty_margin c r lt apart =
      empty_at (place s c r) (λ c' k west low same. apart k low ((same_place s c r c' (k + 1) lt (omega (arith, low, e)) same).1))

  pub empty_side : (i : ℕ) → (i < s + 1) ⊎ (place s columns 0 ≤ i) → get_or cells i 0 ≡ 0
  empty_side i side =
      empty_at i (λ c k west low same.
      let m = suc-mul c s in
      let m1 = suc-mul (c + 1) s in
      let le : c + 2 ≤ columns + 1 = omega (arith, west) in
      let most = mul-le-mul_right s le in
      let second : (c + 2) * s ≡ (c + 1) * s + s = omega (arith, m1) in
      let first : (c + 1) * s ≡ c * s + s = omega (arith, m) in
      elim side [
        | inl lt ↦ omega (arith, lt, same, first)
        | inr ge ↦ omega (arith, ge, same, most, second, low, e)
      ])

-- ---- rows of words

pub dark_row : (columns s : ℕ) (plane : List ℕ) (r : ℕ) → ((c : ℕ) → c < columns → get_or plane (place s c r) 0 ≡ 0) → (j : ℕ) → get_or (row_in_plane columns s plane r) j 0 ≡ 0
dark_row columns s plane r dark j =
    elim (cases_lt j columns) [
      | inl lt ↦ row_word columns s plane r j lt ∙ dark j lt
      | inr ge ↦ row_past columns s plane r j ge
    ]

pub same_row_words : (columns s : ℕ) (a b : List ℕ) (r : ℕ) → ((c : ℕ) → c < columns → get_or a (place s c r) 0 ≡ get_or b (place s c r) 0) → (j : ℕ) → get_or (row_in_plane columns s a r) j 0 ≡ get_or (row_in_plane columns s b r) j 0
same_row_words columns s a b r same j =
    elim (cases_lt j columns) [
      | inl lt ↦ row_word columns s a r j lt ∙ same j lt ∙ sym (row_word columns s b r j lt)
      | inr ge ↦ row_past columns s a r j ge ∙ sym (row_past columns s b r j ge)
    ]

pub unset : (words : List ℕ) → ((j : ℕ) → get_or words j 0 ≡ 0) → (x : ℕ) → is_set words x ≡ false
unset words dark x = ap (λ w. has_bit w (x % 64)) (dark (x / 64)) ∙ no_bit (x % 64)

-- a row without heads shows what no words show
pub none_shown : (words : List ℕ) (p : Plane) (y : ℤ) → ((j : ℕ) → get_or words j 0 ≡ 0) → ShowsHeads [] p y → ShowsHeads words p y
none_shown words p y dark = words_show words [] p y (λ j. dark j ∙ sym (get_or_past [] j 0 (omega arith)))

-- ---- the next heads lie on cells

within_cells : (c m f : Bool) → (c && (differ c (c && m) && f)) ≡ (differ c (c && m) && f)
within_cells true m f = refl
within_cells false m f = refl

wires_on : (c m f : ℕ) → bit_and c (bit_and (bit_xor c (bit_and c m)) f) ≡ bit_and (bit_xor c (bit_and c m)) f
wires_on c m f =
    same_bits _ _ (λ i.
    and_bit c (bit_and (bit_xor c (bit_and c m)) f) i
    ∙ ap (λ b. has_bit c i && b) (bits i)
    ∙ within_cells (has_bit c i) (has_bit m i) (has_bit f i)
    ∙ sym (bits i))
  where
    bits : (i : ℕ) → has_bit (bit_and (bit_xor c (bit_and c m)) f) i ≡ (differ (has_bit c i) (has_bit c i && has_bit m i) && has_bit f i)
    bits i =
        and_bit (bit_xor c (bit_and c m)) f i
        ∙ ap (λ b. b && has_bit f i) (xor_bit c (bit_and c m) i ∙ ap (differ (has_bit c i)) (and_bit c m i))

pub next_on : (s : ℕ) (heads tails cells : List ℕ) (i : ℕ) → bit_and (get_or cells i 0) (next_word s heads tails cells i) ≡ next_word s heads tails cells i
next_on s heads tails cells i = wires_on (get_or cells i 0) (bit_or (get_or heads i 0) (get_or tails i 0)) _

-- ---- fields

pub stepped_on : (old new : Field) → IsFieldStepped old new → AreOn new.cells.items new.heads.items
stepped_on old new stepped i =
    ap₂ (λ c h. bit_and (get_or c i 0) h) stepped.cells (stepped.heads i)
    ∙ next_on old.stride old.heads.items old.tails.items old.cells.items i
    ∙ sym (stepped.heads i)

pub stepped_closed : (old new : Field) → IsClosedField old → IsFieldStepped old new → IsClosedField new
stepped_closed old new closed stepped =
    record {
      is = stepped.is;
      heads = stepped_on old new stepped;
      tails = subst (λ c. AreOn c new.tails.items) (sym stepped.cells) (subst (AreOn old.cells.items) (sym stepped.tails) closed.heads);
    }

pub fit_heads : (cells heads : List ℕ) → Fit cells → AreOn cells heads → Fit heads
fit_heads cells heads fit on j =
    let f = fit j in
    let le = and_le_l (get_or cells j 0) (get_or heads j 0) in
    let e = on j in
    omega (arith, f, le, e)

module _ (field : Field) (closed : IsClosedField field) where
  no_cell_no_head : (i : ℕ) → get_or field.cells.items i 0 ≡ 0 → get_or field.heads.items i 0 ≡ 0
  no_cell_no_head i none = no_tails field.cells.items field.heads.items i closed.heads none

  pub dark_sides : HasDarkSides field.columns field.stride field.heads.items
  dark_sides i side = no_cell_no_head i (empty_side field.columns field.rows field.stride closed.is.stride field.cells.items closed.is.cells_in_rows i side)

  pub dark_margin : (c r : ℕ) → r < field.stride → ((k : ℕ) → k < field.rows → r ≢ k + 1) → get_or field.heads.items (place field.stride c r) 0 ≡ 0
  dark_margin c r lt apart = no_cell_no_head (place field.stride c r) (empty_margin field.columns field.rows field.stride closed.is.stride field.cells.items closed.is.cells_in_rows c r lt apart)

  pub dark_above : (j : ℕ) → get_or (row_in_plane field.columns field.stride field.heads.items 0) j 0 ≡ 0
  dark_above = dark_row field.columns field.stride field.heads.items 0 (λ c lt. dark_margin c 0 (let e = closed.is.stride in omega (arith, e)) (λ k low same. omega (arith, same)))

  pub dark_below : (j : ℕ) → get_or (row_in_plane field.columns field.stride field.heads.items (field.rows + 1)) j 0 ≡ 0
  dark_below = dark_row field.columns field.stride field.heads.items (field.rows + 1) (λ c lt. dark_margin c (field.rows + 1) (let e = closed.is.stride in omega (arith, e)) (λ k low same. omega (arith, low, same)))

-- a field whose words are all 0
pub dark_field : (field : Field) → ((i : ℕ) → get_or field.heads.items i 0 ≡ 0) → ((i : ℕ) → get_or field.tails.items i 0 ≡ 0) → IsDarkField field
dark_field field heads tails =
    record {
      heads = λ k x low. unset (row_in_plane field.columns field.stride field.heads.items (k + 1)) (dark_row field.columns field.stride field.heads.items (k + 1) (λ c lt. heads (place field.stride c (k + 1)))) x;
      tails = λ k x low. unset (row_in_plane field.columns field.stride field.tails.items (k + 1)) (dark_row field.columns field.stride field.tails.items (k + 1) (λ c lt. tails (place field.stride c (k + 1)))) x;
    }

-- ---- marks

-- tails of words without cells do not count
pub same_where_cells : (s : ℕ) (heads tails tails' cells bytes : List ℕ) → ((i : ℕ) → get_or cells i 0 ≢ 0 → get_or tails' i 0 ≡ get_or tails i 0) → IsMarked s heads tails cells bytes → IsMarked s heads tails' cells bytes
same_where_cells s heads tails tails' cells bytes same was =
    record {
      dark = λ i zero.
          elim (cases_eq (get_or cells i 0) 0) [
            | inl empty ↦ inl empty
            | inr some ↦
                elim (was.dark i zero) [
                  | inl empty ↦ inl empty
                  | inr d ↦ inr (d.0, same i some ∙ d.1)
                ]
          ];
      calm = λ i low way.
          elim (cases_eq (get_or cells i 0) 0) [
            | inl empty ↦ ap (λ c. bit_and (near_heads way (get_or heads (beside s way i) 0)) (free_of c (get_or tails' i 0))) empty ∙ and_comm _ 0
            | inr some ↦ ap (λ t. bit_and (near_heads way (get_or heads (beside s way i) 0)) (free_of (get_or cells i 0) t)) (same i some) ∙ was.calm i low way
          ];
    }
