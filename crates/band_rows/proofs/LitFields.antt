-- Words of a field that are lit.
use Rattle.std.proofs.Common.{ℕ, ◌+◌, ◌-◌, ◌*◌, ◌/◌, ◌%◌, ◌<◌, ◌≡◌, refl, sym, ap, ap₂, ◌∙◌, inl, inr, Bool, true, false, ◌||◌, List, length, get_or, arith}
use Rattle.std.specs.Prelude.{◌≢◌, ◌⊎◌}
use Rattle.std.specs.Int.RustNames.{bit_or}
use Rattle.std.proofs.lemmas.Bool.{cases_eq, true≢false}
use Rattle.std.proofs.lemmas.Nat.{div-mul-add, mod-mul-add}
use Rattle.lists.specs.Bits.{has_bit}
use Rattle.lists.proofs.WordBits.{or_bit}
use Rattle.ww_rule.specs.declared.pattern.State.TheVariants.{Head, Tail}
use Rattle.lane_kernel.specs.Rows.{is_set, state_of}
use Rattle.lane_kernel.specs.PlaneRows.{place, row_in_plane, IsInRow}
use Rattle.lane_kernel.proofs.UnderWay.{no_tails}
use Rattle.band_rows.specs.declared.field.Field.{Field}
use Rattle.band_rows.specs.Fields.{IsClosedField, IsDarkField, IsLitInField}
use Rattle.band_rows.proofs.ClosedFields.{dark_field}
use Rattle.band_rows.proofs.FieldSteps.{inner_place}
use Rattle.band_rows.proofs.PlaceCells.{row_set}
use Rattle.band_rows.proofs.Zeros.{zero_left, zero_right}

-- a field with no mark
pub unmarked_dark : (field : Field) → IsClosedField field → field.marks.many ≡ 0 → 0 < length field.marks.list.items → IsDarkField field
unmarked_dark field closed none room = dark_field field (λ i. (words i).0) (λ i. (words i).1)
  where
    bytes : (i : ℕ) → get_or field.marks.bytes.items i 0 ≡ 0
    bytes i =
        elim (cases_eq (get_or field.marks.bytes.items i 0) 0) [
          | inl e ↦ e
          | inr some ↦
              let a = closed.is.listed.each (omega (arith, none, room)) i some in
              let last = a.last in
              absurd (omega (arith, last, none))
        ]

    words : (i : ℕ) → (get_or field.heads.items i 0 ≡ 0) × (get_or field.tails.items i 0 ≡ 0)
    words i =
        elim ((closed.is.marked (omega (arith, none, room))).dark i (bytes i)) [
          | inl empty ↦ (no_tails field.cells.items field.heads.items i closed.heads empty, no_tails field.cells.items field.tails.items i closed.tails empty)
          | inr d ↦ d
        ]

lit_of : (h t c : Bool) → (h || t) ≡ true → (state_of h t c ≡ Head) ⊎ (state_of h t c ≡ Tail)
lit_of true t c e = inl refl
lit_of false true c e = inr refl
lit_of false false c e = absurd (true≢false (sym e))

module _ (field : Field) (closed : IsClosedField field) (i : ℕ) (lit : bit_or (get_or field.heads.items i 0) (get_or field.tails.items i 0) ≢ 0) where
  abbrev pub s : ℕ
  s = field.stride

  pub in_row : IsInRow field.columns field.rows i
  in_row =
      elim (cases_eq (get_or field.cells.items i 0) 0) [
        | inr some ↦ closed.is.cells_in_rows i some
        | inl none ↦ absurd (lit (ap₂ bit_or (no_tails field.cells.items field.heads.items i closed.heads none) (no_tails field.cells.items field.tails.items i closed.tails none)))
      ]

  pub at : i ≡ place s in_row.column (in_row.row + 1)
  at = in_row.is ∙ sym (ap (λ s. place s in_row.column (in_row.row + 1)) closed.is.stride)

  pub low : in_row.row + 1 < s
  low = let r = in_row in let above = r.above in let e = closed.is.stride in omega (arith, above, e)

  pub before : i - 1 ≡ (in_row.column + 1) * s + (in_row.row + 1)
  before = let e = at in omega (arith, e)

  pub column_at : (i - 1) / s ≡ in_row.column + 1
  column_at = ap (λ n. n / s) before ∙ div-mul-add (in_row.column + 1) s (in_row.row + 1) low

  pub row_at : (i - 1) % s ≡ in_row.row + 1
  row_at = ap (λ n. n % s) before ∙ mod-mul-add (in_row.column + 1) s (in_row.row + 1) low

  pub some_place : (0 < i) × (0 < s) × (i < length field.heads.items)
  some_place =
      let r = in_row in
      let west = r.west in
      let e = at in
      let l = low in
      let inner = inner_place field.columns field.rows s r.column r.row (length field.heads.items) closed.is.stride west r.above (closed.is.long_heads ∙ sym (ap (λ s. (field.columns + 2) * s + 2) closed.is.stride)) in
      let to = inner.to in
      (omega (arith, e), omega (arith, l), omega (arith, to, e))

  pub column_west : in_row.column < field.columns
  column_west = let r = in_row in r.west

  -- a bit of the word is a cell
  pub lit_at : (b x k : ℕ) → b < 64 → has_bit (bit_or (get_or field.heads.items i 0) (get_or field.tails.items i 0)) b ≡ true → x ≡ 64 * ((i - 1) / s - 1) + b → k ≡ (i - 1) % s - 1 → IsLitInField field x k
  lit_at b x k small set is_x is_k =
      let r = in_row in
      let west = r.west in
      let above = r.above in
      let dc = column_at in
      let dr = row_at in
      let c : x / 64 ≡ r.column = omega (arith, is_x, dc, small) in
      let q : x % 64 ≡ b = omega (arith, is_x, dc, small) in
      let row : k ≡ r.row = omega (arith, is_k, dr) in
      let here : place s (x / 64) (k + 1) ≡ i = ap₂ (λ c k. place s c (k + 1)) c row ∙ sym at in
      let inside : x / 64 < field.columns = omega (arith, c, west) in
      let word = λ (plane : List ℕ). row_set field.columns s plane (k + 1) x inside ∙ ap₂ (λ p b. has_bit (get_or plane p 0) b) here q in
      let both : (is_set (row_in_plane field.columns s field.heads.items (k + 1)) x || is_set (row_in_plane field.columns s field.tails.items (k + 1)) x) ≡ true =
      ap₂ (λ p q. p || q) (word field.heads.items) (word field.tails.items) ∙ sym (or_bit (get_or field.heads.items i 0) (get_or field.tails.items i 0) b) ∙ set in
      record {
        column = inside;
        row = omega (arith, row, above);
        lit = lit_of (is_set (row_in_plane field.columns s field.heads.items (k + 1)) x) (is_set (row_in_plane field.columns s field.tails.items (k + 1)) x) _ both;
      }

-- a field none of whose words is lit
pub unlit_words : (field : Field) → ((i : ℕ) → bit_or (get_or field.heads.items i 0) (get_or field.tails.items i 0) ≡ 0) → IsDarkField field
unlit_words field unlit = dark_field field (λ i. zero_left _ (get_or field.tails.items i 0) (unlit i)) (λ i. zero_right (get_or field.heads.items i 0) _ (unlit i))
