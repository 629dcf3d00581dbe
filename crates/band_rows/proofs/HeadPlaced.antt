-- A field in which a cell was made a head.
use Rattle.std.proofs.Common.{ℕ, ◌+◌, ◌*◌, ◌/◌, ◌%◌, ◌^◌, ◌<◌, ◌≡◌, refl, sym, ap, ap₂, subst, ◌∙◌, inl, inr, Bool, true, false, cond, ◌&&◌, ◌||◌, ◌==◌, List, length, get_or, slice_set, arith}
use Rattle.std.specs.Prelude.{◌≢◌}
use Rattle.std.specs.Int.{bit_at}
use Rattle.std.specs.Int.RustNames.{bit_and, bit_or}
use Rattle.std.proofs.lemmas.Bool.{cases_eq, true≢false}
use Rattle.std.proofs.lemmas.List.{get_or-set_same, get_or-set_other, length-set}
use Rattle.std.proofs.lemmas.Nat.Bits.{same_from_bits, bit_at-lt}
use Rattle.ww_rule.specs.declared.pattern.State.TheVariants.{Head}
use Rattle.lists.specs.Bits.{has_bit}
use Rattle.lists.proofs.WordBits.{by_digits, and_bit, or_bit}
use Rattle.lane_kernel.specs.Around.{IsInner}
use Rattle.lane_kernel.specs.Marked.{AreCleared, AreListed, AreOn, IsMarked}
use Rattle.lane_kernel.specs.PlaneRows.{place, row_in_plane, plane_size, stride_of, IsInRow}
use Rattle.lane_kernel.specs.Rows.{is_set, row_state, state_of}
use Rattle.band_rows.specs.declared.field.Field.{Field}
use Rattle.band_rows.specs.Fields.{field_state, IsClosedField, IsPlaneField}
use Rattle.band_rows.proofs.FieldSteps.{inner_place}
use Rattle.band_rows.proofs.PlaceCells.{head_state, put_bit}

-- words with the same bits
one_bit : (x y : ℕ) → x < 2 → y < 2 → (x == 1) ≡ (y == 1) → x ≡ y
one_bit = by_digits (λ x y. (x == 1) ≡ (y == 1) → x ≡ y) (λ e. refl) (λ e. absurd (true≢false (sym e))) (λ e. absurd (true≢false e)) (λ e. refl)

pub same_bits : (a b : ℕ) → ((i : ℕ) → has_bit a i ≡ has_bit b i) → a ≡ b
same_bits a b same = same_from_bits a b (λ i. one_bit (bit_at a i) (bit_at b i) (bit_at-lt a i) (bit_at-lt b i) (same i))

both_put : (c h b : Bool) → (c && h) ≡ h → ((c || b) && (h || b)) ≡ (h || b)
both_put true h b e = refl
both_put false true b e = absurd (true≢false (sym e))
both_put false false true e = refl
both_put false false false e = refl

cell_put : (c t b : Bool) → (c && t) ≡ t → ((c || b) && t) ≡ t
cell_put true t b e = refl
cell_put false true b e = absurd (true≢false (sym e))
cell_put false false true e = refl
cell_put false false false e = refl

-- heads and tails lie on cells, also with one more head and its cell
pub on_both : (c h b : ℕ) → bit_and c h ≡ h → bit_and (bit_or c b) (bit_or h b) ≡ bit_or h b
on_both c h b on =
    same_bits _ _ (λ i.
    and_bit (bit_or c b) (bit_or h b) i ∙ ap₂ (λ p q. p && q) (or_bit c b i) (or_bit h b i)
    ∙ both_put (has_bit c i) (has_bit h i) (has_bit b i) (sym (and_bit c h i) ∙ ap (λ n. has_bit n i) on)
    ∙ sym (or_bit h b i))

pub on_cell : (c t b : ℕ) → bit_and c t ≡ t → bit_and (bit_or c b) t ≡ t
on_cell c t b on =
    same_bits _ _ (λ i.
    and_bit (bit_or c b) t i ∙ ap (λ p. p && has_bit t i) (or_bit c b i)
    ∙ cell_put (has_bit c i) (has_bit t i) (has_bit b i) (sym (and_bit c t i) ∙ ap (λ n. has_bit n i) on))

-- what was set in a plane, at word i
abbrev pub with_bit : List ℕ → ℕ → ℕ → List ℕ
with_bit plane i b = slice_set plane i (bit_or (get_or plane i 0) b)

pub on_put : (cells words : List ℕ) (i c w : ℕ) → i < length cells → i < length words → bit_and c w ≡ w → AreOn cells words → AreOn (slice_set cells i c) (slice_set words i w)
on_put cells words i c w in_cells in_words both on j =
    elim (cases_eq j i) [
      | inr ne ↦ ap₂ bit_and (get_or-set_other cells i j c 0 ne) (get_or-set_other words i j w 0 ne) ∙ on j ∙ sym (get_or-set_other words i j w 0 ne)
      | inl e ↦
          let p = ap (λ j. get_or (slice_set cells i c) j 0) e ∙ get_or-set_same cells i c 0 in_cells in
          let q = ap (λ j. get_or (slice_set words i w) j 0) e ∙ get_or-set_same words i w 0 in_words in
          ap₂ bit_and p q ∙ both ∙ sym q
    ]

pub on_placed : (cells heads : List ℕ) (i b : ℕ) → i < length cells → i < length heads → AreOn cells heads → AreOn (with_bit cells i b) (with_bit heads i b)
on_placed cells heads i b lc lh on = on_put cells heads i (bit_or (get_or cells i 0) b) (bit_or (get_or heads i 0) b) lc lh (on_both (get_or cells i 0) (get_or heads i 0) b (on i)) on

pub tails_placed : (cells tails : List ℕ) (i b : ℕ) → i < length cells → AreOn cells tails → AreOn (with_bit cells i b) tails
tails_placed cells tails i b lc on j =
    elim (cases_eq j i) [
      | inr ne ↦ ap (λ c. bit_and c (get_or tails j 0)) (get_or-set_other cells i j _ 0 ne) ∙ on j
      | inl e ↦
          ap₂ bit_and (ap (λ j. get_or (with_bit cells i b) j 0) e ∙ get_or-set_same cells i (bit_or (get_or cells i 0) b) 0 lc) (ap (λ j. get_or tails j 0) e)
          ∙ on_cell (get_or cells i 0) (get_or tails i 0) b (on i)
          ∙ sym (ap (λ j. get_or tails j 0) e)
    ]

-- the place of a word of a field's rows
module _ (field : Field) (c k : ℕ) (is : IsPlaneField field) (west : c < field.columns) (low : k < field.rows) where
  abbrev spot : ℕ
  spot = place field.stride c (k + 1)

  pub word_inner : (plane : List ℕ) → length plane ≡ plane_size field.columns field.rows → IsInner field.stride (length plane) spot
  word_inner plane long = inner_place field.columns field.rows field.stride c k (length plane) is.stride west low (long ∙ sym (ap (λ s. (field.columns + 2) * s + 2) is.stride))

  pub word_within : (plane : List ℕ) → length plane ≡ plane_size field.columns field.rows → spot < length plane
  word_within plane long = let i = word_inner plane long in let to = i.to in omega (arith, to)

  pub word_in_rows : (v j : ℕ) → get_or (slice_set field.cells.items spot v) j 0 ≢ 0 → IsInRow field.columns field.rows j
  word_in_rows v j some =
      elim (cases_eq j spot) [
        | inl e ↦ record { column = c; row = k; west = west; above = low; is = e ∙ ap (λ s. place s c (k + 1)) is.stride }
        | inr ne ↦ is.cells_in_rows j (λ zero. some (get_or-set_other field.cells.items spot j v 0 ne ∙ zero))
      ]

-- a field that differs from another by one head and its cell, and by its marks
pub record HasHead (old new : Field) (x k : ℕ) : Type 0 where
  pub columns : new.columns ≡ old.columns
  pub rows : new.rows ≡ old.rows
  pub stride : new.stride ≡ old.stride
  pub heads : new.heads.items ≡ with_bit old.heads.items (place old.stride (x / 64) (k + 1)) (1 * 2 ^ (x % 64) % 2 ^ 64)
  pub cells : new.cells.items ≡ with_bit old.cells.items (place old.stride (x / 64) (k + 1)) (1 * 2 ^ (x % 64) % 2 ^ 64)
  pub tails : new.tails.items ≡ old.tails.items

module _ (old : Field) (x k : ℕ) (closed : IsClosedField old) (west : x / 64 < old.columns) (low : k < old.rows) where
  abbrev at : ℕ
  at = place old.stride (x / 64) (k + 1)

  abbrev bit : ℕ
  bit = 1 * 2 ^ (x % 64) % 2 ^ 64

  pub inner : (plane : List ℕ) → length plane ≡ plane_size old.columns old.rows → IsInner old.stride (length plane) at
  inner = word_inner old (x / 64) k closed.is west low

  pub within : (plane : List ℕ) → length plane ≡ plane_size old.columns old.rows → at < length plane
  within = word_within old (x / 64) k closed.is west low

  pub in_rows : (j : ℕ) → get_or (with_bit old.cells.items at bit) j 0 ≢ 0 → IsInRow old.columns old.rows j
  in_rows = word_in_rows old (x / 64) k closed.is west low (bit_or (get_or old.cells.items at 0) bit)

  -- the new field, if its marks are as they must be
  pub head_closed : (new : Field) → HasHead old new x k → length new.marks.bytes.items ≡ plane_size old.columns old.rows → length new.spare.bytes.items ≡ plane_size old.columns old.rows
      → AreCleared new.spare.bytes.items → AreListed old.stride new.marks.bytes.items new.marks.list.items new.marks.many
      → (new.marks.many < length new.marks.list.items → IsMarked old.stride new.heads.items new.tails.items new.cells.items new.marks.bytes.items) → IsClosedField new
  head_closed new has long_marks long_spare cleared listed marked =
      let is = closed.is in
      let size : plane_size old.columns old.rows ≡ plane_size new.columns new.rows = sym (ap₂ plane_size has.columns has.rows) in
      record {
        is = record {
          stride = has.stride ∙ is.stride ∙ sym (ap stride_of has.rows);
          long_heads = ap length has.heads ∙ length-set old.heads.items at (bit_or (get_or old.heads.items at 0) bit) ∙ is.long_heads ∙ size;
          long_tails = ap length has.tails ∙ is.long_tails ∙ size;
          long_cells = ap length has.cells ∙ length-set old.cells.items at (bit_or (get_or old.cells.items at 0) bit) ∙ is.long_cells ∙ size;
          long_marks = long_marks ∙ size;
          long_spare = long_spare ∙ size;
          cells_in_rows = λ j some.
              subst (λ c. IsInRow c new.rows j) (sym has.columns) (subst (λ r. IsInRow old.columns r j) (sym has.rows)
              (in_rows j (λ zero. some (ap (λ l. get_or l j 0) has.cells ∙ zero))));
          listed = subst (λ s. AreListed s new.marks.bytes.items new.marks.list.items new.marks.many) (sym has.stride) listed;
          marked = λ room. subst (λ s. IsMarked s new.heads.items new.tails.items new.cells.items new.marks.bytes.items) (sym has.stride) (marked room);
          cleared = cleared;
        };
        heads = subst (λ c. AreOn c new.heads.items) (sym has.cells) (subst (AreOn (with_bit old.cells.items at bit)) (sym has.heads)
            (on_placed old.cells.items old.heads.items at bit (within old.cells.items is.long_cells) (within old.heads.items is.long_heads) closed.heads));
        tails = subst (λ c. AreOn c new.tails.items) (sym has.cells) (subst (AreOn (with_bit old.cells.items at bit)) (sym has.tails)
            (tails_placed old.cells.items old.tails.items at bit (within old.cells.items is.long_cells) closed.tails));
      }

  pub head_cells : (new : Field) → HasHead old new x k → (u j : ℕ) → j < old.rows → field_state new u j ≡ cond (u == x && j == k) Head (field_state old u j)
  head_cells new has u j lt =
      let is = closed.is in
      let s = is.stride in
      let h = put_bit old.columns old.stride old.heads.items x k west (omega (arith, low, s)) (within old.heads.items is.long_heads) u j (omega (arith, lt, s)) in
      let c = put_bit old.columns old.stride old.cells.items x k west (omega (arith, low, s)) (within old.cells.items is.long_cells) u j (omega (arith, lt, s)) in
      let f = λ (columns stride : ℕ) (h t c : List ℕ). row_state (row_in_plane columns stride h (j + 1)) (row_in_plane columns stride t (j + 1)) (row_in_plane columns stride c (j + 1)) u in
      let t = is_set (row_in_plane old.columns old.stride old.tails.items (j + 1)) u in
      ap₂ (λ a b. f a b new.heads.items new.tails.items new.cells.items) has.columns has.stride
      ∙ ap₂ (λ h t. f old.columns old.stride h t new.cells.items) has.heads has.tails
      ∙ ap (f old.columns old.stride (with_bit old.heads.items at bit) old.tails.items) has.cells
      ∙ ap₂ (λ p q. state_of p t q) h c
      ∙ head_state (u == x && j == k) (is_set (row_in_plane old.columns old.stride old.heads.items (j + 1)) u) t (is_set (row_in_plane old.columns old.stride old.cells.items (j + 1)) u)
