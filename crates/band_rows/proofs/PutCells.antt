-- A field into which a word of cells is put.
use Rattle.std.proofs.Common.{ℕ, ◌+◌, ◌/◌, ◌%◌, ◌<◌, ◌≡◌, sym, ap, ap₂, subst, ◌∙◌, List, length, get_or, slice_set, arith}
use Rattle.std.specs.Prelude.{◌≢◌}
use Rattle.std.proofs.lemmas.List.{length-set}
use Rattle.ww_rule.specs.declared.pattern.State.{State}
use Rattle.ww_rule.specs.Grid.{row_cell}
use Rattle.lists.specs.Bits.{has_bit}
use Rattle.lane_kernel.specs.Marked.{AreCleared, AreListed, AreOn}
use Rattle.lane_kernel.specs.PlaneRows.{place, row_in_plane, plane_size, stride_of, IsInRow}
use Rattle.lane_kernel.specs.Rows.{is_set, row_state, state_of}
use Rattle.band_rows.specs.declared.cell_bits.CellBits.{CellBits}
use Rattle.band_rows.specs.declared.field.Field.{Field}
use Rattle.band_rows.specs.declared.field.WordMarks.{WordMarks}
use Rattle.band_rows.specs.CellWords.{state_by, HasWordPut, IsOnCells}
use Rattle.band_rows.specs.Fields.{field_state, AreOfOneSize, IsClosedField, IsUnlisted}
use Rattle.band_rows.proofs.HeadPlaced.{on_put, word_in_rows, word_within}
use Rattle.band_rows.proofs.PlaceCells.{put_here, put_other}

abbrev Listed : ℕ → WordMarks → Type 0
Listed s m = AreListed s m.bytes.items m.list.items m.many

abbrev Room : WordMarks → Type 0
Room m = m.many < length m.list.items

-- with more cells, heads or tails and the same marks, which say nothing
pub closed_again : (old new : Field) → IsClosedField old → IsUnlisted old → AreOfOneSize old new
    → length new.heads.items ≡ length old.heads.items → length new.tails.items ≡ length old.tails.items → length new.cells.items ≡ length old.cells.items
    → new.marks ≡ old.marks → new.spare ≡ old.spare → ((i : ℕ) → get_or new.cells.items i 0 ≢ 0 → IsInRow old.columns old.rows i)
    → AreOn new.cells.items new.heads.items → AreOn new.cells.items new.tails.items → IsClosedField new
closed_again old new closed unlisted size heads tails cells marks spare in_rows on_heads on_tails =
    let is = closed.is in
    let same : plane_size old.columns old.rows ≡ plane_size new.columns new.rows = sym (ap₂ plane_size size.columns size.rows) in
    record {
      is = record {
        stride = size.stride ∙ is.stride ∙ sym (ap stride_of size.rows);
        long_heads = heads ∙ is.long_heads ∙ same;
        long_tails = tails ∙ is.long_tails ∙ same;
        long_cells = cells ∙ is.long_cells ∙ same;
        long_marks = ap (λ (m : WordMarks). length m.bytes.items) marks ∙ is.long_marks ∙ same;
        long_spare = ap (λ (m : WordMarks). length m.bytes.items) spare ∙ is.long_spare ∙ same;
        cells_in_rows = λ i some. subst (λ c. IsInRow c new.rows i) (sym size.columns) (subst (λ r. IsInRow old.columns r i) (sym size.rows) (in_rows i some));
        listed = subst (λ s. Listed s new.marks) (sym size.stride) (subst (Listed old.stride) (sym marks) is.listed);
        marked = λ room. let was : old.marks.many < length old.marks.list.items = subst Room marks room in absurd (omega (arith, was, unlisted));
        cleared = subst (λ (m : WordMarks). AreCleared m.bytes.items) (sym spare) is.cleared;
      };
      heads = on_heads;
      tails = on_tails;
    }

module _ (old : Field) (c k : ℕ) (closed : IsClosedField old) (unlisted : IsUnlisted old) (west : c < old.columns) (low : k < old.rows) (bits : CellBits) (on : IsOnCells bits) where
  abbrev spot : ℕ
  spot = place old.stride c (k + 1)

  within : (plane : List ℕ) → length plane ≡ plane_size old.columns old.rows → spot < length plane
  within = word_within old c k closed.is west low

  below : (j : ℕ) → j < old.rows → j + 1 < old.stride
  below j lt = let s = closed.is.stride in omega (arith, lt, s)

  here : (plane : List ℕ) (v : ℕ) → length plane ≡ plane_size old.columns old.rows → (u : ℕ) → u / 64 ≡ c
      → is_set (row_in_plane old.columns old.stride (slice_set plane spot v) (k + 1)) u ≡ has_bit v (u % 64)
  here plane v long = put_here old.columns old.stride plane c k v west (below k low) (within plane long)

  other : (plane : List ℕ) (v : ℕ) → length plane ≡ plane_size old.columns old.rows → (u j : ℕ) → j < old.rows → (u / 64 ≡ c → j ≢ k)
      → is_set (row_in_plane old.columns old.stride (slice_set plane spot v) (j + 1)) u ≡ is_set (row_in_plane old.columns old.stride plane (j + 1)) u
  other plane v long u j lt = put_other old.columns old.stride plane c k v west (below k low) (within plane long) u j (below j lt)

  pub word_put : (cells : List State) → ((b : ℕ) → state_by bits b ≡ row_cell cells b) → (new : Field) → AreOfOneSize old new
      → new.heads.items ≡ slice_set old.heads.items spot bits.heads → new.tails.items ≡ slice_set old.tails.items spot bits.tails
      → new.cells.items ≡ slice_set old.cells.items spot bits.cells → new.marks ≡ old.marks → new.spare ≡ old.spare → HasWordPut cells c k old new
  word_put cells states new size heads tails wires marks spare =
      let is = closed.is in
      record {
        closed =
            closed_again old new closed unlisted size (ap length heads ∙ length-set old.heads.items spot bits.heads)
            (ap length tails ∙ length-set old.tails.items spot bits.tails) (ap length wires ∙ length-set old.cells.items spot bits.cells) marks spare
            (λ i some. word_in_rows old c k closed.is west low bits.cells i (λ zero. some (ap (λ l. get_or l i 0) wires ∙ zero)))
            (subst (λ l. AreOn l new.heads.items) (sym wires) (subst (AreOn (slice_set old.cells.items spot bits.cells)) (sym heads)
            (on_put old.cells.items old.heads.items spot bits.cells bits.heads (within old.cells.items is.long_cells) (within old.heads.items is.long_heads) on.heads closed.heads)))
            (subst (λ l. AreOn l new.tails.items) (sym wires) (subst (AreOn (slice_set old.cells.items spot bits.cells)) (sym tails)
            (on_put old.cells.items old.tails.items spot bits.cells bits.tails (within old.cells.items is.long_cells) (within old.tails.items is.long_tails) on.tails closed.tails)));
        size = size;
        marks = marks;
        here = λ u e.
            by_planes u k
            ∙ ap₂ (λ f w. f w) (ap₂ state_of (here old.heads.items bits.heads is.long_heads u e) (here old.tails.items bits.tails is.long_tails u e)) (here old.cells.items bits.cells is.long_cells u e)
            ∙ states (u % 64);
        other = λ u j lt ne.
            by_planes u j
            ∙ ap₂ (λ f w. f w) (ap₂ state_of (other old.heads.items bits.heads is.long_heads u j lt ne) (other old.tails.items bits.tails is.long_tails u j lt ne)) (other old.cells.items bits.cells is.long_cells u j lt ne);
      }
    where
      by_planes : (u j : ℕ) → field_state new u j ≡ row_state (row_in_plane old.columns old.stride (slice_set old.heads.items spot bits.heads) (j + 1))
          (row_in_plane old.columns old.stride (slice_set old.tails.items spot bits.tails) (j + 1)) (row_in_plane old.columns old.stride (slice_set old.cells.items spot bits.cells) (j + 1)) u
      by_planes u j =
          let f = λ (columns stride : ℕ) (h t w : List ℕ). row_state (row_in_plane columns stride h (j + 1)) (row_in_plane columns stride t (j + 1)) (row_in_plane columns stride w (j + 1)) u in
          ap₂ (λ a b. f a b new.heads.items new.tails.items new.cells.items) size.columns size.stride
          ∙ ap₂ (λ h t. f old.columns old.stride h t new.cells.items) heads tails
          ∙ ap (f old.columns old.stride (slice_set old.heads.items spot bits.heads) (slice_set old.tails.items spot bits.tails)) wires
