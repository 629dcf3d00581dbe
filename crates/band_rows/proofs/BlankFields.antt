-- Fields without cells.
use Rattle.std.proofs.Common.{ℕ, ◌+◌, ◌≡◌, sym, ap, ap₂, ◌∙◌, List, [], length, get_or, arith}
use Rattle.std.specs.Int.RustNames.{bit_and}
use Rattle.std.proofs.lemmas.Nat.{and_comm}
use Rattle.lane_kernel.specs.Rows.{state_of}
use Rattle.lane_kernel.specs.Spans.{AreZero}
use Rattle.lane_kernel.specs.Marked.{AreCleared}
use Rattle.lane_kernel.specs.PlaneRows.{row_in_plane, plane_size, stride_of}
use Rattle.band_rows.specs.declared.field.Field.{Field}
use Rattle.band_rows.specs.Fields.{IsBlank}
use Rattle.band_rows.proofs.ClosedFields.{dark_row, unset}

pub blank_field : (columns rows : ℕ) (field : Field) → field.columns ≡ columns → field.rows ≡ rows → field.stride ≡ rows + 2
    → length field.heads.items ≡ plane_size columns rows → length field.tails.items ≡ plane_size columns rows → length field.cells.items ≡ plane_size columns rows
    → length field.marks.bytes.items ≡ plane_size columns rows → length field.spare.bytes.items ≡ plane_size columns rows
    → AreZero field.heads.items → AreZero field.tails.items → AreZero field.cells.items → AreCleared field.marks.bytes.items → AreCleared field.spare.bytes.items
    → field.marks.many ≡ 0 → field.marks.list.items ≡ [] → IsBlank columns rows field
blank_field columns rows field is_columns is_rows stride heads tails cells marks spare no_heads no_tails no_cells unmarked cleared none unlisted =
    let size : plane_size columns rows ≡ plane_size field.columns field.rows = sym (ap₂ plane_size is_columns is_rows) in
    let room = ap length unlisted in
    let dark = λ (plane : List ℕ) (zero : AreZero plane) (k x : ℕ). unset (row_in_plane field.columns field.stride plane (k + 1)) (dark_row field.columns field.stride plane (k + 1) (λ c lt. zero _)) x in
    record {
      closed = record {
        is = record {
          stride = stride ∙ sym (ap stride_of is_rows);
          long_heads = heads ∙ size;
          long_tails = tails ∙ size;
          long_cells = cells ∙ size;
          long_marks = marks ∙ size;
          long_spare = spare ∙ size;
          cells_in_rows = λ i some. absurd (some (no_cells i));
          listed = record {
            within = omega (arith, none);
            inner = λ k lt. absurd (omega (arith, lt, none));
            each = λ lt i some. absurd (some (unmarked i));
          };
          marked = λ lt. absurd (omega (arith, lt, none, room));
          cleared = cleared;
        };
        heads = λ i. ap (bit_and (get_or field.cells.items i 0)) (no_heads i) ∙ and_comm _ 0 ∙ sym (no_heads i);
        tails = λ i. ap (bit_and (get_or field.cells.items i 0)) (no_tails i) ∙ and_comm _ 0 ∙ sym (no_tails i);
      };
      unlisted = omega (arith, room);
      columns = is_columns;
      rows = is_rows;
      empty = λ x k low. ap₂ (λ f w. f w) (ap₂ state_of (dark field.heads.items no_heads k x) (dark field.tails.items no_tails k x)) (dark field.cells.items no_cells k x);
    }
