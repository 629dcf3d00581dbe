use Rattle.std.proofs.Common.{◌≡◌, length, get_or}
use Rattle.band_rows.specs.Facing.{words_in}
use Rattle.band_rows.specs.Fields.{AreMarksOf}
use Rattle.band_rows.specs.RowsPut.{HasRowPut}
use Rattle.band_rows.proofs.field_facing.take_row.Given as goal

abbrev pub invariant-loop-c : goal.invariant-loop-c
invariant-loop-c l =
    record {
      long_heads : length l.heads ≡ length l.free.cells.now;
      marks : AreMarksOf l.free l.heads l.marks;
      heads : HasRowPut l.free.stride l.r l.c (λ c. get_or (words_in l.row) c 0) l.fn.heads l.heads;
    }
