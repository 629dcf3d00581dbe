use Rattle.band_rows.specs.RowsPut.{HasRowPut}
use Rattle.band_rows.proofs.field_facing.clear_row.Given as goal

abbrev pub invariant-loop-c : goal.invariant-loop-c
invariant-loop-c l = record { put : HasRowPut l.stride l.r l.c (λ c. 0) l.fn.words l.words }
