-- Rows that lie beside a field.
use Rattle.std.specs.Prelude.{ℕ, List}
use Rattle.lane_kernel.specs.PlaneRows.{row_in_plane}
use Rattle.band_rows.specs.declared.plane_row.PlaneRow.{PlaneRow}

-- the words of a row, from west to east
abbrev pub words_in : PlaneRow → List ℕ
words_in row = row_in_plane row.columns row.stride row.plane.now row.r
