-- The places that are noted.
use Rattle.std.specs.Prelude.{ℕ, Option}
use Rattle.std.specs.declared.cmp.Ordering.{Ordering}
use Rattle.std.specs.BTreeMap.{get}
use Rattle.cell_core.specs.declared.cells.Cell.{Cell}
use Rattle.cell_sharing.specs.declared.shared.Places.{Places}

-- the place that is noted for the cell, by the order of cells
abbrev pub place_in : (Cell → Cell → Ordering) → Places → Cell → Option ℕ
place_in order places cell = get order places.by_cell cell
