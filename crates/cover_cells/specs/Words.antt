-- Truth tables of cells.
use Rattle.std.specs.Prelude.{ℕ, ◌≡◌, Bool, true, List, [], map, length}
use Rattle.cell_core.specs.declared.cells.Src.{Src}
use Rattle.cell_core.specs.declared.cells.Cell.{Cell}
use Rattle.cell_core.specs.Sources.{is_there, are_in_order}
use Rattle.cell_core.specs.Meaning.{bit_in}
use Rattle.cell_core.specs.Tables.{table_bit}

-- the tables have these values, if the nets have these bits
abbrev pub ShowTables : List Bool → List ℕ → List Bool → Type 0
ShowTables bits words made = map (table_bit bits) words ≡ made

-- the cells are in order, and their root has the table's bits
pub record HasTable (cells : List Cell) (root : Src) (nets table : ℕ) : Type 0 where
  pub in_order : are_in_order nets 0 0 cells ≡ true
  pub there : is_there nets 0 (length cells) root ≡ true
  pub bits : (bits : List Bool) → length bits ≡ nets
      → bit_in cells bits [] root ≡ table_bit bits table
