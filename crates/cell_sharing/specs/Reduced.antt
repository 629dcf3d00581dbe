-- Cells that need not be made.
use Rattle.std.specs.Prelude.{ℕ, ◌≡◌, Bool, true, IsTrue, List}
use Rattle.cell_core.specs.declared.cells.Src.{Src}
use Rattle.cell_core.specs.declared.cells.Cell.{Cell}
use Rattle.cell_core.specs.Sources.{is_there, reads_there, is_one, reads_one}
use Rattle.cell_core.specs.Meaning.{source_bit, cell_bit}

-- for all bits the source has the bit of the cell; it is there if the cell's operands are, and it
-- is constant 1 only if one of them is
pub record StandsFor (cell : Cell) (src : Src) : Type 0 where
  pub bit : (inputs state made : List Bool)
      → source_bit inputs state made src ≡ cell_bit inputs state made cell
  pub there : (inputs latches made : ℕ) → IsTrue (reads_there inputs latches made cell)
      → IsTrue (is_there inputs latches made src)
  pub one : is_one src ≡ true → reads_one cell ≡ true

-- for all bits the two cells have the same bit
abbrev pub HaveSameBit : Cell → Cell → Type 0
HaveSameBit a b =
    (inputs state made : List Bool) → cell_bit inputs state made a ≡ cell_bit inputs state made b
