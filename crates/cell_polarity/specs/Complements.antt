-- Lists in which what is 1 at zero is kept as its complement.
use Rattle.std.specs.Prelude.{◌+◌, ◌≤◌, ◌≡◌, Bool, true, false, List, ◌++◌, length, sum_by, count_by, Contains}
use Rattle.std.specs.List.{list_any}
use Rattle.cell_core.specs.declared.cells.Src.{Src}
use Rattle.cell_core.specs.declared.cells.Cell.{Cell}
use Rattle.cell_core.specs.declared.list.CellList.{CellList}
use Rattle.cell_core.specs.Sources.{is_there, read_one}
use Rattle.cell_core.specs.Loops.{names_one}
use Rattle.cell_core.specs.Meaning.{bit_in, bit_of}
use Rattle.cell_meaning.specs.Same.{Keeps}
use Rattle.cell_polarity.specs.Zero.{zero_bit, complement_if, cells_for}
use Rattle.cell_polarity.specs.Needed.{needed}

-- Among these cells, the source stands for one of the list: it is there, and under all inputs and
-- states its bit is that of the other, or the complement if that one is 1 at zero.
pub record StandsLow (old : CellList) (low : List Cell) (src by : Src) : Type 0 where
  pub there : is_there old.inputs (length old.starts) (length low) by ≡ true
  pub bit : (inputs state : List Bool)
      → bit_in low inputs state by ≡ complement_if (zero_bit old src) (bit_of old inputs state src)

-- The new list has low cells and then high ones. The low cells read no constant 1, and each source
-- of the old list that is there has one among them that stands for it; there are at most
-- `cells_for` for all cells. The high cells give the needed sources their own bits: at most one for
-- each of these that is 1 at zero, and one for each kept source. So inputs, starts, and the bits of
-- outputs, data and nets are as before, and kept sources stay the cells that they are. Constant 1
-- is named only where a needed source is 1 at zero.
pub record Complements (old : CellList) (kept : List Src) (new : CellList)
    (still : List Src) : Type 0 where
  pub keeps : Keeps old kept new still
  pub low : List Cell
  pub high : List Cell
  pub cells : new.cells ≡ low ++ high
  pub without_one : read_one low ≡ false
  pub stands : (src : Src) → is_there old.inputs (length old.starts) (length old.cells) src ≡ true
      → (by : Src) × StandsLow old low src by
  pub few_low : length low ≤ sum_by (cells_for old) old.cells
  pub few_high : length high ≤ count_by (zero_bit old) (needed old kept) + length kept
  pub own : (src : Src) → Contains (needed old kept) src → (inputs state : List Bool)
      → bit_of new inputs state (keeps.to src) ≡ bit_of old inputs state src
  pub one : names_one new ≡ true → list_any (zero_bit old) (needed old kept) ≡ true
