-- Sources that are read in place of cells.
use Rattle.std.specs.Prelude.{ℕ, ◌<◌, ◌≡◌, true, Bool, List, length, get_or, Option, Some, None}
use Rattle.cell_core.specs.declared.cells.Src.{Src}
use Rattle.cell_core.specs.declared.cells.Src.TheVariants.{Cell as Made}
use Rattle.cell_core.specs.declared.cells.Cell.{Cell}
use Rattle.cell_core.specs.declared.list.CellList.{CellList}
use Rattle.cell_core.specs.Adding.{Adds}
use Rattle.cell_core.specs.Meaning.{bit_of}
use Rattle.cell_core.specs.Sources.{is_there}

-- the two sources have the same bit, under all inputs and states
abbrev pub AreEquivalent : CellList → Src → Src → Type 0
AreEquivalent list a b =
    (inputs state : List Bool) → bit_of list inputs state a ≡ bit_of list inputs state b

-- Each source that is read in place of a cell is there, and has the cell's bit.
pub record AreEqual (list : CellList) (instead : List (Option Src)) : Type 0 where
  pub within : (i : ℕ) (src : Src) → get_or instead i None ≡ Some src → i < length list.cells
  pub there : (i : ℕ) (src : Src) → get_or instead i None ≡ Some src
      → is_there list.inputs (length list.starts) (length list.cells) src ≡ true
  pub bit : (i : ℕ) (src : Src) → get_or instead i None ≡ Some src → AreEquivalent list (Made i) src

-- the source may be read in place of the cell
pub record IsSubstitute (list : CellList) (cell : ℕ) (by : Src) : Type 0 where
  pub within : cell < length list.cells
  pub there : is_there list.inputs (length list.starts) (length list.cells) by ≡ true
  pub bit : AreEquivalent list (Made cell) by

-- the new list has more cells at its end, and all else as in the old one
abbrev pub Extends : CellList → CellList → Type 0
Extends old new = (more : List Cell) × Adds old new more
