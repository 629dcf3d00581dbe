-- Sources and cells under other numbers of cells.
use Rattle.std.specs.Prelude.{◌≡◌, ℕ, ◌<◌, true, Bool, List, length, get_or, Option, Some, None, option_map, option_and_then}
use Rattle.cell_core.specs.declared.cells.Src.{Src}
use Rattle.cell_core.specs.declared.cells.Src.TheVariants.{Input, Latch, One, Zero, Cell as Made}
use Rattle.cell_core.specs.declared.cells.Cell.{Cell}
use Rattle.cell_core.specs.declared.cells.Cell.TheVariants.{Or, Xor, AndNot}
use Rattle.cell_core.specs.declared.list.CellList.{CellList}
use Rattle.cell_core.specs.Sources.{are_in_order}
use Rattle.cell_core.specs.Meaning.{bit_in}
use Rattle.cell_meaning.specs.Origins.{maker_on}

-- the new number of each cell that has one
abbrev pub Numbers : Type 0
Numbers = List (Option ℕ)

-- a source under the new numbers, if it has one
abbrev pub renamed : Numbers → Src → Option Src
renamed numbers (Input i) = Some (Input i)
renamed numbers (Latch i) = Some (Latch i)
renamed numbers One = Some One
renamed numbers Zero = Some Zero
renamed numbers (Made i) = option_map Made (get_or numbers i None)

-- a cell under the new numbers, if each source has one
abbrev pub renamed_cell : Numbers → Cell → Option Cell
renamed_cell numbers (Or a b) =
    option_and_then (λ x. option_map (Or x) (renamed numbers b)) (renamed numbers a)
renamed_cell numbers (Xor a b) =
    option_and_then (λ x. option_map (Xor x) (renamed numbers b)) (renamed numbers a)
renamed_cell numbers (AndNot a b) =
    option_and_then (λ x. option_map (AndNot x) (renamed numbers b)) (renamed numbers a)

-- Cells are in order, and each that a new number names has the bit of the cell whose number it
-- replaces, and is of its kind.
pub record AreRenamed (list : CellList) (cells : List Cell) (numbers : Numbers) : Type 0 where
  pub in_order : are_in_order list.inputs (length list.starts) 0 cells ≡ true
  pub there : (i m : ℕ) → get_or numbers i None ≡ Some m → m < length cells
  pub bits : (i m : ℕ) → get_or numbers i None ≡ Some m → (inputs state : List Bool)
      → bit_in cells inputs state (Made m) ≡ bit_in list.cells inputs state (Made i)
  pub makers : (i m : ℕ) → get_or numbers i None ≡ Some m → (lane : ℕ)
      → maker_on cells lane (Made m) ≡ maker_on list.cells lane (Made i)
