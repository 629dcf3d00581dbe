-- What lists of cells mean under the bits of inputs and of latches.
use Rattle.std.specs.Prelude.{◌≡◌, Bool, true, false, ◌&&◌, ◌||◌, not, List, [], ◌∷◌, ◌++◌, fold, get_or, length}
use Rattle.cell_core.specs.declared.cells.Src.{Src}
use Rattle.cell_core.specs.declared.cells.Src.TheVariants.{Input, Latch, One, Zero, Cell as Made}
use Rattle.cell_core.specs.declared.cells.Cell.{Cell}
use Rattle.cell_core.specs.declared.cells.Cell.TheVariants.{Or, Xor, AndNot}
use Rattle.cell_core.specs.declared.list.CellList.{CellList}

-- the bit of a source, if the first cells have made these bits
abbrev pub source_bit : List Bool → List Bool → List Bool → Src → Bool
source_bit inputs state made (Input i) = get_or inputs i false
source_bit inputs state made (Latch i) = get_or state i false
source_bit inputs state made One = true
source_bit inputs state made Zero = false
source_bit inputs state made (Made i) = get_or made i false

-- the bit that a cell makes, if the cells before it have made these bits
abbrev pub cell_bit : List Bool → List Bool → List Bool → Cell → Bool
cell_bit inputs state made (Or a b) =
    source_bit inputs state made a || source_bit inputs state made b
cell_bit inputs state made (Xor a b) =
    (source_bit inputs state made a || source_bit inputs state made b)
    && not (source_bit inputs state made a && source_bit inputs state made b)
cell_bit inputs state made (AndNot a b) =
    source_bit inputs state made a && not (source_bit inputs state made b)

-- these bits, and after them those of the cells
abbrev pub bits_from : List Bool → List Bool → List Bool → List Cell → List Bool
bits_from inputs state made cells =
    fold (λ made cell. made ++ cell_bit inputs state made cell ∷ []) made cells

-- the bits of cells, the first of them first
abbrev pub cell_bits : List Bool → List Bool → List Cell → List Bool
cell_bits inputs state cells = bits_from inputs state [] cells

-- the bit of a source of cells
abbrev pub bit_in : List Cell → List Bool → List Bool → Src → Bool
bit_in cells inputs state src = source_bit inputs state (cell_bits inputs state cells) src

-- the bit of a source of a list
abbrev pub bit_of : CellList → List Bool → List Bool → Src → Bool
bit_of list inputs state src = bit_in list.cells inputs state src

-- the list has an input for each of the bits, and a latch for each bit of the state
pub record Fits (list : CellList) (inputs state : List Bool) : Type 0 where
  pub row : length inputs ≡ list.inputs
  pub latches : length state ≡ length list.starts
