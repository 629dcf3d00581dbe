-- A list of cells that stands by itself, put into a larger list.
use Rattle.std.specs.Prelude.{ℕ, Bool, List, [], get_or, take, length, ◌≡◌, true, ◌⊎◌}
use Rattle.std.specs.List.{list_any}
use Rattle.cell_core.specs.declared.cells.Src.{Src}
use Rattle.cell_core.specs.declared.cells.Src.TheVariants.{Input, Latch, One, Zero, Cell as Made}
use Rattle.cell_core.specs.declared.cells.Cell.{Cell}
use Rattle.cell_core.specs.declared.cells.Cell.TheVariants.{Or, Xor, AndNot}
use Rattle.cell_core.specs.declared.list.CellList.{CellList}
use Rattle.cell_core.specs.Sources.{is_one, read_one}
use Rattle.cell_core.specs.Meaning.{cell_bits}
use Rattle.cell_sharing.specs.Grown.{HasSources, bits_of, Grows}

-- input i stands for the i-th source, and cell j for the j-th that was made
abbrev pub relocated : List Src → List Src → Src → Src
relocated sources made (Input i) = get_or sources i Zero
relocated sources made (Latch i) = Zero
relocated sources made One = One
relocated sources made Zero = Zero
relocated sources made (Made i) = get_or made i Zero

abbrev pub relocated_cell : List Src → List Src → Cell → Cell
relocated_cell sources made (Or a b) = Or (relocated sources made a) (relocated sources made b)
relocated_cell sources made (Xor a b) = Xor (relocated sources made a) (relocated sources made b)
relocated_cell sources made (AndNot a b) =
    AndNot (relocated sources made a) (relocated sources made b)

-- constant 1 is read because one of the sources is it, or because one of the cells reads it
abbrev pub ReadsOne : List Src → List Cell → Type 0
ReadsOne sources cells = (list_any is_one sources ≡ true) ⊎ (read_one cells ≡ true)

-- each of the first `count` cells has a source in the list with its bit
pub record ArePlaced (old new : CellList) (sources : List Src) (cells : List Cell) (count : ℕ)
    (made : List Src) : Type 0 where
  pub long : length made ≡ count
  pub grows : Grows old new count (ReadsOne sources cells)
  pub there : HasSources new made
  pub one : list_any is_one made ≡ true → ReadsOne sources cells
  pub bits : (inputs state : List Bool)
      → bits_of new made inputs state ≡ cell_bits (bits_of old sources inputs state) []
      (take count cells)
