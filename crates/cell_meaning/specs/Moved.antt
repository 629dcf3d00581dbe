-- Cells that move to other places, and the sources that stand for them there.
use Rattle.std.specs.Prelude.{◌≡◌, ℕ, true, Bool, List, length, get_or, Option, Some, None, option_map, option_and_then}
use Rattle.std.specs.Option.{unwrap_or}
use Rattle.cell_core.specs.declared.cells.Src.{Src}
use Rattle.cell_core.specs.declared.cells.Src.TheVariants.{Input, Latch, One, Zero, Cell as Made}
use Rattle.cell_core.specs.declared.cells.Cell.{Cell}
use Rattle.cell_core.specs.declared.cells.Cell.TheVariants.{Or, Xor, AndNot}
use Rattle.cell_core.specs.declared.list.CellList.{CellList}
use Rattle.cell_core.specs.Sources.{is_there, are_in_order}
use Rattle.cell_core.specs.Meaning.{bit_in, bit_of}
use Rattle.cell_meaning.specs.Same.{MovesBy}

-- for each cell of a list that has moved, its new source
abbrev pub NewSources : Type 0
NewSources = List (Option Src)

-- the new source of a source, if it has one
abbrev pub new_source : NewSources → Src → Option Src
new_source news (Input i) = Some (Input i)
new_source news (Latch i) = Some (Latch i)
new_source news One = Some One
new_source news Zero = Some Zero
new_source news (Made i) = get_or news i None

-- the cell with its sources replaced by their new ones, if each has one
abbrev pub new_cell : NewSources → Cell → Option Cell
new_cell news (Or a b) =
    option_and_then (λ x. option_map (Or x) (new_source news b)) (new_source news a)
new_cell news (Xor a b) =
    option_and_then (λ x. option_map (Xor x) (new_source news b)) (new_source news a)
new_cell news (AndNot a b) =
    option_and_then (λ x. option_map (AndNot x) (new_source news b)) (new_source news a)

-- the new source of a source, or itself if it has none
abbrev pub goes_to : NewSources → Src → Src
goes_to news src = unwrap_or (new_source news src) src

-- The new cells are in order, and the new source of each cell is there and has the cell's bit.
pub record AreMoved (list : CellList) (cells : List Cell) (news : NewSources) : Type 0 where
  pub in_order : are_in_order list.inputs (length list.starts) 0 cells ≡ true
  pub there : (i : ℕ) (src : Src) → get_or news i None ≡ Some src
      → is_there list.inputs (length list.starts) (length cells) src ≡ true
  pub bits : (i : ℕ) (src : Src) → get_or news i None ≡ Some src → (inputs state : List Bool)
      → bit_in cells inputs state src ≡ bit_of list inputs state (Made i)

-- the new list is made of the cells that have moved, and each source goes to its new one
pub record IsRebuilt (list : CellList) (news : NewSources) (new : CellList) : Type 0 where
  pub moves : MovesBy list (goes_to news) new
  pub are : AreMoved list new.cells news
