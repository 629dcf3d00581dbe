-- Lists of cells that compute the same.
use Rattle.std.specs.Prelude.{ℕ, ◌≤◌, ◌≡◌, Bool, true, false, List, length, map, Contains, slice_get, Some}
use Rattle.cell_core.specs.declared.cells.Src.{Src}
use Rattle.cell_core.specs.declared.cells.Src.TheVariants.{Input, Latch, One, Zero, Cell as Made}
use Rattle.cell_core.specs.declared.cells.Cell.{Cell}
use Rattle.cell_core.specs.declared.cells.Cell.TheVariants.{Or, Xor, AndNot}
use Rattle.cell_core.specs.declared.list.CellList.{CellList}
use Rattle.cell_core.specs.Meaning.{bit_of}
use Rattle.cell_core.specs.Loops.{names_one}
use Rattle.cell_meaning.specs.Mapped.{IsCell}

-- the source is a cell
abbrev pub is_cell : Src → Bool
is_cell (Input i) = false
is_cell (Latch i) = false
is_cell One = false
is_cell Zero = false
is_cell (Made i) = true

-- the same kind of cell over the sources to which its own go
abbrev pub cell_over : (Src → Src) → Cell → Cell
cell_over to (Or a b) = Or (to a) (to b)
cell_over to (Xor a b) = Xor (to a) (to b)
cell_over to (AndNot a b) = AndNot (to a) (to b)

-- if the source is a cell of the old list, it goes to that cell in the new one: the kind stays, and
-- each operand goes where `to` sends it
abbrev pub StaysCell : CellList → CellList → (Src → Src) → Src → Type 0
StaysCell old new to src =
    (cell : Cell) → IsCell old src cell → IsCell new (to src) (cell_over to cell)

-- if the source is a cell of the old list, the source to which it goes has the bit that it had
abbrev pub StaysBit : CellList → CellList → (Src → Src) → Src → Type 0
StaysBit old new to src =
    (cell : Cell) → IsCell old src cell → (inputs state : List Bool)
    → bit_of new inputs state (to src) ≡ bit_of old inputs state src

-- `to` gives where each source goes, and one that is no cell stays. Inputs and starts are the same.
-- Outputs, latches' data and nets go where their sources go, and under all inputs and states they
-- have the bits that they had.
pub record MovesBy (old : CellList) (to : Src → Src) (new : CellList) : Type 0 where
  pub stays : (src : Src) → is_cell src ≡ false → to src ≡ src
  pub inputs : new.inputs ≡ old.inputs
  pub starts : new.starts ≡ old.starts
  pub outs_go : new.outs ≡ map to old.outs
  pub latches_go : new.latches ≡ map to old.latches
  pub nets_go : new.nets ≡ map to old.nets
  pub outs : (inputs state : List Bool)
      → map (bit_of new inputs state) new.outs ≡ map (bit_of old inputs state) old.outs
  pub latches : (inputs state : List Bool)
      → map (bit_of new inputs state) new.latches ≡ map (bit_of old inputs state) old.latches
  pub nets : (inputs state : List Bool)
      → map (bit_of new inputs state) new.nets ≡ map (bit_of old inputs state) old.nets

-- The new list computes the same: sources move, the kept ones stay the cells that they are and have
-- the bits that they had, there are no more cells, and constant 1 is named only if it was.
pub record Rewrites (old : CellList) (kept : List Src) (new : CellList) : Type 0 where
  pub to : Src → Src
  pub moves : MovesBy old to new
  pub cells : (src : Src) → Contains kept src → StaysCell old new to src
  pub bits : (src : Src) → Contains kept src → StaysBit old new to src
  pub few : length new.cells ≤ length old.cells
  pub one : names_one new ≡ true → names_one old ≡ true

-- Sources move, and the kept ones stay the cells that they are and have the bits that they had.
-- `still` are the sources of the new list to which the kept ones go.
pub record Keeps (old : CellList) (kept : List Src) (new : CellList)
    (still : List Src) : Type 0 where
  pub to : Src → Src
  pub moves : MovesBy old to new
  pub cells : (src : Src) → Contains kept src → StaysCell old new to src
  pub bits : (src : Src) → Contains kept src → StaysBit old new to src
  pub follow : still ≡ map to kept

-- there are no more cells, and constant 1 is named only if it was
pub record IsNoLarger (old new : CellList) : Type 0 where
  pub few : length new.cells ≤ length old.cells
  pub one : names_one new ≡ true → names_one old ≡ true

-- the new list keeps the kept sources and is no larger
pub record IsRewritten (old : CellList) (kept : List Src) (new : CellList)
    (still : List Src) : Type 0 where
  pub keeps : Keeps old kept new still
  pub no_larger : IsNoLarger old new

-- the two lists are equal in all their parts
pub record AreAlike (old new : CellList) : Type 0 where
  pub inputs : new.inputs ≡ old.inputs
  pub cells : new.cells ≡ old.cells
  pub outs : new.outs ≡ old.outs
  pub latches : new.latches ≡ old.latches
  pub starts : new.starts ≡ old.starts
  pub nets : new.nets ≡ old.nets
