-- Sources of one list that stand for those of another.
use Rattle.std.specs.Prelude.{ℕ, ◌<◌, ◌≡◌, ◌⊎◌, true, List, length, map, get_or, slice_get, Some}
use Rattle.lists.specs.Items.{flag_at}
use Rattle.cell_core.specs.declared.cells.Src.{Src}
use Rattle.cell_core.specs.declared.cells.Src.TheVariants.{Input, Latch, One, Zero, Cell as Made}
use Rattle.cell_core.specs.declared.cells.Cell.{Cell}
use Rattle.cell_core.specs.declared.cells.Cell.TheVariants.{Or, Xor, AndNot}
use Rattle.cell_core.specs.declared.list.CellList.{CellList}
use Rattle.cell_meaning.specs.Same.{cell_over}
use Rattle.routed_circuits.specs.Runs.{src_at}

-- the cell with a number; past the end it is one that makes 0
abbrev pub made_at : List Cell → ℕ → Cell
made_at cells n = get_or cells n (Or Zero Zero)

-- what stands for a source: an input and a constant stand for themselves, and for a latch and a
-- cell there are lists of sources
abbrev pub stand_in : (cells latches : List Src) → Src → Src
stand_in cells latches (Input i) = Input i
stand_in cells latches (Latch l) = src_at latches l
stand_in cells latches One = One
stand_in cells latches Zero = Zero
stand_in cells latches (Made n) = src_at cells n

-- the cell with its two operands exchanged, if that changes nothing
abbrev pub turned_cell : Cell → Cell
turned_cell (Or a b) = Or b a
turned_cell (Xor a b) = Xor b a
turned_cell (AndNot a b) = AndNot a b

-- the source is a cell among these that is this one, or this one turned
abbrev pub StandsForCell : List Cell → Src → Cell → Type 0
StandsForCell cells src cell =
    (m : ℕ) × (src ≡ Made m)
    × ((slice_get cells m ≡ Some cell) ⊎ (slice_get cells m ≡ Some (turned_cell cell)))

-- The source stands for latch l of the list that was found: a latch with the same start bit, whose
-- data stand for this latch's; or constant 1, if the latch starts with 1 and reads it.
abbrev pub StandsForLatch : (found wanted : CellList) → (to : Src → Src) → (l : ℕ) → Src → Type 0
StandsForLatch found wanted to l (Latch k) =
    (k < length wanted.latches) × (flag_at found.starts l ≡ flag_at wanted.starts k)
    × (to (src_at found.latches l) ≡ src_at wanted.latches k)
StandsForLatch found wanted to l One =
    (flag_at found.starts l ≡ true) × (to (src_at found.latches l) ≡ One)
StandsForLatch found wanted to l src = ⊥

-- Each source of the list that was found has one of the wanted list that stands for it, and its
-- outputs and nets stand for the wanted ones.
pub record AreStandIns (found wanted : CellList) (cells latches : List Src) : Type 0 where
  pub inputs : found.inputs ≡ wanted.inputs
  pub all_cells : length cells ≡ length found.cells
  pub all_latches : length latches ≡ length found.latches
  pub cells_stand : (n : ℕ) → n < length found.cells → StandsForCell wanted.cells (src_at cells n)
      (cell_over (stand_in cells latches) (made_at found.cells n))
  pub latches_stand : (l : ℕ) → l < length found.latches
      → StandsForLatch found wanted (stand_in cells latches) l (src_at latches l)
  pub outs_stand : map (stand_in cells latches) found.outs ≡ wanted.outs
  pub nets_stand : map (stand_in cells latches) found.nets ≡ wanted.nets
