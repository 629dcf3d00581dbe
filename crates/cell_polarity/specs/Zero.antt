-- The bits of sources at zero: while all inputs and latches are 0.
use Rattle.std.specs.Prelude.{ℕ, ◌≡◌, Bool, false, ◌&&◌, not, cond, List, []}
use Rattle.cell_core.specs.declared.cells.Src.{Src}
use Rattle.cell_core.specs.declared.cells.Cell.{Cell}
use Rattle.cell_core.specs.declared.cells.Cell.TheVariants.{Or, Xor, AndNot}
use Rattle.cell_core.specs.declared.list.CellList.{CellList}
use Rattle.cell_core.specs.Sources.{is_one, read_one}
use Rattle.cell_core.specs.Meaning.{bit_in, bit_of}

-- the bit of a source at zero; a bit that is not given counts as 0
abbrev pub zero_bit : CellList → Src → Bool
zero_bit list src = bit_of list [] [] src

-- the bit, or its complement if the first bit is 1
abbrev pub complement_if : Bool → Bool → Bool
complement_if by bit = cond by (not bit) bit

-- How many cells a cell becomes at most, if each operand that is 1 at zero is read as its
-- complement: two where what is left is the AND of the operands that are read, else one.
abbrev pub cells_for : CellList → Cell → ℕ
cells_for list (Or a b) = cond (zero_bit list a && zero_bit list b) 2 1
cells_for list (Xor a b) = 1
cells_for list (AndNot a b) = cond (not (zero_bit list a) && zero_bit list b) 2 1

-- where no cell reads constant 1, each source but constant 1 itself is 0 at zero
abbrev pub NothingIsOneAtZero : Type 0
NothingIsOneAtZero =
    (cells : List Cell) (src : Src) → read_one cells ≡ false → is_one src ≡ false
    → bit_in cells [] [] src ≡ false
