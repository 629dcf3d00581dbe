-- Words of bits of up to 64 cells, and fields into which they are put.
use Rattle.std.specs.Prelude.{ℕ, ◌/◌, ◌%◌, ◌<◌, ◌≡◌, ◌≢◌, List}
use Rattle.std.specs.Int.RustNames.{bit_and}
use Rattle.lists.specs.Bits.{has_bit}
use Rattle.ww_rule.specs.declared.pattern.State.{State}
use Rattle.ww_rule.specs.Grid.{row_cell}
use Rattle.lane_kernel.specs.Rows.{state_of}
use Rattle.band_rows.specs.declared.cell_bits.CellBits.{CellBits}
use Rattle.band_rows.specs.declared.field.Field.{Field}
use Rattle.band_rows.specs.Fields.{field_state, AreOfOneSize, IsClosedField}

-- the state of cell b by its bits
abbrev pub state_by : CellBits → ℕ → State
state_by bits b = state_of (has_bit bits.heads b) (has_bit bits.tails b) (has_bit bits.cells b)

-- heads and tails have bits only where there are cells
pub record IsOnCells (bits : CellBits) : Type 0 where
  pub heads : bit_and bits.cells bits.heads ≡ bits.heads
  pub tails : bit_and bits.cells bits.tails ≡ bits.tails

-- a field in which the cells of row k in word column c got these states
pub record HasWordPut (cells : List State) (c k : ℕ) (old new : Field) : Type 0 where
  pub closed : IsClosedField new
  pub size : AreOfOneSize old new
  pub marks : new.marks ≡ old.marks
  pub here : (u : ℕ) → u / 64 ≡ c → field_state new u k ≡ row_cell cells (u % 64)
  pub other : (u j : ℕ) → j < old.rows → (u / 64 ≡ c → j ≢ k) → field_state new u j ≡ field_state old u j
