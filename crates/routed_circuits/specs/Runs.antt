-- Runs of a list of cells.
use Rattle.std.specs.Prelude.{ℕ, zero, suc, ◌<◌, ◌≡◌, Bool, List, length, map, get_or}
use Rattle.lists.specs.Items.{list_at}
use Rattle.cell_core.specs.declared.cells.Src.{Src}
use Rattle.cell_core.specs.declared.cells.Src.TheVariants.{Latch, Zero}
use Rattle.cell_core.specs.declared.list.CellList.{CellList}
use Rattle.cell_core.specs.Meaning.{bit_of}

-- the source at a place; past the end it is constant 0
abbrev pub src_at : List Src → ℕ → Src
src_at sources i = get_or sources i Zero

-- the bits of the latches in a cycle of the run on these rows of input bits, after which all bits
-- are 0
abbrev pub list_state : CellList → List (List Bool) → ℕ → List Bool
list_state list rows zero = list.starts
list_state list rows (suc t) =
    map (bit_of list (list_at rows t) (list_state list rows t)) list.latches

-- the bit of a source in a cycle of this run
abbrev pub list_bit : CellList → List (List Bool) → ℕ → Src → Bool
list_bit list rows t src = bit_of list (list_at rows t) (list_state list rows t) src

-- The second source is the first one, so many latches later.
abbrev pub IsDelayed : CellList → (latches : ℕ) → (from to : Src) → Type 0
IsDelayed list zero from to = to ≡ from
IsDelayed list (suc m) from to =
    (l : ℕ) × (l < length list.latches) × (to ≡ Latch l)
    × IsDelayed list m from (src_at list.latches l)
