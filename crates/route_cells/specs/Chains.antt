-- Rows of latches, followed back from the source at the end.
use Rattle.std.specs.Prelude.{ℕ, ◌+◌, ◌<◌, ◌≡◌, Bool, List, [], length}
use Rattle.lists.specs.Items.{flag_at}
use Rattle.cell_core.specs.declared.cells.Src.{Src}
use Rattle.cell_core.specs.declared.cells.Src.TheVariants.{Latch}
use Rattle.cell_core.specs.declared.list.CellList.{CellList}
use Rattle.routed_circuits.specs.Runs.{src_at, list_bit, IsDelayed}

-- the source is a latch with this start bit, which reads another source
abbrev pub IsLatch : CellList → (at reads : Src) → (start : Bool) → Type 0
IsLatch list at reads start =
    (l : ℕ) × (l < length list.latches) × (at ≡ Latch l) × (reads ≡ src_at list.latches l)
    × (start ≡ flag_at list.starts l)

-- As many latches as there are bits lead back from a source to another one. These are the source's
-- bits in the first cycles, and then it has those of the other one.
pub record LatchesLeadBack (list : CellList) (to : Src) (bits : List Bool) (at : Src) : Type 0 where
  pub delayed : (m : ℕ) (from : Src) → IsDelayed list m from at
      → IsDelayed list (length bits + m) from to
  pub starts : (t : ℕ) → t < length bits → list_bit list [] t to ≡ flag_at bits t
  pub later : (t : ℕ) → list_bit list [] (length bits + t) to ≡ list_bit list [] t at
