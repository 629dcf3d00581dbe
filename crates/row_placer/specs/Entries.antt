-- Where the nets are found: those that no cell makes, and the others.
use Rattle.std.specs.Prelude.{ℕ, ◌+◌, ◌-◌, ◌<◌, ◌≡◌, List, Some, None, length, get_or, ⊤}
use Rattle.cell_core.specs.declared.cells.Src.{Src}
use Rattle.cell_core.specs.declared.cells.Src.TheVariants.{Input, Latch, One, Zero, Cell as Made}
use Rattle.cell_core.specs.declared.list.CellList.{CellList}
use Rattle.cell_core.specs.Loops.{loop_count}
use Rattle.cell_meaning.specs.Origins.{maker_on}
use Rattle.lane_core.specs.declared.instr.Instr.{Instr}
use Rattle.lane_core.specs.declared.plan.NetPlace.{NetPlace}
use Rattle.row_placer.specs.Told.{instr_at}

-- the place of a source is an entry: an input's lane, or the lane of a latch's loop or of constant
-- 1's, before the first step
abbrev pub IsEntryOf : CellList → ℕ → List ℕ → Src → NetPlace → Type 0
IsEntryOf list lanes ins (Input i) place = (place.lane ≡ get_or ins i 0) × (place.after ≡ None)
IsEntryOf list lanes ins (Latch i) place =
    (place.lane ≡ lanes - loop_count list + i) × (place.after ≡ None)
IsEntryOf list lanes ins One place =
    (place.lane ≡ lanes - loop_count list + length list.starts) × (place.after ≡ None)
IsEntryOf list lanes ins Zero place = place.after ≡ None
IsEntryOf list lanes ins (Made i) place = ⊤

-- each net whose source is an input, a latch or a constant is found at an entry
pub record AreAtEntries (list : CellList) (lanes : ℕ) (ins : List ℕ)
    (nets : List NetPlace) : Type 0 where
  pub long : length nets ≡ length list.nets
  pub each : (k : ℕ) (src : Src) (place : NetPlace) → k < length list.nets
      → IsEntryOf list lanes ins (get_or list.nets k src) (get_or nets k place)

-- each net that a cell makes is found after the cell's instruction, on the upper one of its lanes
abbrev pub AreAtCells : CellList → List Instr → List NetPlace → Type 0
AreAtCells list instrs nets =
    (k : ℕ) (src : Src) (place : NetPlace) (instr : Instr) → k < length list.nets
    → maker_on list.cells (get_or nets k place).lane (get_or list.nets k src) ≡ Some instr
    → instr_at instrs (get_or nets k place).after ≡ Some instr
