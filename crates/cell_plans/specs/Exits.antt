-- Where those nets of a plan are found that cells make.
use Rattle.std.specs.Prelude.{ℕ, ◌<◌, ◌≡◌, List, Option, Some, length, get_or, Contains}
use Rattle.cell_core.specs.declared.cells.Src.{Src}
use Rattle.cell_core.specs.declared.list.CellList.{CellList}
use Rattle.cell_meaning.specs.Origins.{maker_on}
use Rattle.column_packer.specs.Packing.{instrs_in}
use Rattle.lane_core.specs.declared.instr.Instr.{Instr}
use Rattle.lane_core.specs.declared.instr.Column.{Column}
use Rattle.lane_core.specs.declared.plan.NetPlace.{NetPlace}

-- the place is the exit of a column in which the instruction stands
abbrev pub IsExitOf : List Column → Instr → Option ℕ → Type 0
IsExitOf columns instr after = (c : ℕ) × (after ≡ Some c) × Contains (instrs_in columns c) instr

-- each net that a cell makes is found at the exit of the column of the cell's instruction, on the
-- upper one of its lanes
abbrev pub AreAtExits : CellList → List Column → List NetPlace → Type 0
AreAtExits list columns nets =
    (k : ℕ) (src : Src) (place : NetPlace) (instr : Instr) → k < length list.nets
    → maker_on list.cells (get_or nets k place).lane (get_or list.nets k src) ≡ Some instr
    → IsExitOf columns instr (get_or nets k place).after
