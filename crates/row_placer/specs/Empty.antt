-- Lists that ask for no lane.
use Rattle.std.specs.Prelude.{◌+◌, ◌≡◌, length}
use Rattle.cell_core.specs.declared.list.CellList.{CellList}
use Rattle.cell_core.specs.Loops.{loop_count}

-- the list has no input, no loop, no cell, no output and no net
abbrev pub IsEmpty : CellList → Type 0
IsEmpty list =
    list.inputs + loop_count list + length list.cells + length list.outs + length list.nets ≡ 0
