-- The loops of a circuit: one for each latch and, if the list names constant 1, a last one that
-- starts with 1 and brings it in each cycle.
use Rattle.std.specs.Prelude.{ℕ, ◌+◌, Bool, true, ◌||◌, cond, List, [], ◌∷◌, ◌++◌, length}
use Rattle.std.specs.List.{list_any}
use Rattle.cell_core.specs.declared.cells.Src.{Src}
use Rattle.cell_core.specs.declared.cells.Src.TheVariants.{One}
use Rattle.cell_core.specs.declared.list.CellList.{CellList}
use Rattle.cell_core.specs.Sources.{is_one, read_one}

-- a cell, an output, a latch or a net reads constant 1
abbrev pub names_one : CellList → Bool
names_one list =
    ((read_one list.cells || list_any is_one list.outs) || list_any is_one list.latches)
    || list_any is_one list.nets

-- how many loops there are
abbrev pub loop_count : CellList → ℕ
loop_count list = length list.starts + cond (names_one list) 1 0

-- the bits of the loops, if the latches have these
abbrev pub loop_state : CellList → List Bool → List Bool
loop_state list state = state ++ cond (names_one list) (true ∷ []) []

-- what the loops read
abbrev pub loop_data : CellList → List Src
loop_data list = list.latches ++ cond (names_one list) (One ∷ []) []
