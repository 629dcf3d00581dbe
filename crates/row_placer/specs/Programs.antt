-- The bits that enter a program.
use Rattle.std.specs.Prelude.{ℕ, Bool, List, length}
use Rattle.cell_core.specs.declared.list.CellList.{CellList}
use Rattle.cell_core.specs.Loops.{loop_state}
use Rattle.lane_core.specs.declared.plan.Program.{Program}
use Rattle.lane_core.specs.Entering.{first_loop_lane, entry_bits}

-- the lanes that no loop enters
abbrev pub free_lanes : Program → ℕ
free_lanes p = first_loop_lane p.lanes (length p.latches)

-- the bits on all lanes at the start, for the bits of the inputs and of the latches
abbrev pub program_bits : CellList → Program → List Bool → List Bool → List Bool
program_bits list p inputs state = entry_bits (free_lanes p) p.ins inputs (loop_state list state)
