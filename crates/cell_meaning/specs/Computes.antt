-- What it means that bits on lanes compute a list of cells.
use Rattle.std.specs.Prelude.{ℕ, ◌≡◌, Bool, List, length, map, Option}
use Rattle.cell_core.specs.declared.list.CellList.{CellList}
use Rattle.cell_core.specs.Meaning.{bit_of, Fits}
use Rattle.cell_core.specs.Loops.{loop_state, loop_count}
use Rattle.lane_core.specs.declared.plan.NetPlace.{NetPlace}
use Rattle.lane_core.specs.declared.plan.Program.{Program}
use Rattle.lane_core.specs.declared.plan.Plan.{Plan}
use Rattle.lane_core.specs.Instrs.{bit_on, after_instrs}
use Rattle.lane_core.specs.Columns.{after_columns}
use Rattle.lane_core.specs.Entering.{first_loop_lane, entry_bits, leaving, bits_after}

-- The bits of inputs enter on the lanes `ins`, which are among the first `free` lanes, and those of
-- loops on the lanes below. After all steps the outputs have their bits on the lanes `outs`, and
-- the loops leave with theirs. The nets have their bits on their lanes, each after the step of its
-- place.
pub record ComputeOnLanes (list : CellList) (free : ℕ) (ins outs : List ℕ) (nets : List NetPlace)
    (after : Option ℕ → List Bool → List Bool) (end : List Bool → List Bool) : Type 0 where
  pub outs_have : (inputs state : List Bool) → Fits list inputs state
      → map (bit_on (end (entry_bits free ins inputs (loop_state list state)))) outs
      ≡ map (bit_of list inputs state) list.outs
  pub loops_leave : (inputs state : List Bool) → Fits list inputs state
      → leaving free (end (entry_bits free ins inputs (loop_state list state)))
      ≡ loop_state list (map (bit_of list inputs state) list.latches)
  pub nets_have : (inputs state : List Bool) → Fits list inputs state
      → map (λ place. bit_on (after place.after
      (entry_bits free ins inputs (loop_state list state))) place.lane) nets
      ≡ map (bit_of list inputs state) list.nets

-- a program computes the list: it has a lane for each input, a loop for each latch, and one more
-- loop for constant 1 if the list names it
pub record ComputesByProgram (list : CellList) (program : Program) : Type 0 where
  pub starts : program.latches ≡ loop_state list list.starts
  pub inputs : length program.ins ≡ list.inputs
  pub bits : ComputeOnLanes list (first_loop_lane program.lanes
      (length program.latches)) program.ins program.outs program.nets
      (bits_after after_instrs program.instrs) (after_instrs program.instrs)

-- a plan computes the list, whichever bits its loops start with
pub record ComputesByPlan (list : CellList) (plan : Plan) : Type 0 where
  pub loops : plan.latches ≡ loop_count list
  pub inputs : length plan.ins ≡ list.inputs
  pub bits : ComputeOnLanes list
      (first_loop_lane plan.lanes plan.latches) plan.ins plan.outs plan.nets
      (bits_after after_columns plan.columns) (after_columns plan.columns)
