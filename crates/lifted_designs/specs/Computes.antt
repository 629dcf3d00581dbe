-- A list of cells that computes a design: in each valuation of the design, its outputs and next
-- states are those of the list, whose latches are the design's, in order.
use Rattle.std.specs.Prelude.{◌≡◌, Bool, false, List, length, map}
use Rattle.netlist_core.specs.declared.model.Design.{Design}
use Rattle.netlist_core.specs.Names.{Name}
use Rattle.netlist_meaning.specs.Nets.{IsInNames}
use Rattle.netlist_meaning.specs.Valuation.{Valuation, LatchState, IsValuation, start_state, latches_after, output_bits}
use Rattle.flat_designs.specs.Laws.{state_in_order}
use Rattle.cell_core.specs.declared.list.CellList.{CellList}
use Rattle.cell_core.specs.Meaning.{bit_of}
use Rattle.cell_core.specs.Loops.{names_one}
use Rattle.lifted_designs.specs.Lifted.{lifted_design}

pub record ComputesDesign (list : CellList) (design : Design) : Type 0 where
  pub inputs : (names : List Name) → IsInNames design names → length names ≡ list.inputs
  pub starts : list.starts ≡ state_in_order design (start_state design)
  pub state : (state : LatchState) → length (state_in_order design state) ≡ length list.starts
  pub outs : (inputs : List Bool) (state : LatchState) (bits : Valuation)
      → IsValuation design inputs state bits
      → map (bit_of list inputs (state_in_order design state)) list.outs ≡ output_bits design bits
  pub latch_data : (inputs : List Bool) (state : LatchState) (bits : Valuation)
      → IsValuation design inputs state bits
      → map (bit_of list inputs (state_in_order design state)) list.latches
      ≡ state_in_order design (latches_after design bits)

-- a list that names no constant 1 computes the netlist that is lifted from it, with a name for each
-- input and each output
abbrev pub ListsComputeLifted : Type 0
ListsComputeLifted =
    (list : CellList) (ins outs : List Name) → length ins ≡ list.inputs
    → length outs ≡ length list.outs → names_one list ≡ false
    → ComputesDesign list (lifted_design ins outs list)
