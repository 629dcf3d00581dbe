-- What a plan's columns do to sources on lanes: each gate makes a cell of the two sources that it
-- finds.
use Rattle.std.specs.Prelude.{ℕ, ◌+◌, ◌-◌, List, [], ◌∷◌, ◌++◌, map, fold, length, slice_index_or, slice_set, replicate}
use Rattle.std.specs.List.{range_with_len}
use Rattle.lane_core.specs.declared.instr.Instr.{Instr}
use Rattle.lane_core.specs.declared.instr.Instr.TheVariants.{Swap, Fork, Xor, Or, AndNot}
use Rattle.lane_core.specs.declared.instr.Column.{Column}
use Rattle.lane_core.specs.declared.plan.Plan.{Plan}
use Rattle.lane_core.specs.Instrs.{lane_of}
use Rattle.lane_core.specs.Entering.{first_loop_lane}
use Rattle.cell_core.specs.declared.cells.Src.{Src}
use Rattle.cell_core.specs.declared.cells.Src.TheVariants.{Input, Latch, Zero, Cell as Made}
use Rattle.cell_core.specs.declared.cells.Cell.{Cell}
use Rattle.cell_core.specs.declared.cells.Cell.TheVariants as cell

-- the cells so far, and the source on each lane
pub record Lanes : Type 0 where
  pub cells : List Cell
  pub sources : List Src

abbrev pub lanes_of : List Cell → List Src → Lanes
lanes_of cells sources = record { cells = cells; sources = sources }

abbrev pub source_on : List Src → ℕ → Src
source_on sources lane = slice_index_or sources lane Zero

-- the cell that an instruction makes of the sources on its lanes, if it is a gate
abbrev pub cells_made : Instr → Src → Src → List Cell
cells_made (Swap i) a b = []
cells_made (Fork i) a b = []
cells_made (Xor i) a b = cell.Xor a b ∷ []
cells_made (Or i) a b = cell.Or a b ∷ []
cells_made (AndNot i) a b = cell.AndNot a b ∷ []

-- what an instruction puts on its upper lane, if the next cell has this number, and below, on its
-- lower lane
abbrev pub upper_source : Instr → ℕ → Src → Src → Src
upper_source (Swap i) next a b = b
upper_source (Fork i) next a b = a
upper_source (Xor i) next a b = Made next
upper_source (Or i) next a b = Made next
upper_source (AndNot i) next a b = Made next

abbrev pub lower_source : Instr → Src → Src → Src
lower_source (Swap i) a b = a
lower_source (Fork i) a b = a
lower_source (Xor i) a b = Zero
lower_source (Or i) a b = Zero
lower_source (AndNot i) a b = Zero

abbrev pub lift_instr : Lanes → Instr → Lanes
lift_instr lanes instr =
    let a = source_on lanes.sources (lane_of instr) in
    let b = source_on lanes.sources (lane_of instr + 1) in
    record {
      cells = lanes.cells ++ cells_made instr a b;
      sources =
          slice_set (slice_set lanes.sources (lane_of instr)
          (upper_source instr (length lanes.cells) a b)) (lane_of instr + 1)
          (lower_source instr a b);
    }

abbrev pub lift_instrs : Lanes → List Instr → Lanes
lift_instrs lanes instrs = fold lift_instr lanes instrs

abbrev pub lift_column : Lanes → Column → Lanes
lift_column lanes column = lift_instrs lanes column.instrs

abbrev pub lift_columns : Lanes → List Column → Lanes
lift_columns lanes columns = fold lift_column lanes columns

-- the sources with inputs put on lanes, from the input of this number on
abbrev pub sources_with_inputs : ℕ → List ℕ → List Src → List Src
sources_with_inputs i [] sources = sources
sources_with_inputs i (lane ∷ lanes) sources =
    sources_with_inputs (i + 1) lanes (slice_set sources lane (Input i))

-- what enters the columns: the inputs, constant 0 on the other lanes that no loop enters, and the
-- loops
abbrev pub entry_sources : Plan → List Src
entry_sources plan =
    sources_with_inputs 0 plan.ins (replicate (first_loop_lane plan.lanes plan.latches) Zero)
    ++ map Latch (range_with_len 0 plan.latches)

abbrev pub entry_lanes : Plan → Lanes
entry_lanes plan = record { cells = []; sources = entry_sources plan }

-- the sources that leave the columns on these lanes, and below, those that leave on the lanes of
-- loops
abbrev pub sources_on : List Src → List ℕ → List Src
sources_on sources lanes = map (source_on sources) lanes

abbrev pub sources_leaving : List Src → ℕ → ℕ → List Src
sources_leaving sources lanes loops =
    map (λ number. source_on sources (lanes - 1 - number)) (range_with_len 0 loops)
