-- Which plans have a drawing, and where their signals are found in it, without a tape. A lane is 16
-- rows high, and its signals run along its row 8. A column is 32 cells wide, and a signal takes 32
-- generations through it.
use Rattle.std.specs.Prelude.{ℕ, ◌+◌, ◌-◌, ◌*◌, ◌^◌, ◌<◌, ◌≤◌, ◌≡◌, ◌==◌, ◌↔◌, length, All, slice_index, slice_index_or, Option, Some, None, List, map, if◌then◌else◌}
use Rattle.lane_core.specs.declared.plan.NetPlace.{NetPlace}
use Rattle.lane_core.specs.declared.plan.Plan.{Plan}
use Rattle.lane_core.specs.Columns.{IsColumnOnLanes, IsColumnApart}
use Rattle.lane_core.specs.Places.{AreDistinctBelow, IsPlaceWithin}
use Rattle.lane_core.specs.Tape.{HasFittingTape, tape_shift}
pub use Rattle.lane_core.specs.Times.{latency_of, period_of}

-- how many lanes, columns and loops a plan may have; it has no columns exactly if it has no lanes
pub record HasFittingSize (plan : Plan) : Type 0 where
  pub lanes : plan.lanes < 2 ^ 32
  pub columns : length plan.columns < 2 ^ 40
  pub both : (plan.lanes ≡ 0) ↔ (length plan.columns ≡ 0)
  pub loops_on_lanes : plan.latches ≤ plan.lanes
  pub loops_in_columns : plan.latches ≤ length plan.columns

-- The plan can be drawn, whichever edges are lit at its start. If it has no lanes, these rules
-- leave no columns, ports or nets.
pub record IsAdmissible (plan : Plan) : Type 0 where
  pub size : HasFittingSize plan
  pub instrs : All (IsColumnOnLanes plan.lanes) plan.columns
  pub apart : All IsColumnApart plan.columns
  pub ins : AreDistinctBelow (plan.lanes - plan.latches) plan.ins
  pub outs : AreDistinctBelow (plan.lanes - plan.latches) plan.outs
  pub nets : All (IsPlaceWithin plan.lanes (length plan.columns)) plan.nets
  pub tape : HasFittingTape plan

-- the row of a lane on which its signals run
abbrev pub row_of : ℕ → ℕ
row_of lane = 16 * lane + 8

-- x of the west side of a column: the columns of a plan stand right of the turns of its loops,
-- which take one tile column for each loop
abbrev pub left_of : Plan → ℕ → ℕ
left_of plan column = 32 * (plan.latches + column)

-- x and y of the cell of input i, and 0 generations: the entry of the first column
abbrev pub in_cell_of : Plan → ℕ → ℕ × ℕ × ℕ
in_cell_of plan i = (left_of plan 0, row_of (slice_index plan.ins i), 0)

-- x and y of the cell of output i, right of the last column, and the generations from the inputs to
-- it
abbrev pub out_cell_of : Plan → ℕ → ℕ × ℕ × ℕ
out_cell_of plan i =
    (left_of plan (length plan.columns), row_of (slice_index plan.outs i), latency_of plan)

-- x and y on a lane of the entry of the first column, or of the exit of a column, and the
-- generations from the inputs to it
abbrev pub cell_after : Plan → ℕ → Option ℕ → ℕ × ℕ × ℕ
cell_after plan lane None = (left_of plan 0, row_of lane, 0)
cell_after plan lane (Some column) = (left_of plan column + 31, row_of lane, 32 * column + 31)

-- the place of net i, counted from 0
abbrev pub net_place : Plan → ℕ → NetPlace
net_place plan i = slice_index_or plan.nets i (record { lane = 0; after = None })

-- x and y of the cell of net i, and the generations from the inputs to it
abbrev pub net_cell_of : Plan → ℕ → ℕ × ℕ × ℕ
net_cell_of plan i = cell_after plan (net_place plan i).lane (net_place plan i).after

-- x and y of the cells of all inputs
abbrev pub input_cells : Plan → List (ℕ × ℕ)
input_cells plan = map (λ lane. (left_of plan 0, row_of lane)) plan.ins

-- x and y of the cells of all outputs
abbrev pub output_cells : Plan → List (ℕ × ℕ)
output_cells plan = map (λ lane. (left_of plan (length plan.columns), row_of lane)) plan.outs

-- x and y of the cells of all nets, and the generations from the inputs to them
abbrev pub net_cells : Plan → List (ℕ × ℕ × ℕ)
net_cells plan = map (λ place. cell_after plan place.lane place.after) plan.nets

-- width and height of the drawing in cells: a tile is 32 cells wide and a lane 16 high, and the
-- cells of the outputs stand one column further out; a tape makes it wider, and a plan without
-- lanes has no cells
abbrev pub size_of : Plan → ℕ × ℕ
size_of plan =
    if plan.lanes == 0 then (0, 0)
    else (
      32 * (tape_shift plan + (length plan.columns + 2 * plan.latches)) + 1,
      16 * (plan.lanes + plan.latches),
    )
