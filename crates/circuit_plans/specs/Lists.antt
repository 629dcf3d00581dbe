-- The list of cells that a plan's columns make.
use Rattle.std.specs.Prelude.{◌≡◌, [], length}
use Rattle.lane_core.specs.declared.plan.Plan.{Plan}
use Rattle.cell_core.specs.declared.list.CellList.{CellList}
use Rattle.circuit_plans.specs.Circuits.{first_bits}
use Rattle.circuit_plans.specs.Lifted.{entry_lanes, lift_columns, sources_on, sources_leaving}

-- the list of a plan: its inputs are the plan's, its cells are those that the columns make, its
-- outputs and latches are the sources that leave the columns, its starts are those of the loops,
-- and it has no nets
pub record IsListOf (plan : Plan) (list : CellList) : Type 0 where
  pub inputs : list.inputs ≡ length plan.ins
  pub cells : list.cells ≡ (lift_columns (entry_lanes plan) plan.columns).cells
  pub outs : list.outs ≡ sources_on (lift_columns (entry_lanes plan) plan.columns).sources plan.outs
  pub latches : list.latches ≡ sources_leaving
      (lift_columns (entry_lanes plan) plan.columns).sources plan.lanes plan.latches
  pub starts : list.starts ≡ first_bits plan
  pub nets : list.nets ≡ []
