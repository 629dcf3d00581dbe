-- The plan that is read from a pattern with a table.
use Rattle.std.specs.Prelude.{ℕ, ◌≡◌, ◌-◌, List, [], map, length}
use Rattle.ww_rule.specs.declared.pattern.State.{State}
use Rattle.ww_rule.specs.Grid.{Grid}
use Rattle.lane_core.specs.declared.plan.Plan.{Plan}
use Rattle.lane_core.specs.Places.{AreDistinctBelow}
use Rattle.lane_core.specs.Plans.{input_cells, output_cells}
use Rattle.circuit_plans.specs.Circuits.{starts_where}
use Rattle.pattern_reading.specs.declared.ports.Ports.{Ports}
use Rattle.pattern_reading.specs.Ports.{cells_of}
use Rattle.tile_match.specs.Blocks.{columns_shown, bit_shown}
use Rattle.tile_match.specs.Sizes.{IsSizeOfPlan}

-- a plan of so many lanes, columns and loops has the columns and starts that rows of cells show
pub record IsBodyRead (rows : List (List State)) (lanes columns loops : ℕ)
    (plan : Plan) : Type 0 where
  pub lanes_are : plan.lanes ≡ lanes
  pub columns_are : map (λ column. column.instrs) plan.columns
      ≡ columns_shown rows lanes loops columns
  pub loops_are : plan.latches ≡ loops
  pub starts_are : plan.starts.list ≡ starts_where lanes loops (bit_shown rows lanes loops)
  pub nets_are : plan.nets ≡ []
  pub no_tape : plan.tape ≡ []

-- a plan has the box, the period, the latency and the ports of a pattern with a table of one
-- context, and the columns and starts that the pattern shows
pub record IsPlanRead (grid : Grid) (ports : Ports) (plan : Plan) : Type 0 where
  pub size : IsSizeOfPlan grid.width grid.height ports.p ports.l plan.lanes
      (length plan.columns) plan.latches
  pub contexts : ports.c ≡ 1
  pub columns : map (λ column. column.instrs) plan.columns
      ≡ columns_shown grid.rows plan.lanes plan.latches (length plan.columns)
  pub starts : plan.starts.list ≡ starts_where plan.lanes plan.latches
      (bit_shown grid.rows plan.lanes plan.latches)
  pub ins : AreDistinctBelow (plan.lanes - plan.latches) plan.ins
  pub in_cells : cells_of ports.ins ≡ input_cells plan
  pub outs : AreDistinctBelow (plan.lanes - plan.latches) plan.outs
  pub out_cells : cells_of ports.outs ≡ output_cells plan
  pub no_tape : plan.tape ≡ []
