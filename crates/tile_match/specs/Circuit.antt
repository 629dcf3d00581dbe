-- Which patterns with port tables are circuits: drawings of a circuit's plan.
use Rattle.std.specs.Prelude.{ℕ, ◌≡◌}
use Rattle.ww_rule.specs.Grid.{Grid}
use Rattle.lane_core.specs.declared.plan.Plan.{Plan}
use Rattle.lane_core.specs.Plans.{size_of, period_of, latency_of, input_cells, output_cells}
use Rattle.circuit_plans.specs.Circuits.{IsCircuit}
use Rattle.grid_assembly.specs.PlanDrawing.{start_grid}
use Rattle.pattern_reading.specs.declared.ports.Ports.{Ports}
use Rattle.pattern_reading.specs.Ports.{cells_of}

-- the plan has this width and height, and the table's period, latency, and cells of inputs and
-- outputs, in order; the table is that of one context
pub record HasBoxAndPorts (width height : ℕ) (ports : Ports) (plan : Plan) : Type 0 where
  pub size : size_of plan ≡ (width, height)
  pub period : ports.p ≡ period_of plan
  pub latency : ports.l ≡ latency_of plan
  pub contexts : ports.c ≡ 1
  pub in_cells : cells_of ports.ins ≡ input_cells plan
  pub out_cells : cells_of ports.outs ≡ output_cells plan

-- some circuit has the pattern's box and the table's ports
abbrev pub HasSomePlan : Grid → Ports → Type 0
HasSomePlan grid ports =
    (plan : Plan) × IsCircuit plan × HasBoxAndPorts grid.width grid.height ports plan

-- A pattern with a table is the drawing of a circuit's plan: it has the plan's box and ports, and
-- each of its cells is the plan's at generation 0.
pub record IsPlanDrawing (grid : Grid) (table : Ports) (plan : Plan) : Type 0 where
  pub circuit : IsCircuit plan
  pub ports : HasBoxAndPorts grid.width grid.height table plan
  pub drawn : grid ≡ start_grid plan
