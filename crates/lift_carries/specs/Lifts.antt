-- A text that spells the drawing of a plan carries the netlist that is lifted from it.
use Rattle.std.specs.Prelude.{ℕ, ◌<◌, ◌^◌, ◌≡◌, false, List, length}
use Rattle.ww_rule.specs.Grid.{Grid}
use Rattle.lane_core.specs.declared.plan.Plan.{Plan}
use Rattle.cell_core.specs.declared.list.CellList.{CellList}
use Rattle.pattern_reading.specs.declared.ports.Ports.{Ports}
use Rattle.pattern_reading.specs.Ports.{names_of}
use Rattle.carries.specs.Cells.{Spells}
use Rattle.carries.specs.Carries.{Carries}
use Rattle.circuit_plans.specs.Lists.{IsListOf}
use Rattle.lifted_designs.specs.Lifted.{lifted_design}
use Rattle.tile_match.specs.Circuit.{IsPlanDrawing}
use Rattle.tile_match.specs.Names.{has_bad_name}

-- A text spells a plan: it spells a pattern and a port table that are the drawing of the plan, and
-- no name in the table is bad. The list has the cells of the plan.
pub record SpellsPlan (text : List ℕ) (grid : Grid) (ports : Ports) (plan : Plan)
    (list : CellList) : Type 0 where
  pub spells : Spells text grid ports
  pub drawing : IsPlanDrawing grid ports plan
  pub names : has_bad_name ports ≡ false
  pub cells : IsListOf plan list
  pub few_cells : length list.cells < 2 ^ 64

-- such a text carries the netlist of these cells, whose ports have the table's names
abbrev pub LiftsCarry : Type 0
LiftsCarry =
    (text : List ℕ) (grid : Grid) (ports : Ports) (plan : Plan) (list : CellList)
    → SpellsPlan text grid ports plan list
    → Carries text (lifted_design (names_of ports.ins) (names_of ports.outs) list)
