-- Lifted circuits: the cells of a plan, with the names of ports.
use Rattle.std.specs.Prelude.{ℕ, ◌≡◌, List}
use Rattle.lane_core.specs.declared.plan.Plan.{Plan}
use Rattle.pattern_reading.specs.declared.ports.Ports.{Ports}
use Rattle.pattern_reading.specs.Ports.{names_of}
use Rattle.cell_core.specs.declared.list.CellList.{CellList}
use Rattle.circuit_plans.specs.Lists.{IsListOf}
use Rattle.blif_write.specs.declared.lift.Lift.{Lift}
use Rattle.blif_write.specs.Text.{lifted_text}

-- the lifted circuit has the cells of the plan, and the names of the ports
pub record IsLiftOf (plan : Plan) (ports : Ports) (lift : Lift) : Type 0 where
  pub cells : IsListOf plan lift.list
  pub ins : lift.ins ≡ names_of ports.ins
  pub outs : lift.outs ≡ names_of ports.outs

-- the lifted circuit has these cells, and the names of the ports
pub record IsLiftOfCells (list : CellList) (ports : Ports) (lift : Lift) : Type 0 where
  pub cells : lift.list ≡ list
  pub ins : lift.ins ≡ names_of ports.ins
  pub outs : lift.outs ≡ names_of ports.outs

-- the text of a lifted circuit
abbrev pub text_of_lift : Lift → List ℕ
text_of_lift lift = lifted_text lift.ins lift.outs lift.list
