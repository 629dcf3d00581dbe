-- The cells of a lifted circuit name no constant 1.
use Rattle.std.proofs.Common.{◌≡◌, false}
use Rattle.lane_core.specs.declared.plan.Plan.{Plan}
use Rattle.pattern_reading.specs.declared.ports.Ports.{Ports}
use Rattle.cell_core.specs.Loops.{names_one}
use Rattle.circuit_plans.proofs.Whole.{is_plain}
use Rattle.blif_write.specs.declared.lift.Lift.{Lift}
use Rattle.blif_write.specs.Lift.{IsLiftOf}

pub lift_is_plain : (plan : Plan) (ports : Ports) (lift : Lift) → IsLiftOf plan ports lift → names_one lift.list ≡ false
lift_is_plain plan ports lift h = is_plain plan lift.list h.cells
