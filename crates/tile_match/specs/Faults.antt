-- Why a pattern with a port table is no circuit: the first of three kinds that holds, so no two
-- hold together.
use Rattle.std.specs.Prelude.{◌≡◌, true, false}
use Rattle.ww_rule.specs.Grid.{Grid}
use Rattle.lane_core.specs.declared.plan.Plan.{Plan}
use Rattle.pattern_reading.specs.declared.ports.Ports.{Ports}
use Rattle.tile_match.specs.declared.error.CircuitFault.{CircuitFault}
use Rattle.tile_match.specs.declared.error.CircuitFault.TheVariants as fault
use Rattle.tile_match.specs.Circuit.{HasSomePlan, IsPlanDrawing}
use Rattle.tile_match.specs.Names.{has_bad_name}

-- `Ports`: no circuit has the box and the ports; `Names`: one has, and a name is bad; `Cells`: one
-- has, no name is bad, and none draws the pattern
abbrev pub HasCircuitFault : Grid → Ports → CircuitFault → Type 0
HasCircuitFault grid ports fault.Ports = HasSomePlan grid ports → ⊥
HasCircuitFault grid ports fault.Names = HasSomePlan grid ports × (has_bad_name ports ≡ true)
HasCircuitFault grid ports fault.Cells =
    HasSomePlan grid ports × (has_bad_name ports ≡ false)
    × ((plan : Plan) → IsPlanDrawing grid ports plan → ⊥)
