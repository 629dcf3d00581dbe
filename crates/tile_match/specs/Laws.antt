-- Laws of a circuit's drawing: its size, that it has one plan, and that at most one answer holds of
-- a pattern.
use Rattle.std.specs.Prelude.{◌≡◌, ◌↔◌, false}
use Rattle.ww_rule.specs.Grid.{Grid}
use Rattle.lane_core.specs.declared.plan.Plan.{Plan}
use Rattle.pattern_reading.specs.declared.ports.Ports.{Ports}
use Rattle.circuit_plans.specs.Circuits.{without_nets}
use Rattle.tile_match.specs.declared.error.CircuitFault.{CircuitFault}
use Rattle.tile_match.specs.Circuit.{HasSomePlan, IsPlanDrawing}
use Rattle.tile_match.specs.Equations.{HasSomeSize}
use Rattle.tile_match.specs.Faults.{HasCircuitFault}
use Rattle.tile_match.specs.Names.{has_bad_name}

-- two plans of which a pattern with a table is the drawing are the same, except for the places at
-- which nets are seen
abbrev pub DrawsOnePlan : Type 0
DrawsOnePlan =
    (grid : Grid) (ports : Ports) (a b : Plan) → IsPlanDrawing grid ports a
    → IsPlanDrawing grid ports b → without_nets a ≡ without_nets b

-- some circuit has the box and the ports exactly when these have the size of one
abbrev pub SizesAreEquations : Type 0
SizesAreEquations = (grid : Grid) (ports : Ports) → HasSomePlan grid ports ↔ HasSomeSize grid ports

-- a pattern with a table has at most one fault; if it has one, it is no drawing, or a name is bad
pub record IsOnlyAnswer (grid : Grid) (ports : Ports) (fault : CircuitFault) : Type 0 where
  pub one : (other : CircuitFault) → HasCircuitFault grid ports other → fault ≡ other
  pub no_plan : (plan : Plan) → IsPlanDrawing grid ports plan → has_bad_name ports ≡ false → ⊥

abbrev pub FaultsExclude : Type 0
FaultsExclude =
    (grid : Grid) (ports : Ports) (fault : CircuitFault) → HasCircuitFault grid ports fault
    → IsOnlyAnswer grid ports fault
