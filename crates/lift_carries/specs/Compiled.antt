-- The text that is written of a plan for one context spells the plan's drawing.
use Rattle.std.specs.Prelude.{◌≡◌, List, [], ◌∷◌, Bool}
use Rattle.lane_core.specs.declared.plan.Plan.{Plan}
use Rattle.lane_core.specs.Plans.{IsAdmissible}
use Rattle.plan_layout.specs.Starts.{HasStartEdges, start_edges}
use Rattle.plan_waves.specs.Contexts.{StartsContexts}
use Rattle.grid_assembly.specs.PlanDrawing.{start_grid}
use Rattle.netlist_core.specs.declared.flat.Flat.{Flat}
use Rattle.netlist_meaning.specs.Flat.{IsSound, IsNamed}
use Rattle.pattern_reading.specs.declared.ports.Ports.{Ports}
use Rattle.pattern_writing.specs.WrittenText.{pattern_text}
use Rattle.plan_ports.specs.Tables.{IsTableOf, HasPortNames, HasTablePlaces}
use Rattle.carries.specs.Cells.{Spells}
use Rattle.circuit_plans.specs.Circuits.{IsCircuit, first_bits}
use Rattle.tile_match.specs.Circuit.{IsPlanDrawing}

-- The plan's start edges, which are edges of its drawing, start one context: the loops start with
-- these bits where they enter the columns.
pub record StartsOneContext (plan : Plan) (bits : List Bool) : Type 0 where
  pub edges : HasStartEdges plan
  pub on_loops : StartsContexts plan (bits ∷ []) (start_edges plan)

-- an admissible plan without a tape that starts one context is a circuit's plan, and its loops
-- start with these bits
abbrev pub OneContextIsCircuit : Type 0
OneContextIsCircuit =
    (plan : Plan) → IsAdmissible plan → plan.tape ≡ [] → (bits : List Bool)
    → StartsOneContext plan bits → IsCircuit plan × (first_bits plan ≡ bits)

-- the start edges of every circuit's plan start one context
abbrev pub CircuitsStartOneContext : Type 0
CircuitsStartOneContext = (plan : Plan) → IsCircuit plan → StartsOneContext plan (first_bits plan)

-- What a compiler makes of a flat netlist for one context: a plan that starts where its loops enter
-- the columns, and its port table. The netlist's names and places can stand in a table.
pub record IsCompiledForOne (flat : Flat) (plan : Plan) (ports : Ports) : Type 0 where
  pub sound : IsSound flat
  pub named : IsNamed flat
  pub names : HasPortNames flat
  pub places : HasTablePlaces flat
  pub circuit : IsCircuit plan
  pub table : IsTableOf flat plan 1 ports

-- the written text of a plan and a table spells the plan's pattern and this table, and they are the
-- drawing of the plan
pub record IsWrittenDrawing (plan : Plan) (ports : Ports) : Type 0 where
  pub spells : Spells (pattern_text (start_grid plan) ports) (start_grid plan) ports
  pub drawing : IsPlanDrawing (start_grid plan) ports plan

abbrev pub CompiledAreDrawings : Type 0
CompiledAreDrawings =
    (flat : Flat) (plan : Plan) (ports : Ports) → IsCompiledForOne flat plan ports
    → IsWrittenDrawing plan ports
