-- The pattern that is compiled of a flat netlist shows its runs, and a text that carries a design's
-- flat netlist carries the design.
use Rattle.std.specs.Prelude.{ℕ, List, [], ◌∷◌}
use Rattle.tile_core.specs.declared.kind.Kind.{Kind}
use Rattle.tile_core.specs.Drawing.{Drawing}
use Rattle.tiling.specs.Steps.{KeepsLaw}
use Rattle.lane_core.specs.declared.plan.Plan.{Plan}
use Rattle.plan_layout.specs.Starts.{start_edges}
use Rattle.plan_layout.specs.Planes.{start_plane}
use Rattle.grid_assembly.specs.PlanDrawing.{start_grid}
use Rattle.cell_core.specs.declared.list.CellList.{CellList}
use Rattle.netlist_core.specs.declared.model.Design.{Design}
use Rattle.netlist_core.specs.declared.flat.Flat.{Flat}
use Rattle.netlist_meaning.specs.FlatOf.{IsFlatOf}
use Rattle.netlist_meaning.specs.FlatValuation.{start_bits}
use Rattle.netlist_rules.specs.ModelFaults.{AreFaultless}
use Rattle.netlist_rules.specs.Clocks.{HasNoClockFault}
use Rattle.pattern_reading.specs.declared.ports.Ports.{Ports}
use Rattle.pattern_writing.specs.WrittenText.{pattern_text}
use Rattle.carries.specs.FlatNets.{CarriesFlat, ShowsFlatRuns}
use Rattle.carries.specs.Nets.{CarriesNets}
use Rattle.cell_meaning.specs.Computes.{ComputesByPlan}
use Rattle.plan_ports.specs.Tables.{HasPortsOf}
use Rattle.plan_carries.specs.Compiled.{ComputesFlat, IsCompiled}
use Rattle.plan_carries.specs.ContextLaws.{StartsLatches}

-- a plan that computes the list of a flat netlist has the netlist's inputs and outputs
abbrev pub PlansHavePorts : Type 0
PlansHavePorts =
    (flat : Flat) (list : CellList) (plan : Plan) → ComputesFlat flat list
    → ComputesByPlan list plan → HasPortsOf flat plan

-- the plan's start edges start one context: each latch's loop starts as the latch does in the flat
-- netlist
abbrev pub StartsAsFlat : Flat → CellList → Plan → Type 0
StartsAsFlat flat list plan = StartsLatches flat list plan (start_bits flat ∷ []) (start_edges plan)

-- the plane of a plan with such starts, drawn with any library of tiles that keep the timing law,
-- shows the flat netlist's runs
abbrev pub PlanesShowRuns : Type 0
PlanesShowRuns =
    (library : Kind → Drawing) → KeepsLaw library
    → (flat : Flat) (list : CellList) (plan : Plan) (ports : Ports)
    → IsCompiled flat list plan 1 ports → StartsAsFlat flat list plan
    → ShowsFlatRuns (start_plane library plan) ports flat

-- the text that is written of the plan's pattern and its table carries the flat netlist
abbrev pub TextsCarryFlats : Type 0
TextsCarryFlats =
    (flat : Flat) (list : CellList) (plan : Plan) (ports : Ports)
    → IsCompiled flat list plan 1 ports → StartsAsFlat flat list plan
    → CarriesFlat (pattern_text (start_grid plan) ports) flat

-- a text that carries the flat netlist of a design carries the design and its nets, whoever wrote
-- the text
abbrev pub DesignsAreCarried : Type 0
DesignsAreCarried =
    (text : List ℕ) (design : Design) (flat : Flat) → AreFaultless design.models
    → HasNoClockFault design → IsFlatOf design flat
    → CarriesFlat text flat → CarriesNets text design
