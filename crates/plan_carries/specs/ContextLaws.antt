-- The pattern that is compiled of a flat netlist shows it in several contexts, if the starts of
-- each context's loops lie on the loops' ways back.
use Rattle.std.specs.Prelude.{ℕ, ◌<◌, ◌≡◌, Bool, List, length, map, All}
use Rattle.tile_core.specs.declared.kind.Kind.{Kind}
use Rattle.tile_core.specs.Drawing.{Drawing}
use Rattle.tile_library.specs.Drawings.{shipped_drawing}
use Rattle.tiling.specs.Tiling.{Lit}
use Rattle.tiling.specs.Steps.{KeepsLaw}
use Rattle.lane_core.specs.declared.plan.Plan.{Plan}
use Rattle.lane_core.specs.Plans.{IsAdmissible}
use Rattle.plan_layout.specs.Planes.{plane_with}
use Rattle.plan_waves.specs.Contexts.{StartsContexts}
use Rattle.grid_assembly.specs.PlanDrawing.{IsPatternOf}
use Rattle.cell_core.specs.declared.list.CellList.{CellList}
use Rattle.cell_core.specs.Loops.{loop_state}
use Rattle.netlist_core.specs.declared.model.Design.{Design}
use Rattle.netlist_core.specs.declared.flat.Flat.{Flat}
use Rattle.netlist_meaning.specs.Valuation.{LatchState}
use Rattle.netlist_meaning.specs.FlatOf.{IsFlatOf}
use Rattle.netlist_rules.specs.ModelFaults.{AreFaultless}
use Rattle.netlist_rules.specs.Clocks.{HasNoClockFault}
use Rattle.pattern_reading.specs.declared.ports.Ports.{Ports}
use Rattle.pattern_writing.specs.WrittenText.{pattern_text}
use Rattle.flat_designs.specs.Laws.{state_in_order}
use Rattle.carries.specs.FlatContexts.{ShowsFlatContexts, CarriesFlatContexts}
use Rattle.carries.specs.DesignContexts.{CarriesNetsInContexts}
use Rattle.plan_carries.specs.Compiled.{IsCompiled}
use Rattle.plan_carries.specs.Pictures.{grid_with}

-- in each context the edges start the loops of the latches with these bits, in order, and the loop
-- of constant 1 with 1
pub record StartsLatches (flat : Flat) (list : CellList) (plan : Plan) (starts : List (List Bool))
    (lit : Lit) : Type 0 where
  pub long : All (λ start. length start ≡ length flat.latches) starts
  pub on_plan : StartsContexts plan (map (loop_state list) starts) lit

-- the plane of the plan with these edges lit, drawn with any library of tiles that keep the timing
-- law, shows the flat netlist's runs in each context
abbrev pub PlanesShowContexts : Type 0
PlanesShowContexts =
    (library : Kind → Drawing) → KeepsLaw library
    → (flat : Flat) (list : CellList) (plan : Plan) (ports : Ports) (starts : List (List Bool))
    → IsCompiled flat list plan (length starts) ports
    → (lit : Lit) → StartsLatches flat list plan starts lit
    → ShowsFlatContexts (plane_with library plan lit) ports flat starts

-- for every admissible plan and any lit edges, the rows of the drawing are its plane
abbrev pub PicturesArePlanes : Type 0
PicturesArePlanes =
    (plan : Plan) → IsAdmissible plan → (lit : Lit)
    → IsPatternOf (grid_with plan lit) (plane_with shipped_drawing plan lit)

-- the text that is written of these rows and the plan's table carries the flat netlist in these
-- contexts, if there is at least one
abbrev pub TextsCarryContexts : Type 0
TextsCarryContexts =
    (flat : Flat) (list : CellList) (plan : Plan) (ports : Ports) (starts : List (List Bool))
    → 0 < length starts → IsCompiled flat list plan (length starts) ports
    → (lit : Lit) → StartsLatches flat list plan starts lit
    → CarriesFlatContexts (pattern_text (grid_with plan lit) ports) flat starts

-- a text that carries the flat netlist of a design in contexts carries the design and its nets in
-- them, whoever wrote the text
abbrev pub DesignsAreCarriedInContexts : Type 0
DesignsAreCarriedInContexts =
    (text : List ℕ) (design : Design) (flat : Flat) → AreFaultless design.models
    → HasNoClockFault design → IsFlatOf design flat
    → (starts : List LatchState) → CarriesFlatContexts text flat
    (map (state_in_order design) starts) → CarriesNetsInContexts text design starts
