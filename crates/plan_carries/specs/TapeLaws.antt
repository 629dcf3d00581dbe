-- A compiled plan with bits of the inputs on its tape runs by itself.
use Rattle.std.specs.Prelude.{ℕ, ◌≡◌, Bool, List, length}
use Rattle.lane_core.specs.declared.plan.Plan.{Plan}
use Rattle.lane_core.specs.Tape.{AreTapeLists, tape_rows}
use Rattle.plan_waves.specs.Loaded.{with_tape}
use Rattle.plan_layout.specs.Starts.{HasStartEdges}
use Rattle.grid_assembly.specs.PlanDrawing.{start_grid}
use Rattle.cell_core.specs.declared.list.CellList.{CellList}
use Rattle.netlist_core.specs.declared.model.Design.{Design}
use Rattle.netlist_core.specs.declared.flat.Flat.{Flat}
use Rattle.netlist_meaning.specs.FlatOf.{IsFlatOf}
use Rattle.netlist_rules.specs.ModelFaults.{AreFaultless}
use Rattle.netlist_rules.specs.Clocks.{HasNoClockFault}
use Rattle.pattern_reading.specs.declared.ports.Ports.{Ports}
use Rattle.pattern_writing.specs.WrittenText.{pattern_text}
use Rattle.carries.specs.ByItself.{RunsByItself, RunsByItselfFlat}
use Rattle.plan_ports.specs.Tables.{IsTableOf}
use Rattle.plan_carries.specs.Compiled.{IsCompiled}
use Rattle.plan_carries.specs.Laws.{StartsAsFlat}

-- The text that is written of the loaded plan's pattern and of its own table runs by itself as the
-- flat netlist does on the rows of the tape.
abbrev pub TapesRunByThemselves : Type 0
TapesRunByThemselves =
    (flat : Flat) (list : CellList) (plan : Plan) (ports : Ports)
    → IsCompiled flat list plan 1 ports → StartsAsFlat flat list plan → HasStartEdges plan
    → (bits : List (List Bool)) → length bits ≡ length plan.ins → AreTapeLists bits
    → (table : Ports) → IsTableOf flat (with_tape bits plan) 1 table
    → RunsByItselfFlat (pattern_text (start_grid (with_tape bits plan)) table) flat
    (tape_rows (with_tape bits plan))

-- a text that runs by itself as the flat netlist of a design also runs by itself as the design,
-- whoever wrote the text
abbrev pub DesignsRunByThemselves : Type 0
DesignsRunByThemselves =
    (text : List ℕ) (design : Design) (flat : Flat) (rows : List (List Bool))
    → AreFaultless design.models → HasNoClockFault design → IsFlatOf design flat
    → RunsByItselfFlat text flat rows → RunsByItself text design rows
