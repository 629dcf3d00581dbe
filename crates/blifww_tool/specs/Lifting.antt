-- What is lifted from the text of a pattern: the netlist of the circuit that the pattern draws.
use Rattle.std.specs.Prelude.{◌≡◌, false, ℕ, List}
use Rattle.ww_rule.specs.Grid.{Grid}
use Rattle.lane_core.specs.declared.plan.Plan.{Plan}
use Rattle.pattern_reading.specs.declared.ports.Ports.{Ports}
use Rattle.pattern_reading.specs.Pattern.{ReadsWithinLimit, HasReaderFault, HasLargeBox}
use Rattle.pattern_reading.specs.PortTable.{ReadsAsPorts, HasPortFault}
use Rattle.tile_match.specs.Circuit.{IsPlanDrawing}
use Rattle.tile_match.specs.Faults.{HasCircuitFault}
use Rattle.tile_match.specs.Names.{has_bad_name}
use Rattle.netlist_core.specs.declared.model.Design.{Design}
use Rattle.netlist_meaning.specs.Nets.{Net}
use Rattle.netlist_meaning.specs.Loop.{IsCombinationalLoop}
use Rattle.netlist_rules.specs.Clocks.{HasNoClockFault}
use Rattle.blif_text.specs.Faults.{IsDesignOf}
use Rattle.carries.specs.Carries.{Carries}
use Rattle.lifted_designs.specs.Lifted.{lifted_design}
use Rattle.blif_write.specs.declared.lift.Lift.{Lift}
use Rattle.blif_write.specs.Lift.{IsLiftOf, text_of_lift}
use Rattle.program_runs.specs.declared.causes.Cause.{Cause}
use Rattle.program_runs.specs.declared.causes.Cause.TheVariants.{Pattern, GridTooLarge, PortTable, NotCircuit}
use Rattle.program_runs.specs.Netlists.{IsNetlistOf}

-- The text reads as this pattern with these ports, which are the drawing of this plan, and no
-- port's name is bad.
pub record IsCircuitText (text : List ℕ) (grid : Grid) (ports : Ports) (plan : Plan) : Type 0 where
  pub pattern : ReadsWithinLimit text grid
  pub table : ReadsAsPorts text grid.width grid.height ports
  pub drawing : IsPlanDrawing grid ports plan
  pub named : has_bad_name ports ≡ false

-- The text is that of a circuit. The output is the text of the cells that the columns of the
-- circuit's plan make, with the names of its ports: a netlist that the text carries.
pub record Lifts (text output : List ℕ) : Type 0 where
  pub grid : Grid
  pub ports : Ports
  pub plan : Plan
  pub is : IsCircuitText text grid ports plan
  pub lift : Lift
  pub of_plan : IsLiftOf plan ports lift
  pub written : output ≡ text_of_lift lift
  pub netlist : IsNetlistOf text output (lifted_design lift.ins lift.outs lift.list)

-- why the text is no circuit: it is no pattern, or its box is too large; its port table is at
-- fault; or the pattern with this table is the drawing of no circuit, or has a bad name
abbrev pub HasNoCircuit : List ℕ → Cause → Type 0
HasNoCircuit text (Pattern fault) = HasReaderFault text fault.kind fault.line
HasNoCircuit text (GridTooLarge width height) = HasLargeBox text width height
HasNoCircuit text (PortTable fault) =
    (grid : Grid) × ReadsWithinLimit text grid
    × HasPortFault text grid.width grid.height fault.kind fault.line
HasNoCircuit text (NotCircuit fault) =
    (grid : Grid) × (ports : Ports) × ReadsWithinLimit text grid
    × ReadsAsPorts text grid.width grid.height ports × HasCircuitFault grid ports fault
HasNoCircuit text _ = ⊥
