-- What is written of a circuit is a netlist that its text carries; and why there is none.
use Rattle.std.proofs.Common.{◌≡◌, ◌<◌, ◌^◌, refl, sym, subst, arith, ℕ, List, length}
use Rattle.ww_rule.specs.Grid.{Grid}
use Rattle.lane_core.specs.declared.plan.Plan.{Plan}
use Rattle.pattern_reading.specs.declared.ports.Ports.{Ports}
use Rattle.pattern_reading.specs.Ports.{names_of}
use Rattle.port_table.proofs.SoundTable.{sound_table}
use Rattle.netlist_core.specs.Names.{Name}
use Rattle.lifted_designs.specs.Lifted.{lifted_design}
use Rattle.lifted_designs.specs.Runs.{ArePortNames}
use Rattle.lifted_designs.proofs.NoClocks.{lifted_have_no_clock_fault}
use Rattle.lifted_designs.proofs.Rising.{lifted_have_no_loop}
use Rattle.blif_write.specs.declared.lift.Lift.{Lift}
use Rattle.blif_write.specs.Lift.{IsLiftOf, text_of_lift}
use Rattle.blif_write.specs.Text.{lifted_text}
use Rattle.blif_write.proofs.Plain.{lift_is_plain}
use Rattle.blif_write.proofs.TextsRead.{lifted_texts_read}
use Rattle.lift_carries.proofs.Lifted.{lifts_carry, loop_count_is, many_outs, named_ins, named_outs}
use Rattle.lift_carries.proofs.PortNames.{are_port_names, ins_are_words, outs_are_words}
use Rattle.pattern_reading.specs.Pattern.{ReadsWithinLimit}
use Rattle.pattern_reading.specs.PortTable.{ReadsAsPorts, HasPortFault}
use Rattle.rle_read.specs.Answers.{HasReadReason}
use Rattle.rle_read.specs.declared.error.RleReadError.{RleReadError}
use Rattle.rle_read.specs.declared.error.RleReadError.TheVariants as reading
use Rattle.port_table.specs.declared.faults.PortFault.{PortFault}
use Rattle.port_table.specs.declared.reading.PortReadError.{PortReadError}
use Rattle.port_table.specs.declared.reading.PortReadError.TheVariants as table
use Rattle.tile_match.specs.declared.error.AuditError.{AuditError}
use Rattle.tile_match.specs.declared.error.AuditError.TheVariants as auditing
use Rattle.tile_match.specs.declared.error.CircuitFault.{CircuitFault}
use Rattle.tile_match.specs.Circuit.{IsPlanDrawing}
use Rattle.tile_match.specs.Faults.{HasCircuitFault}
use Rattle.command_words.specs.Shapes.{lift}
use Rattle.program_runs.specs.Refusals.{audit_error, pattern_error, table_error}
use Rattle.blifww_tool.specs.Commands.{HasTextCause}
use Rattle.blifww_tool.specs.Lifting.{IsCircuitText, Lifts}
use Rattle.program_runs.specs.Netlists.{IsNetlistOf}

-- ---- the netlist

module _ (text : List ℕ) (grid : Grid) (ports : Ports) (plan : Plan) (is : IsCircuitText text grid ports plan)
    (lifted : Lift) (of : IsLiftOf plan ports lifted) (few : length lifted.list.cells < 2 ^ 64) where
  abbrev ins : List Name
  ins = names_of ports.ins

  abbrev outs : List Name
  outs = names_of ports.outs

  long : length (names_of ports.ins) ≡ lifted.list.inputs
  long = named_ins grid.width grid.height ports plan is.drawing.ports lifted.list of.cells

  wide : length (names_of ports.outs) ≡ length lifted.list.outs
  wide = named_outs grid.width grid.height ports plan is.drawing.ports lifted.list of.cells

  few_latches : length lifted.list.latches < 2 ^ 64
  few_latches = omega (arith, loop_count_is plan lifted.list of.cells, is.drawing.circuit.admissible.size.lanes, is.drawing.circuit.admissible.size.loops_on_lanes)

  names : ArePortNames (names_of ports.ins) (names_of ports.outs)
  names = are_port_names ports (sound_table text grid.width grid.height ports is.table) is.named

  netlist_of : IsNetlistOf text (lifted_text (names_of ports.ins) (names_of ports.outs) lifted.list) (lifted_design (names_of ports.ins) (names_of ports.outs) lifted.list)
  netlist_of = record {
    design_of = lifted_texts_read lifted.list ins outs long wide (lift_is_plain plan ports lifted of) names (ins_are_words ports is.named) (outs_are_words ports is.named) few few_latches;
    clocks = lifted_have_no_clock_fault lifted.list ins outs long wide (lift_is_plain plan ports lifted of);
    no_loop = lifted_have_no_loop lifted.list ins outs long wide (lift_is_plain plan ports lifted of) names few few_latches;
    carries = lifts_carry text grid ports plan lifted.list (record {
      spells = record { reads = is.pattern.0; table = is.table };
      drawing = is.drawing;
      names = is.named;
      cells = of.cells;
      few_cells = few;
    });
  }

  pub lifts : Lifts text (text_of_lift lifted)
  lifts = record {
    grid = grid;
    ports = ports;
    plan = plan;
    is = is;
    lift = lifted;
    of_plan = of;
    written = refl;
    netlist =
        subst (λ (names : List Name). IsNetlistOf text (lifted_text lifted.ins names lifted.list) (lifted_design lifted.ins names lifted.list)) (sym of.outs)
        (subst (λ (names : List Name). IsNetlistOf text (lifted_text names (names_of ports.outs) lifted.list) (lifted_design names (names_of ports.outs) lifted.list)) (sym of.ins) netlist_of);
  }

-- a circuit's table has a line for each output
pub many_outs_of : (grid : Grid) (ports : Ports) (plan : Plan) → IsPlanDrawing grid ports plan → length ports.outs ≡ length plan.outs
many_outs_of grid ports plan drawing = many_outs grid.width grid.height ports plan drawing.ports

-- ---- refusals

pub pattern_refused : (text : List ℕ) (e : RleReadError) → HasReadReason text e → HasTextCause lift text (pattern_error e)
pattern_refused text (reading.Fault f) h = h
pattern_refused text (reading.TooLarge width height) h = h
pattern_refused text reading.NoMemory h = tt

pub table_refused : (text : List ℕ) (grid : Grid) (e : PortReadError) → ReadsWithinLimit text grid
    → ((f : PortFault) → e ≡ table.Fault f → HasPortFault text grid.width grid.height f.kind f.line) → HasTextCause lift text (table_error e)
table_refused text grid (table.Fault f) reads faults = (grid, reads, faults f refl)
table_refused text grid table.NoMemory reads faults = tt

pub audit_refused : (text : List ℕ) (grid : Grid) (ports : Ports) (e : AuditError) → ReadsWithinLimit text grid → ReadsAsPorts text grid.width grid.height ports
    → ((f : CircuitFault) → e ≡ auditing.NotCircuit f → HasCircuitFault grid ports f) → HasTextCause lift text (audit_error e)
audit_refused text grid ports (auditing.NotCircuit f) reads is faults = (grid, ports, reads, is, faults f refl)
audit_refused text grid ports auditing.NoMemory reads is faults = tt
