-- What a plan of an AIGER circuit is, and its table.
use Rattle.std.specs.Prelude.{◌+◌, ◌*◌, ◌≤◌, ◌≡◌, ◌↔◌, false, [], length}
use Rattle.lane_core.specs.declared.plan.Plan.{Plan}
use Rattle.lane_core.specs.Plans.{IsAdmissible, period_of, latency_of}
use Rattle.plan_layout.specs.Starts.{HasStartEdges}
use Rattle.grid_assembly.specs.PlanDrawing.{start_grid}
use Rattle.pattern_reading.specs.declared.ports.Ports.{Ports}
use Rattle.pattern_reading.specs.Ports.{cells_of}
use Rattle.pattern_writing.specs.WrittenText.{pattern_text}
use Rattle.plan_ports.specs.Tables.{drawn_input_cells, drawn_output_cells}
use Rattle.netlist_core.specs.declared.flat.Flat.{Flat}
use Rattle.netlist_plans.specs.Lists.{IsPlanned}
use Rattle.netlist_plans.specs.Planned.{ComputesCells, HasFewInstrs}
use Rattle.aiger_text.specs.declared.aig.Aig.{Aig}
use Rattle.aiger_meaning.specs.Circuit.{aig_weight}
use Rattle.aiger_meaning.specs.FlatOf.{IsFlatOfAig}
use Rattle.aiger_plans.specs.Needs.{aig_needs_one}
use Rattle.aiger_plans.specs.Zero.{some_output_is_one}
use Rattle.aiger_plans.specs.CarriesAig.{CarriesAig, NamesAig}

-- The table of a plan of a circuit: the period, the latency and the cells of ports are the plan's,
-- and the names of ports are the circuit's, each in order. It lists no nets. One context runs in
-- the pattern.
pub record IsTableOfAig (aig : Aig) (plan : Plan) (ports : Ports) : Type 0 where
  pub period : ports.p ≡ period_of plan
  pub latency : ports.l ≡ latency_of plan
  pub contexts : ports.c ≡ 1
  pub in_cells : cells_of ports.ins ≡ drawn_input_cells plan
  pub out_cells : cells_of ports.outs ≡ drawn_output_cells plan
  pub names : NamesAig ports aig

-- A list of cells computes the flat netlist of the circuit, and so its outputs and what its latches
-- read next; the plan is a plan of that list, and computes it with its loops and start edges.
pub record IsPlannedAig (aig : Aig) (plan : Plan) : Type 0 where
  pub flat : Flat
  pub is_flat : IsFlatOfAig aig flat
  pub planned : IsPlanned flat plan
  pub cells : ComputesCells flat plan
  pub one_list : cells.list ≡ planned.list

-- The plan can be drawn, its starts are edges of its drawing, and it has no tape. It is a plan of
-- cells that compute the circuit: so it has a loop for each latch, and one more exactly if constant
-- 1 is named; and it has none more if the circuit needs no constant 1. It is small: if w is the
-- circuit's weight, it has at most 4 w + 4 lanes, at most 256 (w + 1) (w + 1) columns, and at most
-- that many instructions. The table is the plan's. Its
-- period is 32 if the circuit has no latch and needs no constant 1; without latches it is 32
-- exactly if all outputs are 0 while all inputs are. The text that is written of the plan and the
-- table carries the circuit.
pub record IsPlanOfAig (aig : Aig) (plan : Plan) (ports : Ports) : Type 0 where
  pub admissible : IsAdmissible plan
  pub edges : HasStartEdges plan
  pub bare : plan.tape ≡ []
  pub planned : IsPlannedAig aig plan
  pub lanes : plan.lanes ≤ 4 * aig_weight aig + 4
  pub columns : length plan.columns ≤ 256 * ((aig_weight aig + 1) * (aig_weight aig + 1))
  pub instrs : HasFewInstrs (aig_weight aig) plan
  pub loops : plan.latches ≤ length aig.latches + 1
  pub no_more_loops : aig_needs_one aig ≡ false → plan.latches ≡ length aig.latches
  pub table : IsTableOfAig aig plan ports
  pub period : length aig.latches ≡ 0 → aig_needs_one aig ≡ false → ports.p ≡ 32
  pub at_zero : length aig.latches ≡ 0 → (ports.p ≡ 32) ↔ (some_output_is_one aig ≡ false)
  pub carries : CarriesAig (pattern_text (start_grid plan) ports) aig
