-- What a plan of a flat netlist is.
use Rattle.std.specs.Prelude.{ℕ, ◌+◌, ◌*◌, ◌≤◌, ◌≡◌, ◌≢◌, false, cond, [], ◌∷◌, length}
use Rattle.lane_core.specs.declared.plan.Plan.{Plan}
use Rattle.netlist_core.specs.declared.flat.Flat.{Flat}
use Rattle.netlist_meaning.specs.Flat.{listed_nets, nets_but_clocks}
use Rattle.netlist_meaning.specs.FlatValuation.{start_bits}
use Rattle.cell_core.specs.declared.list.CellList.{CellList}
use Rattle.cell_core.specs.Loops.{names_one, loop_state}
use Rattle.cell_meaning.specs.Computes.{ComputesByPlan}
use Rattle.cell_plans.specs.Counts.{instr_count}
use Rattle.cell_plans.specs.Exits.{AreAtExits}
use Rattle.pattern_reading.specs.declared.ports.Ports.{Ports}
use Rattle.pattern_writing.specs.WrittenText.{pattern_text}
use Rattle.carries.specs.FlatNets.{CarriesFlat}
use Rattle.grid_assembly.specs.PlanDrawing.{start_grid}
use Rattle.plan_ports.specs.Tables.{IsTableOf}
use Rattle.row_placer.specs.Entries.{AreAtEntries}
use Rattle.cell_meaning.specs.Mapped.{IsMapped}
use Rattle.cell_meaning.specs.Needs.{any_needs_one}
use Rattle.netlist_plans.specs.Contexts.{StartsLoops}

-- the plan of a netlist of this weight w has at most 256 (w + 1) (w + 1) instructions in its columns
abbrev pub HasFewInstrs : (weight : ℕ) → Plan → Type 0
HasFewInstrs weight plan = instr_count plan.columns ≤ 256 * ((weight + 1) * (weight + 1))

-- The plan is small. If w is the weight, it has at most 4 w + 4 lanes, at most 256 (w + 1) (w + 1)
-- columns, and in them at most that many instructions. It has a loop for each latch, and at most
-- one more, if covers need constant 1.
pub record IsSmall (flat : Flat) (plan : Plan) : Type 0 where
  pub lanes : plan.lanes ≤ 4 * flat.weight + 4
  pub columns : length plan.columns ≤ 256 * ((flat.weight + 1) * (flat.weight + 1))
  pub instrs : HasFewInstrs flat.weight plan
  pub loops : plan.latches ≤ length flat.latches + 1
  pub no_more_loops : any_needs_one flat ≡ false → plan.latches ≡ length flat.latches

-- The plan computes a list of cells of the flat netlist. Its listed nets are at the entries of
-- their sources or at the exits of their cells. It has a loop for each latch, in order, and one
-- more exactly if the list names constant 1. Its start edges start one context: each latch with its
-- start, and constant 1 with 1.
pub record ComputesCells (flat : Flat) (plan : Plan) : Type 0 where
  pub list : CellList
  pub mapped : IsMapped flat list
  pub computes : ComputesByPlan list plan
  pub entries : AreAtEntries list plan.lanes plan.ins plan.nets
  pub exits : AreAtExits list plan.columns plan.nets
  pub loops : plan.latches ≡ length flat.latches + cond (names_one list) 1 0
  pub starts : StartsLoops plan (loop_state list (start_bits flat) ∷ [])

-- with each table of the plan, the text that is written of both carries the netlist
abbrev pub CarriesByTables : Flat → Plan → Type 0
CarriesByTables flat plan =
    (ports : Ports) → IsTableOf flat plan 1 ports
    → CarriesFlat (pattern_text (start_grid plan) ports) flat

-- If all nets are clock nets, there is no lane and no column. If nets are listed, there is at least
-- one of each.
pub record HasLanes (flat : Flat) (plan : Plan) : Type 0 where
  pub none : nets_but_clocks flat ≡ [] → (plan.lanes ≡ 0) × (plan.columns ≡ [])
  pub some : listed_nets flat ≢ [] → (1 ≤ plan.lanes) × (1 ≤ length plan.columns)

-- the period is 32, the shortest, if the netlist has no latch and no cover needs constant 1
abbrev pub HasShortPeriod : Flat → Ports → Type 0
HasShortPeriod flat ports = length flat.latches ≡ 0 → any_needs_one flat ≡ false → ports.p ≡ 32
