-- What it means that a plan is one of a list of cells.
use Rattle.std.specs.Prelude.{ℕ, ◌≡◌, ◌≤◌, ◌<◌, ◌+◌, ◌*◌, ◌^◌, max, List, [], ◌∷◌, length, get_or}
use Rattle.cell_core.specs.declared.list.CellList.{CellList}
use Rattle.cell_core.specs.Loops.{loop_count, loop_state}
use Rattle.cell_meaning.specs.Computes.{ComputesByPlan}
use Rattle.cell_plans.specs.Counts.{instr_count}
use Rattle.lane_core.specs.declared.plan.Plan.{Plan}
use Rattle.lane_core.specs.Plans.{IsAdmissible}
use Rattle.plan_layout.specs.Starts.{start_edges, HasStartEdges}
use Rattle.plan_waves.specs.Contexts.{StartsContexts}
use Rattle.row_placer.specs.Empty.{IsEmpty}
use Rattle.row_placer.specs.Entries.{AreAtEntries}
use Rattle.cell_plans.specs.Exits.{AreAtExits}

-- The plan is admissible, has no tape and computes the list; its starts are edges of its drawing,
-- and start one context as the list starts. Its size is bounded by the list's own counts, and its
-- nets are at the entries of their sources or the exits of their cells.
pub record IsPlanOf (list : CellList) (plan : Plan) : Type 0 where
  pub admissible : IsAdmissible plan
  pub bare : plan.tape ≡ []
  pub edges : HasStartEdges plan
  pub starts : StartsContexts plan (loop_state list list.starts ∷ []) (start_edges plan)
  pub computes : ComputesByPlan list plan
  pub lanes : plan.lanes
      ≤ list.inputs + 2 * loop_count list + length list.outs + length list.cells + 2 + max list.inputs (length list.outs)
  pub empty : IsEmpty list → plan.lanes ≡ 0
  pub instrs : instr_count plan.columns
      ≤ (3 * length list.cells + length list.outs + 2 * loop_count list) * plan.lanes
  pub columns : length plan.columns ≤
      (3 * length list.cells + length list.outs + 2 * loop_count list + 1) * (plan.lanes + 1)
  pub entries : AreAtEntries list plan.lanes plan.ins plan.nets
  pub exits : AreAtExits list plan.columns plan.nets

-- the list is short enough for a plan
abbrev pub IsPlannable : CellList → Type 0
IsPlannable list = list.inputs + loop_count list + length list.outs + length list.cells < 2 ^ 18

-- it is a plan of the list with this number
abbrev pub IsPlanOfOne : List CellList → ℕ → Plan → Type 0
IsPlanOfOne lists number plan =
    (number < length lists) × ((d : CellList) → IsPlanOf (get_or lists number d) plan)
