-- What a plan's drawing shows is the plan.
use Rattle.std.proofs.Common.{◌≡◌, refl, sym, ◌∙◌, ap, subst, ℕ, ◌+◌, ◌-◌, ◌<◌, List, [], map, length, get_or, arith}
use Rattle.std.specs.Prelude.{All}
use Rattle.std.proofs.lemmas.List.{ext_get_or, length-map, get_or-map}
use Rattle.std.proofs.lemmas.List.FromFn.{length-map-range_with_len, get_or-map-range_with_len}
use Rattle.lane_core.specs.declared.instr.Instr.{Instr}
use Rattle.lane_core.specs.declared.instr.Column.{Column}
use Rattle.lane_core.specs.declared.plan.Plan.{Plan}
use Rattle.circuit_plans.specs.Circuits.{IsCircuit}
use Rattle.lane_core.specs.Columns.{IsColumnOnLanes}
use Rattle.lane_core.specs.Instrs.{IsOnLanes}
use Rattle.plan_layout.specs.Starts.{start_edges}
use Rattle.plan_layout.specs.Layout.{instrs_of, body_slot}
use Rattle.tile_library.specs.Drawings.{shipped_drawing}
use Rattle.tiling.specs.Tiling.{drawn_slot}
use Rattle.grid_assembly.specs.PlanDrawing.{start_grid}
use Rattle.tile_timing.specs.Law.{is_filled}
use Rattle.tile_match.specs.Blocks.{instr_shown, instr_in, column_shown, column_start, columns_shown}
use Rattle.tile_match.proofs.Within.{AreShown, Within, reads_all, within_lanes, begins_first}
use Rattle.tile_match.proofs.Cells.{shown_by, none_shown, begun_shown}

abbrev instrs_in : Column → List Instr
instrs_in column = column.instrs

pub no_column : Column
no_column = record { instrs = []; sorted_apart = refl }

none_on : (lanes : ℕ) → All (IsOnLanes lanes) []
none_on lanes = λ k d lt. absurd (omega (arith, lt))

pub no_column_on : (lanes : ℕ) → IsColumnOnLanes lanes no_column
unfolding no_column
no_column_on lanes = none_on lanes

-- the instructions of a column are that column's
instrs_are : (plan : Plan) (c : ℕ) → c < length plan.columns → instrs_of plan c ≡ (get_or plan.columns c no_column).instrs
instrs_are plan c within = get_or-map instrs_in plan.columns c no_column [] within

within_column : (plan : Plan) → IsCircuit plan → (c : ℕ) → c < length plan.columns → Within 0 (plan.lanes - 1) (instrs_of plan c)
within_column plan h c within =
    let column = get_or plan.columns c no_column in
    subst (Within 0 (plan.lanes - 1)) (sym (instrs_are plan c within))
    (within_lanes plan.lanes 0 column.instrs column.sorted_apart (h.admissible.instrs c no_column within) (begins_first column.instrs))

pub are_shown : (plan : Plan) → IsCircuit plan → (c : ℕ) → c < length plan.columns
    → AreShown (instr_in (start_grid plan).rows (column_start plan.latches c)) (instrs_of plan c) 0 (plan.lanes - 1)
are_shown plan h c within = record {
  none = λ lane low high e.
      (shown_by plan h c lane within (omega arith)
      ∙ ap (λ on. instr_shown lane (λ x y. is_filled (drawn_slot shipped_drawing (start_edges plan) (plan.latches + c) lane (body_slot lane on) x y))) e
      ∙ none_shown (start_edges plan) (plan.latches + c) lane);
  begun = λ lane x low high e same.
      (shown_by plan h c lane within (omega arith)
      ∙ ap (λ on. instr_shown lane (λ u v. is_filled (drawn_slot shipped_drawing (start_edges plan) (plan.latches + c) lane (body_slot lane on) u v))) e
      ∙ begun_shown (start_edges plan) (plan.latches + c) lane x same);
}

-- a column shows its instructions
pub column_is : (plan : Plan) → IsCircuit plan → (c : ℕ) → c < length plan.columns
    → column_shown (start_grid plan).rows plan.lanes (column_start plan.latches c) ≡ instrs_of plan c
column_is plan h c within =
    reads_all (instr_in (start_grid plan).rows (column_start plan.latches c)) (plan.lanes - 1) (instrs_of plan c) (within_column plan h c within) (are_shown plan h c within)

-- and all columns theirs
pub columns_are : (plan : Plan) → IsCircuit plan
    → columns_shown (start_grid plan).rows plan.lanes plan.latches (length plan.columns) ≡ map instrs_in plan.columns
columns_are plan h =
    let rows = (start_grid plan).rows in
    let many : length (columns_shown rows plan.lanes plan.latches (length plan.columns)) ≡ length plan.columns =
    length-map-range_with_len (λ c. column_shown rows plan.lanes (column_start plan.latches c)) 0 (length plan.columns) in
    ext_get_or [] (columns_shown rows plan.lanes plan.latches (length plan.columns)) (map instrs_in plan.columns) (many ∙ sym (length-map plan.columns instrs_in))
    (λ c lt. (let within : c < length plan.columns = omega (arith, lt, many) in
    get_or-map-range_with_len (λ n. column_shown rows plan.lanes (column_start plan.latches n)) 0 (length plan.columns) c c [] within (omega arith) ∙ column_is plan h c within))
