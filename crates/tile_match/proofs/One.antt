-- A pattern with a table is the drawing of one plan.
use Rattle.std.proofs.Common.{◌≡◌, refl, sym, ◌∙◌, ap, ap₂, subst, ℕ, ◌+◌, ◌-◌, ◌*◌, ◌/◌, Bool, true, List, [], ◌∷◌, map, length, arith}
use Rattle.std.specs.Prelude.{IsTrue}
use Rattle.std.proofs.Math.Bool.{Bool-set}
use Rattle.ww_rule.specs.Grid.{Grid}
use Rattle.lane_core.specs.declared.instr.Instr.{Instr}
use Rattle.lane_core.specs.declared.instr.Column.{Column}
use Rattle.lane_core.specs.declared.starts.Start.{Start}
use Rattle.lane_core.specs.declared.starts.Starts.{Starts}
use Rattle.lane_core.specs.declared.plan.Plan.{Plan}
use Rattle.lane_core.specs.Instrs.{are_sorted_apart}
use Rattle.lane_core.specs.Starts.{are_starts_in_order}
use Rattle.lane_core.specs.Plans.{row_of, left_of}
use Rattle.circuit_plans.specs.Circuits.{without_nets, starts_where}
use Rattle.grid_assembly.specs.PlanDrawing.{start_grid}
use Rattle.pattern_reading.specs.declared.ports.Ports.{Ports}
use Rattle.tile_match.specs.Blocks.{columns_shown, bit_shown}
use Rattle.tile_match.specs.Circuit.{IsPlanDrawing}
use Rattle.tile_match.specs.Read.{IsPlanRead}
use Rattle.tile_match.specs.Laws.{DrawsOnePlan}
use Rattle.tile_match.proofs.ReadColumns.{columns_are}
use Rattle.tile_match.proofs.ReadStarts.{starts_are}
use Rattle.tile_match.proofs.Sizes.{size_is, one_size}

-- the lanes of cells in port rows
abbrev cell_lane : ℕ × ℕ → ℕ
cell_lane cell = (cell.1 - 8) / 16

-- the cell of a lane in a column
abbrev pub cell_on : ℕ → ℕ → ℕ × ℕ
cell_on x lane = (x, row_of lane)

lanes_of_cells : (x : ℕ) (lanes : List ℕ) → map cell_lane (map (cell_on x) lanes) ≡ lanes
lanes_of_cells x [] = refl
lanes_of_cells x (lane ∷ lanes) =
    let here : (16 * lane + 8 - 8) / 16 ≡ lane = omega arith in ap₂ (λ n ns. n ∷ ns) here (lanes_of_cells x lanes)

-- lanes whose cells are the same are the same
pub same_lanes : (x x' : ℕ) (lanes lanes' : List ℕ) → map (cell_on x) lanes ≡ map (cell_on x') lanes' → lanes ≡ lanes'
same_lanes x x' lanes lanes' e = sym (lanes_of_cells x lanes) ∙ ap (map cell_lane) e ∙ lanes_of_cells x' lanes'

-- columns with the same instructions are the same, and so are starts with the same names
same_column : (a b : Column) → a.instrs ≡ b.instrs → a ≡ b
same_column a b e =
    subst (λ (instrs : List Instr). (sorted : IsTrue (are_sorted_apart instrs)) → a ≡ (record { instrs = instrs; sorted_apart = sorted })) e
    (λ sorted. ap (λ (s : IsTrue (are_sorted_apart a.instrs)). record { instrs = a.instrs; sorted_apart = s }) (Bool-set (are_sorted_apart a.instrs) true a.sorted_apart sorted)) b.sorted_apart

same_columns : (a b : List Column) → map (λ column. column.instrs) a ≡ map (λ column. column.instrs) b → a ≡ b
same_columns [] [] e = refl
same_columns [] (y ∷ ys) e = absurd (cc)
same_columns (x ∷ xs) [] e = absurd (cc)
same_columns (x ∷ xs) (y ∷ ys) e =
    let first : x.instrs ≡ y.instrs = cc in
    let others : map (λ column. column.instrs) xs ≡ map (λ column. column.instrs) ys = cc in
    ap₂ (λ c cs. c ∷ cs) (same_column x y first) (same_columns xs ys others)

same_starts : (a b : Starts) → a.list ≡ b.list → a ≡ b
same_starts a b e =
    subst (λ (list : List Start). (order : IsTrue (are_starts_in_order list)) → a ≡ (record { list = list; in_order = order })) e
    (λ order. ap (λ (o : IsTrue (are_starts_in_order a.list)). record { list = a.list; in_order = o }) (Bool-set (are_starts_in_order a.list) true a.in_order order)) b.in_order

-- a plan by its parts, without the places of nets
abbrev plan_by : ℕ → List Column → ℕ → Starts → List ℕ → List ℕ → List (List Bool) → Plan
plan_by lanes columns latches starts ins outs tape =
    record { lanes = lanes; columns = columns; latches = latches; starts = starts; ins = ins; outs = outs; nets = []; tape = tape }

same_plan : (a b : Plan) → a.lanes ≡ b.lanes → a.columns ≡ b.columns → a.latches ≡ b.latches → a.starts ≡ b.starts → a.ins ≡ b.ins → a.outs ≡ b.outs → a.tape ≡ b.tape
    → without_nets a ≡ without_nets b
same_plan a b lanes columns latches starts ins outs tape =
    ap (λ n. plan_by n a.columns a.latches a.starts a.ins a.outs a.tape) lanes
    ∙ ap (λ cs. plan_by b.lanes cs a.latches a.starts a.ins a.outs a.tape) columns
    ∙ ap (λ n. plan_by b.lanes b.columns n a.starts a.ins a.outs a.tape) latches
    ∙ ap (λ s. plan_by b.lanes b.columns b.latches s a.ins a.outs a.tape) starts
    ∙ ap (λ ls. plan_by b.lanes b.columns b.latches b.starts ls a.outs a.tape) ins
    ∙ ap (λ ls. plan_by b.lanes b.columns b.latches b.starts b.ins ls a.tape) outs
    ∙ ap (λ bits. plan_by b.lanes b.columns b.latches b.starts b.ins b.outs bits) tape

-- what is read of a pattern with a table is one plan
pub one_read : (grid : Grid) (ports : Ports) (a b : Plan) → IsPlanRead grid ports a → IsPlanRead grid ports b → without_nets a ≡ without_nets b
one_read grid ports a b ra rb =
    let one = one_size grid.width grid.height ports.p ports.l a.lanes b.lanes (length a.columns) (length b.columns) a.latches b.latches ra.size rb.size in
    same_plan a b one.lanes_same
    (same_columns a.columns b.columns
    (ra.columns
    ∙ ap (λ n. columns_shown grid.rows n a.latches (length a.columns)) one.lanes_same
    ∙ ap (λ n. columns_shown grid.rows b.lanes n (length a.columns)) one.loops_same
    ∙ ap (λ n. columns_shown grid.rows b.lanes b.latches n) one.columns_same
    ∙ sym rb.columns))
    one.loops_same
    (same_starts a.starts b.starts
    (ra.starts
    ∙ ap (λ n. starts_where n a.latches (bit_shown grid.rows n a.latches)) one.lanes_same
    ∙ ap (λ n. starts_where b.lanes n (bit_shown grid.rows b.lanes n)) one.loops_same
    ∙ sym rb.starts))
    (same_lanes (left_of a 0) (left_of b 0) a.ins b.ins (sym ra.in_cells ∙ rb.in_cells))
    (same_lanes (left_of a (length a.columns)) (left_of b (length b.columns)) a.outs b.outs (sym ra.out_cells ∙ rb.out_cells))
    (ra.no_tape ∙ sym rb.no_tape)

-- what is read of the rows of a drawing is the plan's
pub drawing_is_read : (grid : Grid) (ports : Ports) (plan : Plan) → IsPlanDrawing grid ports plan → IsPlanRead grid ports plan
drawing_is_read grid ports plan d = record {
  size = size_is grid.width grid.height ports plan d.circuit d.ports;
  contexts = d.ports.contexts;
  columns = sym (ap (λ g. columns_shown g.rows plan.lanes plan.latches (length plan.columns)) d.drawn ∙ columns_are plan d.circuit);
  starts = sym (ap (λ g. starts_where plan.lanes plan.latches (bit_shown g.rows plan.lanes plan.latches)) d.drawn ∙ starts_are plan d.circuit);
  ins = d.circuit.admissible.ins;
  in_cells = d.ports.in_cells;
  outs = d.circuit.admissible.outs;
  out_cells = d.ports.out_cells;
  no_tape = d.circuit.no_tape;
}

pub draws_one_plan : DrawsOnePlan
draws_one_plan grid ports a b da db = one_read grid ports a b (drawing_is_read grid ports a da) (drawing_is_read grid ports b db)

-- where nets are seen is not drawn
nets_aside : (plan : Plan) → start_grid plan ≡ start_grid (without_nets plan)
nets_aside plan = refl

-- a plan that draws the pattern is drawn as the one that is read
pub read_is : (grid : Grid) (ports : Ports) (plan : Plan) → IsPlanRead grid ports plan → (other : Plan) → IsPlanDrawing grid ports other
    → grid ≡ start_grid plan
read_is grid ports plan r other d =
    d.drawn ∙ nets_aside other ∙ ap start_grid (one_read grid ports other plan (drawing_is_read grid ports other d) r) ∙ sym (nets_aside plan)
