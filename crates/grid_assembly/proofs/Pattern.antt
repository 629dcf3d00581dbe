-- The rows of a plan's pattern, and its plane.
use Rattle.std.proofs.Common.{ℤ, pos, negsuc, ℕ, zero, suc, ◌+◌, ◌*◌, ◌<◌, ◌≤◌, ◌≡◌, refl, sym, ap, ◌∙◌, Bool, true, false, ◌==◌, cond, nat_lt, List, [], map, length, get_or, All, arith}
use Rattle.std.specs.List.{range_with_len}
use Rattle.std.proofs.lemmas.Bool.{and_parts, ltb-true}
use Rattle.std.proofs.lemmas.List.{ext_get_or}
use Rattle.std.proofs.lemmas.List.FromFn.{length-map-range_with_len, get_or-map-range_with_len}
use Rattle.std.proofs.Math.Nat.{le-mul_of_pos_right}
use Rattle.std.proofs.Math.Path.{fun_ext}
use Rattle.ww_rule.specs.declared.pattern.State.{State}
use Rattle.ww_rule.specs.declared.pattern.State.TheVariants.{Empty}
use Rattle.ww_rule.specs.Grid.{IsGrid, in_box, plane_of}
use Rattle.ww_rule.proofs.Boxes.{plane_of_outside}
use Rattle.lane_core.specs.declared.plan.Plan.{Plan}
use Rattle.lane_core.specs.Plans.{IsAdmissible, size_of}
use Rattle.lane_core.specs.Tape.{tape_shift}
use Rattle.tile_library.specs.Drawings.{shipped_drawing}
use Rattle.grid_assembly.proofs.Boxed.{stays_in_box}
use Rattle.plan_layout.specs.Tape.{drawn_plane}
use Rattle.grid_assembly.specs.PlanDrawing.{AreCellsOfRow, start_row, start_grid, IsPatternOf}

abbrev sized : Bool → ℕ → ℕ → ℕ × ℕ
sized bare columns rows = cond bare (0, 0) (columns + 1, rows)

-- a box without cells has no rows
no_rows : (bare : Bool) (columns rows : ℕ) → (sized bare columns rows).0 * (sized bare columns rows).1 ≡ 0 → (sized bare columns rows).1 ≡ 0
no_rows true columns rows e = refl
no_rows false columns zero e = refl
no_rows false columns (suc rows) e =
    let le : columns + 1 ≤ (columns + 1) * suc rows = le-mul_of_pos_right (columns + 1) (omega arith) in absurd (omega (arith, e, le))

row_at : (plan : Plan) (y : ℕ) → y < (size_of plan).1 → get_or (start_grid plan).rows y [] ≡ start_row plan y
row_at plan y lt = get_or-map-range_with_len (start_row plan) 0 (size_of plan).1 y y [] lt (omega arith)

pub cell_at : (plan : Plan) (x y : ℕ) → x < (size_of plan).0 → get_or (start_row plan y) x Empty ≡ drawn_plane shipped_drawing plan (pos x) (pos y)
cell_at plan x y lt = get_or-map-range_with_len (λ x. drawn_plane shipped_drawing plan (pos x) (pos y)) 0 (size_of plan).0 x x Empty lt (omega arith)

-- a row as long as the drawing is wide, with the plane's cells, is the pattern's row
pub row_is : (plan : Plan) (y : ℕ) (cells : List State) → length cells ≡ (size_of plan).0 → AreCellsOfRow plan y 0 cells → cells ≡ start_row plan y
row_is plan y cells long are =
    ext_get_or Empty cells (start_row plan y) (long ∙ sym (length-map-range_with_len (λ x. drawn_plane shipped_drawing plan (pos x) (pos y)) 0 (size_of plan).0))
    (λ i lt. let at : 0 + i ≡ i = omega arith in are i lt ∙ ap (λ x. drawn_plane shipped_drawing plan (pos x) (pos y)) at ∙ sym (cell_at plan i y (omega (arith, lt, long))))

-- the first rows are as wide as the drawing
pub rows_long : (plan : Plan) (n : ℕ) → All (λ row. length row ≡ (size_of plan).0) (map (start_row plan) (range_with_len 0 n))
rows_long plan n y d lt =
    let many : length (map (start_row plan) (range_with_len 0 n)) ≡ n = length-map-range_with_len (start_row plan) 0 n in
    ap length (get_or-map-range_with_len (start_row plan) 0 n y y d (omega (arith, lt, many)) (omega arith))
    ∙ length-map-range_with_len (λ x. drawn_plane shipped_drawing plan (pos x) (pos y)) 0 (size_of plan).0

pub is_grid : (plan : Plan) → IsGrid (size_of plan).0 (size_of plan).1 (start_grid plan).rows
is_grid plan =
    let many : length (start_grid plan).rows ≡ (size_of plan).1 = length-map-range_with_len (start_row plan) 0 (size_of plan).1 in
    record {
      long = λ y d lt.
          let row : get_or (start_grid plan).rows y d ≡ start_row plan y = get_or-map-range_with_len (start_row plan) 0 (size_of plan).1 y y d (omega (arith, lt, many)) (omega arith) in
          ap length row ∙ length-map-range_with_len (λ x. drawn_plane shipped_drawing plan (pos x) (pos y)) 0 (size_of plan).0;
      many = λ _. many;
      none = λ e. ap (λ n. map (start_row plan) (range_with_len 0 n)) (no_rows (plan.lanes == 0) (32 * (tape_shift plan + (length plan.columns + 2 * plan.latches))) (16 * (plan.lanes + plan.latches)) e);
    }

same_cell : (plan : Plan) → IsAdmissible plan → (x y : ℤ) (b : Bool) → in_box (size_of plan).0 (size_of plan).1 x y ≡ b → plane_of (start_grid plan).rows x y ≡ drawn_plane shipped_drawing plan x y
same_cell plan h x y false out = plane_of_outside (size_of plan).0 (size_of plan).1 (start_grid plan).rows (is_grid plan) x y out ∙ sym (stays_in_box shipped_drawing plan h x y out)
same_cell plan h (pos x) (pos y) true within =
    let parts = and_parts (nat_lt x (size_of plan).0) (nat_lt y (size_of plan).1) within in
    ap (λ row. get_or row x Empty) (row_at plan y (ltb-true y (size_of plan).1 parts.1)) ∙ cell_at plan x y (ltb-true x (size_of plan).0 parts.0)
same_cell plan h (pos x) (negsuc y) true within = refl
same_cell plan h (negsuc x) y true within = refl

pub patterns_are_planes : (plan : Plan) → IsAdmissible plan → IsPatternOf (start_grid plan) (drawn_plane shipped_drawing plan)
patterns_are_planes plan h =
    record { box = is_grid plan; plane = fun_ext (λ x. fun_ext (λ y. same_cell plan h x y (in_box (size_of plan).0 (size_of plan).1 x y) refl)) }
