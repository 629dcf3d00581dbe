-- The rows of the drawing of a plan with any lit edges, and its plane.
use Rattle.std.proofs.Common.{rules, ℤ, pos, negsuc, ℕ, zero, suc, ◌+◌, ◌*◌, ◌<◌, ◌≤◌, ◌≡◌, refl, sym, ap, ◌∙◌, Bool, true, false, ◌==◌, ◌&&◌, cond, nat_lt, [], map, length, get_or, arith}
use Rattle.std.specs.List.{range_with_len}
use Rattle.std.proofs.lemmas.Bool.{and_parts, ltb-true}
use Rattle.std.proofs.lemmas.Bool.Decides.{nat_tests}
use Rattle.std.proofs.lemmas.List.FromFn.{length-map-range_with_len, get_or-map-range_with_len}
use Rattle.std.proofs.Math.Nat.{le-mul_of_pos_right}
use Rattle.std.proofs.Math.Path.{fun_ext}
use Rattle.ww_rule.specs.declared.pattern.State.TheVariants.{Empty}
use Rattle.ww_rule.specs.Grid.{IsGrid, IsEmptyOutside, in_box, plane_of}
use Rattle.ww_rule.proofs.Boxes.{plane_of_outside}
use Rattle.tiling.specs.Tiling.{Lit}
use Rattle.lane_core.specs.declared.plan.Plan.{Plan}
use Rattle.lane_core.specs.Plans.{IsAdmissible, size_of}
use Rattle.lane_core.specs.Tape.{tape_shift}
use Rattle.tile_library.specs.Drawings.{shipped_drawing}
use Rattle.plan_layout.specs.Planes.{plane_with}
use Rattle.grid_assembly.specs.PlanDrawing.{IsPatternOf}
use Rattle.plan_carries.specs.Pictures.{picture_row, grid_with}

abbrev sized : Bool → ℕ → ℕ → ℕ × ℕ
sized bare columns rows = cond bare (0, 0) (columns + 1, rows)

-- the box of a plan where it stands without a tape
abbrev own_size : Plan → ℕ × ℕ
own_size plan = sized (plan.lanes == 0) (32 * (length plan.columns + 2 * plan.latches)) (16 * (plan.lanes + plan.latches))

-- outside it the plan's plane is empty
outside_own : (plan : Plan) (lit : Lit) → IsAdmissible plan → IsEmptyOutside (own_size plan).0 (own_size plan).1 (plane_with shipped_drawing plan lit)
outside_own plan lit h (pos x) (pos y) out = search rules
outside_own plan lit h (pos x) (negsuc y) out = refl
outside_own plan lit h (negsuc x) y out = refl

-- and so outside a wider one
narrower : (bare : Bool) (shift columns rows x y : ℕ) → (nat_lt x (sized bare (32 * (shift + columns)) rows).0 && nat_lt y (sized bare (32 * (shift + columns)) rows).1) ≡ false
    → (nat_lt x (sized bare (32 * columns) rows).0 && nat_lt y (sized bare (32 * columns) rows).1) ≡ false
narrower true shift columns rows x y out = out
narrower false shift columns rows x y out = grind (arith, nat_tests)

outside : (plan : Plan) (lit : Lit) → IsAdmissible plan → IsEmptyOutside (size_of plan).0 (size_of plan).1 (plane_with shipped_drawing plan lit)
outside plan lit h (pos x) (pos y) out =
    outside_own plan lit h (pos x) (pos y) (narrower (plan.lanes == 0) (tape_shift plan) (length plan.columns + 2 * plan.latches) (16 * (plan.lanes + plan.latches)) x y out)
outside plan lit h (pos x) (negsuc y) out = refl
outside plan lit h (negsuc x) y out = refl

-- a box without cells has no rows
no_rows : (bare : Bool) (columns rows : ℕ) → (sized bare columns rows).0 * (sized bare columns rows).1 ≡ 0 → (sized bare columns rows).1 ≡ 0
no_rows true columns rows e = refl
no_rows false columns zero e = refl
no_rows false columns (suc rows) e =
    let le : columns + 1 ≤ (columns + 1) * suc rows = le-mul_of_pos_right (columns + 1) (omega arith) in absurd (omega (arith, e, le))

row_at : (plan : Plan) (lit : Lit) (y : ℕ) → y < (size_of plan).1 → get_or (grid_with plan lit).rows y [] ≡ picture_row plan lit y
row_at plan lit y lt = get_or-map-range_with_len (picture_row plan lit) 0 (size_of plan).1 y y [] lt (omega arith)

cell_at : (plan : Plan) (lit : Lit) (x y : ℕ) → x < (size_of plan).0 → get_or (picture_row plan lit y) x Empty ≡ plane_with shipped_drawing plan lit (pos x) (pos y)
cell_at plan lit x y lt = get_or-map-range_with_len (λ x. plane_with shipped_drawing plan lit (pos x) (pos y)) 0 (size_of plan).0 x x Empty lt (omega arith)

pub is_grid : (plan : Plan) (lit : Lit) → IsGrid (size_of plan).0 (size_of plan).1 (grid_with plan lit).rows
is_grid plan lit =
    let many : length (grid_with plan lit).rows ≡ (size_of plan).1 = length-map-range_with_len (picture_row plan lit) 0 (size_of plan).1 in
    record {
      long = λ y d lt.
          let row : get_or (grid_with plan lit).rows y d ≡ picture_row plan lit y = get_or-map-range_with_len (picture_row plan lit) 0 (size_of plan).1 y y d (omega (arith, lt, many)) (omega arith) in
          ap length row ∙ length-map-range_with_len (λ x. plane_with shipped_drawing plan lit (pos x) (pos y)) 0 (size_of plan).0;
      many = λ _. many;
      none = λ e. ap (λ n. map (picture_row plan lit) (range_with_len 0 n)) (no_rows (plan.lanes == 0) (32 * (tape_shift plan + (length plan.columns + 2 * plan.latches))) (16 * (plan.lanes + plan.latches)) e);
    }

same_cell : (plan : Plan) (lit : Lit) → IsAdmissible plan → (x y : ℤ) (b : Bool) → in_box (size_of plan).0 (size_of plan).1 x y ≡ b → plane_of (grid_with plan lit).rows x y ≡ plane_with shipped_drawing plan lit x y
same_cell plan lit h x y false out = plane_of_outside (size_of plan).0 (size_of plan).1 (grid_with plan lit).rows (is_grid plan lit) x y out ∙ sym (outside plan lit h x y out)
same_cell plan lit h (pos x) (pos y) true within =
    let parts = and_parts (nat_lt x (size_of plan).0) (nat_lt y (size_of plan).1) within in
    ap (λ row. get_or row x Empty) (row_at plan lit y (ltb-true y (size_of plan).1 parts.1)) ∙ cell_at plan lit x y (ltb-true x (size_of plan).0 parts.0)
same_cell plan lit h (pos x) (negsuc y) true within = refl
same_cell plan lit h (negsuc x) y true within = refl

pub pictures_are_planes : (plan : Plan) → IsAdmissible plan → (lit : Lit) → IsPatternOf (grid_with plan lit) (plane_with shipped_drawing plan lit)
pictures_are_planes plan h lit =
    record { box = is_grid plan lit; plane = fun_ext (λ x. fun_ext (λ y. same_cell plan lit h x y (in_box (size_of plan).0 (size_of plan).1 x y) refl)) }
