-- Pieces touch at their ports alone.
use Rattle.std.proofs.Common.{ℤ, pos, negsuc, ◌+ℤ◌, ◌-ℤ◌, ◌≤ℤ◌, ℕ, ◌+◌, ◌-◌, ◌*◌, ◌<◌, ◌≤◌, ◌≡◌, ◌⊎◌, refl, ap, ap₂, ◌∙◌, Bool, true, ◌&&◌, arith, inl, inr, List, [], ◌∷◌, ◌++◌, int_eq}
use Rattle.std.proofs.lemmas.Bool.{and_from, or_parts, or_cases, or_left, or_right, lt-ltb, eqb-false, true_from_ne_false}
use Rattle.std.proofs.lemmas.Int.{ints}
use Rattle.tile_core.specs.declared.kind.Kind.{Kind}
use Rattle.tile_core.specs.Drawing.{Cell, Drawing, is_cell_of}
use Rattle.tile_core.specs.Interface.{entry_cells, exit_cells, is_in_box, is_on_border}
use Rattle.tiling.specs.Tiling.{Tiling}
use Rattle.tiling.proofs.Region.{Placed, face, InBox, local}
use Rattle.tiling.proofs.Alone.{Laws, wires, drawn_in_box}

-- a cell and one at most one column and one row away
pub record Near (x y u v : ℤ) : Type 0 where
  pub west : (x -ℤ pos 1) ≤ℤ u
  pub east : u ≤ℤ (x +ℤ pos 1)
  pub north : (y -ℤ pos 1) ≤ℤ v
  pub south : v ≤ℤ (y +ℤ pos 1)

pub near_back : (x y u v : ℤ) → Near x y u v → Near u v x y
near_back x y u v n =
    record {
      west = omega (arith, ints, n.west, n.east, n.north, n.south);
      east = omega (arith, ints, n.west, n.east, n.north, n.south);
      north = omega (arith, ints, n.west, n.east, n.north, n.south);
      south = omega (arith, ints, n.west, n.east, n.north, n.south);
    }

-- whole numbers from a to b
whole_between : (u : ℤ) (a b : ℕ) → pos a ≤ℤ u → u ≤ℤ pos b → (n : ℕ) × (u ≡ pos n) × (a ≤ n) × (n ≤ b)
whole_between (pos n) a b lo hi = (n, refl, omega (arith, ints, lo), omega (arith, ints, hi))
whole_between (negsuc n) a b lo hi = absurd (omega (arith, ints, lo))

-- beside a cell that is not on the border of a box lies no cell outside the box
inner : (tiling : Tiling) (t : Placed) (x y u v : ℤ) (b : InBox tiling t x y) → Near x y u v → 1 ≤ b.x → b.x ≤ 30 → 1 ≤ b.y → b.y + 1 < 16 * (face t).lanes → InBox tiling t u v
inner tiling t x y u v b n w e up down =
    let U = whole_between u (32 * t.column + b.x - 1) (32 * t.column + b.x + 1) (omega (arith, ints, n.west, b.u_is, w)) (omega (arith, ints, n.east, b.u_is)) in
    let V = whole_between v (16 * t.lane + b.y - 1) (16 * t.lane + b.y + 1) (omega (arith, ints, n.north, b.v_is, up)) (omega (arith, ints, n.south, b.v_is)) in
    record {
      x = U.0 - 32 * t.column;
      y = V.0 - 16 * t.lane;
      column = omega (arith, U.2, U.3, w, e);
      row = omega (arith, V.2, V.3, up, down);
      u_is = U.1 ∙ ap pos (omega (arith, U.2, w));
      v_is = V.1 ∙ ap pos (omega (arith, V.2, up));
    }

pub inside_test : (tiling : Tiling) (t : Placed) (u v : ℤ) (b : InBox tiling t u v) → is_in_box (face t) (pos b.x) (pos b.y) ≡ true
inside_test tiling t u v b = and_from _ _ (lt-ltb b.x 32 b.column) (lt-ltb b.y (16 * (face t).lanes) b.row)

-- a cell of a box beside a cell outside it lies on the border
pub on_border : (tiling : Tiling) (t : Placed) (x y u v : ℤ) (b : InBox tiling t x y) → Near x y u v → (InBox tiling t u v → ⊥) → is_on_border (face t) (pos b.x) (pos b.y) ≡ true
on_border tiling t x y u v b near out =
    and_from _ _ (inside_test tiling t x y b) (true_from_ne_false _ (λ f.
    let p1 = or_parts _ _ f in
    let p2 = or_parts _ _ p1.0 in
    let p3 = or_parts _ _ p2.0 in
    let west = eqb-false b.x 0 p3.0 in
    let east = eqb-false b.x 31 p3.1 in
    let north = eqb-false b.y 0 p2.1 in
    let south = eqb-false (b.y + 1) (16 * (face t).lanes) p1.1 in
    let x_low : 1 ≤ b.x = omega (arith, west) in
    let x_high : b.x ≤ 30 = omega (arith, east, b.column) in
    let y_low : 1 ≤ b.y = omega (arith, north) in
    let y_high : b.y + 1 < 16 * (face t).lanes = omega (arith, south, b.row) in
    out (inner tiling t x y u v b near x_low x_high y_low y_high)))

abbrev pub local_x : Placed → ℤ → ℤ
local_x t u = u -ℤ pos (32 * t.column)

abbrev pub local_y : Placed → ℤ → ℤ
local_y t v = v -ℤ pos (16 * t.lane)

abbrev pub is_entry : Placed → ℤ → ℤ → Bool
is_entry t u v = is_cell_of (local_x t u) (local_y t v) (entry_cells (face t))

abbrev pub is_exit : Placed → ℤ → ℤ → Bool
is_exit t u v = is_cell_of (local_x t u) (local_y t v) (exit_cells (face t))

pub at_local : (tiling : Tiling) (t : Placed) (u v : ℤ) (b : InBox tiling t u v) → (local_x t u ≡ pos b.x) × (local_y t v ≡ pos b.y)
at_local tiling t u v b =
    (ap (local_x t) b.u_is ∙ local (32 * t.column) b.x, ap (local_y t) b.v_is ∙ local (16 * t.lane) b.y)

pub among-append : (x y : ℤ) (cs ds : List Cell) → is_cell_of x y (cs ++ ds) ≡ true → (is_cell_of x y cs ≡ true) ⊎ (is_cell_of x y ds ≡ true)
among-append x y [] ds e = inr e
among-append x y (c ∷ cs) ds e =
    elim (or_cases (int_eq x c.x && int_eq y c.y) (is_cell_of x y (cs ++ ds)) e) [
      | inl here ↦ inl (or_left _ _ here)
      | inr later ↦ elim (among-append x y cs ds later) [ inl l ↦ inl (or_right (int_eq x c.x && int_eq y c.y) _ l) | inr r ↦ inr r ]
    ]

-- a drawn cell beside a cell outside the piece's box is a port
pub is_port : (library : Kind → Drawing) → Laws library → (tiling : Tiling) (t : Placed) (x y u v : ℤ) → wires library t x y ≡ true → Near x y u v → (InBox tiling t u v → ⊥)
    → (is_entry t x y ≡ true) ⊎ (is_exit t x y ≡ true)
is_port library laws tiling t x y u v drawn near out =
    let b = drawn_in_box library laws tiling t x y drawn in
    let at = at_local tiling t x y b in
    let edge : is_on_border (face t) (local_x t x) (local_y t y) ≡ true = ap₂ (is_on_border (face t)) at.0 at.1 ∙ on_border tiling t x y u v b near out in
    among-append (local_x t x) (local_y t y) (entry_cells (face t)) (exit_cells (face t)) ((laws t.piece).has_ports.border (local_x t x) (local_y t y) edge drawn)

pub inside_is : (tiling : Tiling) (t : Placed) (u v : ℤ) → InBox tiling t u v → is_in_box (face t) (local_x t u) (local_y t v) ≡ true
inside_is tiling t u v b =
    let at = at_local tiling t u v b in
    ap₂ (is_in_box (face t)) at.0 at.1 ∙ inside_test tiling t u v b
