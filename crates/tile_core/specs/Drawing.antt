-- Cells of the plane, and drawings: the conductors that a tile is made of.
use Rattle.std.specs.Prelude.{ℤ, Bool, false, ◌&&◌, ◌||◌, cond, List, [], ◌∷◌}
use Rattle.std.specs.Ordering.{int_eq}
use Rattle.ww_rule.specs.declared.pattern.State.TheVariants.{Empty, Head, Tail, Conductor}
use Rattle.ww_rule.specs.Wireworld.{Plane}

-- a cell of the plane: x counts eastward, y downward
pub record Cell : Type 0 where
  pub x : ℤ
  pub y : ℤ

-- whether the cell at x, y is one of these
abbrev pub is_cell_of : ℤ → ℤ → List Cell → Bool
is_cell_of x y [] = false
is_cell_of x y (c ∷ cs) = (int_eq x c.x && int_eq y c.y) || is_cell_of x y cs

-- a test on cells: which of them are conductors
abbrev pub Drawing : Type 0
Drawing = ℤ → ℤ → Bool

-- the drawing alone on the plane: those of its cells that are listed are heads and tails, and the
-- others conductors
abbrev pub picture : Drawing → List Cell → List Cell → Plane
picture drawing heads tails x y =
    cond (drawing x y) (cond (is_cell_of x y heads) Head
    (cond (is_cell_of x y tails) Tail Conductor)) Empty
