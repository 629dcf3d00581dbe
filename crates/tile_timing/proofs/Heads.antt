-- The heads of a drawing, generation by generation, as lists.
use Rattle.std.proofs.Common.{ℤ, pos, ◌+ℤ◌, ◌-ℤ◌, ℕ, zero, suc, Bool, true, false, ◌&&◌, not, cond, List, [], ◌∷◌}
use Rattle.ww_rule.specs.declared.pattern.State.{State}
use Rattle.ww_rule.specs.declared.pattern.State.TheVariants.{Empty, Head, Tail, Conductor}
use Rattle.ww_rule.specs.Wireworld.{Plane, next_plane}
use Rattle.tile_core.specs.Drawing.{Cell, is_cell_of, Drawing, picture}

abbrev pub cell : ℤ → ℤ → Cell
cell x y = record { x = x; y = y }

-- the eight neighbours of a cell, before more cells
abbrev pub around : Cell → List Cell → List Cell
around c cs =
    cell (c.x -ℤ pos 1) (c.y -ℤ pos 1)
    ∷ cell c.x (c.y -ℤ pos 1)
    ∷ cell (c.x +ℤ pos 1) (c.y -ℤ pos 1)
    ∷ cell (c.x -ℤ pos 1) c.y
    ∷ cell (c.x +ℤ pos 1) c.y
    ∷ cell (c.x -ℤ pos 1) (c.y +ℤ pos 1)
    ∷ cell c.x (c.y +ℤ pos 1)
    ∷ cell (c.x +ℤ pos 1) (c.y +ℤ pos 1)
    ∷ cs

abbrev pub all_around : List Cell → List Cell
all_around [] = []
all_around (c ∷ cs) = around c (all_around cs)

abbrev pub is_head : State → Bool
is_head Empty = false
is_head Head = true
is_head Tail = false
is_head Conductor = false

-- the cells of a list that the rule makes heads, each once
abbrev pub collect : Plane → List Cell → List Cell → List Cell
collect p [] found = found
collect p (c ∷ cs) found =
    collect p cs (cond (is_head (next_plane p c.x c.y) && not (is_cell_of c.x c.y found)) (c ∷ found) found)

abbrev pub next_heads : Drawing → List Cell → List Cell → List Cell
next_heads drawing heads tails = collect (picture drawing heads tails) (all_around heads) []

-- the heads of generations 0 to n
abbrev pub trace : Drawing → ℕ → List Cell → List Cell → List (List Cell)
trace drawing zero heads tails = heads ∷ []
trace drawing (suc n) heads tails = heads ∷ trace drawing n (next_heads drawing heads tails) heads
