-- A diode in a wire lets an electron pass eastward, in three generations, and stops one that comes from the east.
use Rattle.std.proofs.Common.{pos, ℕ, ◌≡◌, ◌||◌, [], ◌∷◌, lit<}
use Rattle.ww_rule.specs.Wireworld.{evolve}
use Rattle.tile_core.specs.Drawing.{Cell, is_cell_of, Drawing, picture}
use Rattle.tile_timing.proofs.Heads.{cell}
use Rattle.tile_timing.proofs.Sound.{evolve_picture}

abbrev pub at : ℕ → ℕ → Cell
at x y = cell (pos x) (pos y)

-- the row 1 is a wire of the columns 0 to 11, with a diode in columns 5 and 6:
--     .....CC.....
--     CCCCCC.CCCCC
--     .....CC.....
abbrev pub diode_wire : Drawing
diode_wire x y =
    is_cell_of x y (at 5 0 ∷ at 6 0 ∷ at 5 2 ∷ at 6 2 ∷ [])
    || is_cell_of x y (at 0 1 ∷ at 1 1 ∷ at 2 1 ∷ at 3 1 ∷ at 4 1 ∷ at 5 1 ∷ at 7 1 ∷ at 8 1 ∷ at 9 1 ∷ at 10 1 ∷ at 11 1 ∷ [])

-- an electron before the diode is behind it four generations later: its head takes three from column 4 to column 7
pub passes_eastward : evolve 4 (picture diode_wire (at 4 1 ∷ []) (at 3 1 ∷ [])) ≡ picture diode_wire (at 8 1 ∷ []) (at 7 1 ∷ [])
passes_eastward = evolve_picture diode_wire 4 3 (at 4 1 ∷ []) (at 3 1 ∷ []) (lit< tt)

-- an electron from the east dies: three heads meet column 4, and after four generations all is at rest
pub stops_westward : evolve 4 (picture diode_wire (at 7 1 ∷ []) (at 8 1 ∷ [])) ≡ picture diode_wire [] []
stops_westward = evolve_picture diode_wire 4 3 (at 7 1 ∷ []) (at 8 1 ∷ []) (lit< tt)
