-- The edges on the way back of a loop, counted backwards from where it enters the body.
use Rattle.std.specs.Prelude.{ℕ, zero, suc, ◌+◌, ◌-◌, ◌<◌, ◌≤◌, ◌≡◌, if◌then◌else◌, false, get_or}
use Rattle.tiling.specs.Tiling.{interface_of, edge_of, Slot, Tiling, Edge, Lit}
use Rattle.tiling.specs.Tiling.Slot.{Nothing, Whole, Upper, Lower}
use Rattle.tiling.specs.Tiling.Edge.{Beside, Above}
use Rattle.tiling.specs.Matched.{is_left}
use Rattle.lane_core.specs.declared.plan.Plan.{Plan}
use Rattle.lane_core.specs.Plans.{IsAdmissible}
use Rattle.plan_layout.specs.Layout.{tiling_of}
use Rattle.plan_waves.specs.Waves.{GoesOn, is_body_entry, is_inside, loop_exit, loop_entry, tiles_back}

-- the edge at which a signal has entered the block (q, l) that it leaves on the way back of a loop:
-- at the one entry of a tile of one lane, and in a swap at the entry of its other lane
abbrev pub way_in : ℕ → ℕ → Slot → Edge
way_in q l Nothing = Beside q l
way_in q l (Whole piece) = edge_of q l (get_or (interface_of piece).entries 0 (0, 0))
way_in q l (Upper piece) = edge_of q l (get_or (interface_of piece).entries 1 (0, 0))
way_in q l (Lower piece) = edge_of q (l - 1) (get_or (interface_of piece).entries 0 (0, 0))

-- the edge one tile back from an edge, through the one of the two blocks that meet there which is
-- left at the edge
abbrev pub tile_before : Tiling → Edge → Edge
tile_before tiling (Beside q l) =
    if is_left (tiling q l) 0 8 then way_in q l (tiling q l)
    else way_in (q - 1) l (tiling (q - 1) l)
tile_before tiling (Above q l) =
    if is_left (tiling q l) 16 0 then way_in q l (tiling q l)
    else way_in q (l - 1) (tiling q (l - 1))

-- the edge so many tiles back from an edge
abbrev pub tiles_before : Tiling → ℕ → Edge → Edge
tiles_before tiling zero edge = edge
tiles_before tiling (suc j) edge = tile_before tiling (tiles_before tiling j edge)

-- the edge that lies so many tiles before a loop's entry, on its way back
abbrev pub before_entry : Plan → ℕ → ℕ → Edge
before_entry plan loop j = tiles_before (tiling_of plan) j (loop_entry plan loop)

-- The way back of a loop begins at the loop's exit and meets no edge of the body but this one and
-- the loop's entry. What is lit on it enters the body one macro step later for each tile that
-- remains of the way.
pub record HasWayBack (plan : Plan) (loop : ℕ) : Type 0 where
  pub begins : before_entry plan loop (tiles_back plan) ≡ loop_exit plan loop
  pub outside : (j : ℕ) → 0 < j → j ≤ tiles_back plan
      → is_body_entry plan (before_entry plan loop j) ≡ false
  pub apart : (j : ℕ) → j < tiles_back plan → is_inside plan (before_entry plan loop j) ≡ false
  pub enters : (edges : ℕ → Lit) → GoesOn plan edges → (m j : ℕ) → j ≤ tiles_back plan
      → edges (m + j) (loop_entry plan loop) ≡ edges m (before_entry plan loop j)

-- each loop of an admissible plan has its way back
abbrev pub LoopsHaveWaysBack : Type 0
LoopsHaveWaysBack =
    (plan : Plan) → IsAdmissible plan → (loop : ℕ) → loop < plan.latches → HasWayBack plan loop

-- no edge lies on the ways back of two loops, nor at two places of one way back
abbrev pub WaysBackAreApart : Type 0
WaysBackAreApart =
    (plan : Plan) → IsAdmissible plan → (loop other j i : ℕ) → loop < plan.latches
    → other < plan.latches → j ≤ tiles_back plan → i ≤ tiles_back plan
    → before_entry plan loop j ≡ before_entry plan other i → (loop ≡ other) × (j ≡ i)
