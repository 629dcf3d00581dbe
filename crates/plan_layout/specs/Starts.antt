-- Which edges of a plan are lit at generation 0, and how they are named.
use Rattle.std.specs.Prelude.{ℕ, ◌+◌, ◌-◌, ◌*◌, ◌≡◌, ◌⊎◌, nat_lt, Bool, true, ◌&&◌, ◌||◌, if◌then◌else◌, List, All}
use Rattle.tiling.specs.Tiling.{Slot, Tiling, Edge, Lit}
use Rattle.tiling.specs.Tiling.Edge.{Beside, Above}
use Rattle.tiling.specs.Matched.{is_entered, is_left}
use Rattle.lane_core.specs.declared.starts.Start.{Start}
use Rattle.lane_core.specs.declared.plan.Plan.{Plan}
use Rattle.lane_core.specs.Starts.{is_start_at}
use Rattle.plan_layout.specs.Layout.{tiling_of}

-- x and y are those of one of the edge's two cells, one on each of its sides
abbrev pub HasCell : Edge → ℕ → ℕ → Type 0
HasCell (Beside q l) x y = ((x ≡ 32 * q) ⊎ (x ≡ 32 * q - 1)) × (y ≡ 16 * l + 8)
HasCell (Above q l) x y = (x ≡ 32 * q + 16) × ((y ≡ 16 * l) ⊎ (y ≡ 16 * l - 1))

-- the edges with these names: one of the edge's two cells is among the names
abbrev pub named_edges : List Start → Lit
named_edges names (Beside q l) =
    is_start_at names (32 * q) (16 * l + 8) || is_start_at names (32 * q - 1) (16 * l + 8)
named_edges names (Above q l) =
    is_start_at names (32 * q + 16) (16 * l) || is_start_at names (32 * q + 16) (16 * l - 1)

-- the edges that the starts of a plan name, which are lit at generation 0
abbrev pub start_edges : Plan → Lit
start_edges plan = named_edges plan.starts.list

-- An edge is named by its entry cell, or by its exit cell if nothing is entered there. Signals of a
-- plan that go west or north always enter something, so such an exit cell lies west or north of its
-- edge.
abbrev pub edge_name : Tiling → Edge → Start
edge_name tiling (Beside q l) =
    record { x = if is_entered (tiling q l) 0 8 then 32 * q else 32 * q - 1; y = 16 * l + 8 }
edge_name tiling (Above q l) =
    record { x = 32 * q + 16; y = if is_entered (tiling q l) 16 0 then 16 * l else 16 * l - 1 }

-- what stands in a block is entered or left at this place of the block
abbrev pub is_port : Slot → ℕ → ℕ → Bool
is_port slot x y = is_entered slot x y || is_left slot x y

-- signals pass the edge: something is entered or left there
abbrev pub is_passed : Tiling → Edge → Bool
is_passed tiling (Beside q l) =
    (nat_lt 0 q && is_port (tiling (q - 1) l) 31 8) || is_port (tiling q l) 0 8
is_passed tiling (Above q l) =
    (nat_lt 0 l && is_port (tiling q (l - 1)) 16 15) || is_port (tiling q l) 16 0

-- the start names an edge of the tiling
pub record NamesEdge (tiling : Tiling) (start : Start) : Type 0 where
  pub edge : Edge
  pub passed : is_passed tiling edge ≡ true
  pub name : start ≡ edge_name tiling edge

-- each start names an edge of the drawing
abbrev pub HasStartEdges : Plan → Type 0
HasStartEdges plan = All (NamesEdge (tiling_of plan)) plan.starts.list
