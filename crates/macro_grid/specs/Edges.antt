-- Which edges of a plan are lit.
use Rattle.std.specs.Prelude.{ℕ, ◌+◌, ◌*◌, ◌/◌, ◌%◌, ◌<◌, ◌≡◌, nat_lt, Bool, false, ◌&&◌, List, length, get_or}
use Rattle.tiling.specs.Tiling.{Edge, Lit}
use Rattle.tiling.specs.Tiling.Edge.{Beside, Above}
use Rattle.lane_core.specs.declared.plan.Plan.{Plan}
use Rattle.lane_core.specs.Tape.{tape_shift}
use Rattle.plan_layout.specs.Layout.{end_of_body}

-- A bit for each edge. The blocks of a tile column follow one another, `lanes` of them, and the
-- tile columns too; a block has a bit in `beside` for the edge on its west side, and one in `above`
-- for the edge on its north side.
pub record EdgeBits : Type 0 where
  pub lanes : ℕ
  pub beside : List Bool
  pub above : List Bool

-- the edges whose bits are true
abbrev pub lit_of : EdgeBits → Lit
lit_of bits (Beside column lane) =
    nat_lt lane bits.lanes && get_or bits.beside (column * bits.lanes + lane) false
lit_of bits (Above column lane) =
    nat_lt lane bits.lanes && get_or bits.above (column * bits.lanes + lane) false

-- The first bits tell which edges are lit: bit k is that of block k, for the edge on one of its
-- sides.
abbrev pub TellEdges : (count lanes : ℕ) → (side : ℕ → ℕ → Edge) → List Bool → Lit → Type 0
TellEdges count lanes side bits lit =
    (k : ℕ) → k < count → get_or bits k false ≡ lit (side (k / lanes) (k % lanes))

-- the numbers of tile columns and lanes that have bits: those of the drawing, and some beyond it,
-- where nothing stands
abbrev pub edge_columns : Plan → ℕ
edge_columns plan = tape_shift plan + (end_of_body plan + plan.latches + 2)

abbrev pub edge_lanes : Plan → ℕ
edge_lanes plan = plan.lanes + plan.latches + 1

-- there are as many bits as the plan's edges need
pub record IsEdgesOf (plan : Plan) (bits : EdgeBits) : Type 0 where
  pub lanes : bits.lanes ≡ edge_lanes plan
  pub beside : length bits.beside ≡ edge_columns plan * edge_lanes plan
  pub above : length bits.above ≡ edge_columns plan * edge_lanes plan
