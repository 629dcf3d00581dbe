-- Tiles without conductors in a row.
use Rattle.std.proofs.Common.{◌≡◌, ap, pos, ℕ, false, cond}
use Rattle.ww_rule.specs.declared.pattern.State.TheVariants.{Empty, Head, Tail, Conductor}
use Rattle.tile_core.specs.declared.kind.Kind.{Kind}
use Rattle.tile_core.specs.Drawing.{is_cell_of}
use Rattle.tile_core.specs.Kinds.{interface}
use Rattle.tile_library.specs.Drawings.{shipped_drawing}
use Rattle.tiling.specs.Tiling.{Lit, drawn_piece, heads_of, tails_of}
use Rattle.tiling.specs.Tiling.Piece.{Tile}

pub undrawn : (edges : Lit) (q l : ℕ) (kind : Kind) (x y : ℕ) → shipped_drawing kind (pos x) (pos y) ≡ false → drawn_piece shipped_drawing edges q l (Tile kind) x y ≡ Empty
undrawn edges q l kind x y e =
    let heads = heads_of edges q l (interface kind) in
    let tails = tails_of edges q l (interface kind) in
    ap (λ b. cond b (cond (is_cell_of (pos x) (pos y) heads) Head (cond (is_cell_of (pos x) (pos y) tails) Tail Conductor)) Empty) e
