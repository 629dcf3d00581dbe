-- The heads and tails of a tile, port by port.
use Rattle.std.proofs.Common.{◌≡◌, refl, ◌∙◌, ap, ap₂, pos, ℕ, cond, Bool, true, false, ◌&&◌, ◌||◌, [], ◌∷◌}
use Rattle.tile_core.specs.declared.kind.Kind.{Kind}
use Rattle.tile_core.specs.declared.kind.Kind.TheVariants.{Swap, Xor, Or, AndNot, Fork, East, South, North, EastSouth, SouthWest, WestNorth, NorthEast, West, WestSwap}
use Rattle.tile_core.specs.Drawing.{is_cell_of}
use Rattle.tile_core.specs.Interface.{cell_at, chosen}
use Rattle.tile_core.specs.Kinds.{interface}
use Rattle.tiling.specs.Tiling.{Lit, heads_of, tails_of}
use Rattle.std.proofs.Math.Bool.{or-false as or_false}
use Rattle.grid_assembly.specs.PortCells.{is_port_at, head_at, tail_at}
use Rattle.ww_rule.specs.declared.pattern.State.TheVariants.{Empty, Head, Tail, Conductor}
use Rattle.tile_library.specs.Drawings.{shipped_drawing}
use Rattle.tiling.specs.Tiling.{drawn_piece}
use Rattle.tiling.specs.Tiling.Piece.{Tile}

pair : (x y : ℕ) (c d : ℕ × ℕ) (a b : Bool) → is_cell_of (pos x) (pos y) (chosen (cell_at c ∷ cell_at d ∷ []) (a ∷ b ∷ [])) ≡ ((a && is_port_at x y c) || (b && is_port_at x y d))
pair x y c d true true = ap (λ v. is_port_at x y c || v) (or_false (is_port_at x y d))
pair x y c d true false = refl
pair x y c d false true = or_false (is_port_at x y d)
pair x y c d false false = refl

single : (x y : ℕ) (c : ℕ × ℕ) (a b : Bool) → is_cell_of (pos x) (pos y) (chosen (cell_at c ∷ []) (a ∷ b ∷ [])) ≡ ((a && is_port_at x y c) || false)
single x y c true b = refl
single x y c false b = refl

-- a tile has a head where one of its entries lies at a lit edge
pub heads_at : (lit : Lit) (q l : ℕ) (kind : Kind) (x y : ℕ)
    → is_cell_of (pos x) (pos y) (heads_of lit q l (interface kind))
    ≡ (head_at lit q l kind 0 x y || head_at lit q l kind 1 x y)
heads_at lit q l Swap x y = pair x y _ _ _ _
heads_at lit q l Xor x y = pair x y _ _ _ _
heads_at lit q l Or x y = pair x y _ _ _ _
heads_at lit q l AndNot x y = pair x y _ _ _ _
heads_at lit q l Fork x y = pair x y _ _ _ _
heads_at lit q l East x y = single x y _ _ false
heads_at lit q l South x y = single x y _ _ false
heads_at lit q l North x y = single x y _ _ false
heads_at lit q l EastSouth x y = single x y _ _ false
heads_at lit q l SouthWest x y = single x y _ _ false
heads_at lit q l WestNorth x y = single x y _ _ false
heads_at lit q l NorthEast x y = single x y _ _ false
heads_at lit q l West x y = single x y _ _ false
heads_at lit q l WestSwap x y = pair x y _ _ _ _

-- and a tail where one of its exits does
pub tails_at : (lit : Lit) (q l : ℕ) (kind : Kind) (x y : ℕ)
    → is_cell_of (pos x) (pos y) (tails_of lit q l (interface kind))
    ≡ (tail_at lit q l kind 0 x y || tail_at lit q l kind 1 x y)
tails_at lit q l Swap x y = pair x y _ _ _ _
tails_at lit q l Xor x y = pair x y _ _ _ _
tails_at lit q l Or x y = pair x y _ _ _ _
tails_at lit q l AndNot x y = pair x y _ _ _ _
tails_at lit q l Fork x y = pair x y _ _ _ _
tails_at lit q l East x y = single x y _ _ false
tails_at lit q l South x y = single x y _ _ false
tails_at lit q l North x y = single x y _ _ false
tails_at lit q l EastSouth x y = single x y _ _ false
tails_at lit q l SouthWest x y = single x y _ _ false
tails_at lit q l WestNorth x y = single x y _ _ false
tails_at lit q l NorthEast x y = single x y _ _ false
tails_at lit q l West x y = single x y _ _ false
tails_at lit q l WestSwap x y = pair x y _ _ _ _

-- without any of them a cell is as drawn
pub dark_row : (lit : Lit) (q l : ℕ) (kind : Kind) (x y : ℕ)
    → head_at lit q l kind 0 x y ≡ false → head_at lit q l kind 1 x y ≡ false → tail_at lit q l kind 0 x y ≡ false → tail_at lit q l kind 1 x y ≡ false
    → drawn_piece shipped_drawing lit q l (Tile kind) x y ≡ cond (shipped_drawing kind (pos x) (pos y)) Conductor Empty
dark_row lit q l kind x y a b c d =
    let no_head : is_cell_of (pos x) (pos y) (heads_of lit q l (interface kind)) ≡ false = heads_at lit q l kind x y ∙ ap₂ (λ v w. v || w) a b in
    let no_tail : is_cell_of (pos x) (pos y) (tails_of lit q l (interface kind)) ≡ false = tails_at lit q l kind x y ∙ ap₂ (λ v w. v || w) c d in
    ap₂ (λ head tail. cond (shipped_drawing kind (pos x) (pos y)) (cond head Head (cond tail Tail Conductor)) Empty) no_head no_tail
