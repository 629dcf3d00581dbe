-- A piece alone on the plane, and the plane in which each cell is that of its own piece.
use Rattle.std.proofs.Common.{ℤ, pos, ◌-ℤ◌, ℕ, ◌*◌, ◌≡◌, refl, ap, ◌∙◌, Bool, true, false, cond, List, []}
use Rattle.std.specs.Prelude.{Option, Some, None}
use Rattle.ww_rule.specs.declared.pattern.State.TheVariants.{Empty, Head, Tail, Conductor}
use Rattle.ww_rule.specs.Wireworld.{Plane, evolve}
use Rattle.ww_rule.specs.Laws.{moved}
use Rattle.ww_rule.proofs.Moves.{evolve_moved}
use Rattle.ww_rule.proofs.Boxes.{evolve_empty}
use Rattle.tile_core.specs.declared.kind.Kind.{Kind}
use Rattle.tile_core.specs.Drawing.{Cell, Drawing, picture, is_cell_of}
use Rattle.tile_core.specs.TimingLaw.{started, MeetsTimingLaw}
use Rattle.tiling.specs.Tiling.{Piece, interface_of, piece_drawing, Tiling, Lit, is_entry_lit}
use Rattle.tiling.proofs.Region.{Placed, face, tile_at, InBox, in_box_test}

-- every piece keeps the timing law
abbrev pub Laws : (Kind → Drawing) → Type 0
Laws library = (p : Piece) → MeetsTimingLaw (interface_of p) (piece_drawing library p)

-- the drawing of a placed piece, at a cell of the plane
abbrev pub wires : (Kind → Drawing) → Placed → ℤ → ℤ → Bool
wires library t u v = piece_drawing library t.piece (u -ℤ pos (32 * t.column)) (v -ℤ pos (16 * t.lane))

abbrev pub bit : Lit → Placed → ℕ → Bool
bit lit t n = is_entry_lit lit t.column t.lane (face t) n

-- the piece alone in its own box, with its lit entries as heads
abbrev pub begun : (Kind → Drawing) → Lit → Placed → Plane
begun library lit t = started (face t) (piece_drawing library t.piece) (bit lit t 0) (bit lit t 1)

-- and where it stands
abbrev pub alone : (Kind → Drawing) → Lit → Option Placed → Plane
alone library lit None x y = Empty
alone library lit (Some t) x y = moved (pos (32 * t.column)) (pos (16 * t.lane)) (begun library lit t) x y

pub alone_at : (library : Kind → Drawing) (lit : Lit) (t : Placed) (g : ℕ) (u v : ℤ) → evolve g (alone library lit (Some t)) u v ≡ evolve g (begun library lit t) (u -ℤ pos (32 * t.column)) (v -ℤ pos (16 * t.lane))
alone_at library lit t g u v = ap (λ p. p u v) (evolve_moved (pos (32 * t.column)) (pos (16 * t.lane)) g (begun library lit t))

pub nothing_stays : (library : Kind → Drawing) (lit : Lit) (g : ℕ) (u v : ℤ) → evolve g (alone library lit None) u v ≡ Empty
nothing_stays library lit g u v = evolve_empty g (alone library lit None) u v refl

pub picture_undrawn : (drawing : Drawing) (hs ts : List Cell) (x y : ℤ) → drawing x y ≡ false → picture drawing hs ts x y ≡ Empty
picture_undrawn drawing hs ts x y e =
    ap (λ v. cond v (cond (is_cell_of x y hs) Head (cond (is_cell_of x y ts) Tail Conductor)) Empty) e

-- where the drawing has no cell there never is one
pub undrawn : (library : Kind → Drawing) (lit : Lit) (t : Placed) (g : ℕ) (u v : ℤ) → wires library t u v ≡ false → evolve g (alone library lit (Some t)) u v ≡ Empty
undrawn library lit t g u v e =
    alone_at library lit t g u v
    ∙ evolve_empty g (begun library lit t) (u -ℤ pos (32 * t.column)) (v -ℤ pos (16 * t.lane)) (picture_undrawn (piece_drawing library t.piece) _ [] _ _ e)

-- the plane in which each cell is that of its own piece, alone, after g generations
abbrev pub glue : (Kind → Drawing) → Tiling → Lit → ℕ → Plane
glue library tiling lit g x y = evolve g (alone library lit (tile_at tiling x y)) x y

pub empty_head : Empty ≡ Head → ⊥
empty_head e = cc

-- a drawn cell lies in the box
pub drawn_in_box : (library : Kind → Drawing) → Laws library → (tiling : Tiling) (t : Placed) (u v : ℤ) → wires library t u v ≡ true → InBox tiling t u v
drawn_in_box library laws tiling t u v e = in_box_test tiling t u v ((laws t.piece).has_ports.in_box _ _ e)
