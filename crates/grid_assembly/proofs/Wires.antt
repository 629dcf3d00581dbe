-- The cells of an East tile: a wire along one row, with an electron at its ends where the edges there are lit.
use Rattle.std.proofs.Common.{◌≡◌, ◌≢◌, refl, sym, ◌∙◌, ap, ap₂, pos, ℕ, ◌+◌, ◌-◌, ◌<◌, Bool, true, false, ◌&&◌, ◌||◌, cond, ⊎_elim, List, [], ◌∷◌, ◌++◌, get_or, replicate, arith}
use Rattle.std.specs.Prelude.{◌==◌}
use Rattle.std.proofs.lemmas.Bool.{cases_lt, and_right, or_from}
use Rattle.std.proofs.lemmas.Bool.Decides.{nat_tests}
use Rattle.std.proofs.lemmas.List.{get_or-replicate, get_or_append_left, get_or-append-add, get_or_past}
use Rattle.ww_rule.specs.declared.pattern.State.TheVariants.{Empty, Head, Tail, Conductor}
use Rattle.tile_core.specs.declared.kind.Kind.TheVariants.{East}
use Rattle.tile_core.specs.Drawing.{is_cell_of}
use Rattle.tile_core.specs.Kinds.{interface}
use Rattle.tile_library.specs.Drawings.{shipped_drawing}
use Rattle.tile_library.specs.declared.drawings.TheConstants.{EAST}
use Rattle.tiling.specs.Tiling.{Lit, drawn_piece, heads_of, tails_of}
use Rattle.tiling.specs.Tiling.Piece.{Tile}
use Rattle.tiling.specs.Tiling.Edge.{Beside}
use Rattle.grid_assembly.proofs.Blank.{undrawn}
use Rattle.grid_assembly.proofs.Ports.{heads_at, tails_at}
use Rattle.grid_assembly.specs.PortCells.{is_port_at, head_at, tail_at}

abbrev blank : List ℕ
blank = replicate 32 46

-- its wire, and the rows beside it
wired : (x : ℕ) → x < 32 → shipped_drawing East (pos x) (pos 8) ≡ true
wired x within = ap (λ b. b == 67) (get_or-replicate 32 x 67 46 within)

dot : (x : ℕ) → get_or blank x 46 ≡ 46
dot x = ⊎_elim (λ within. get_or-replicate 32 x 46 46 within) (λ past. get_or_past blank x 46 past) (cases_lt x 32)

off_wire : (x y : ℕ) → y ≢ 8 → shipped_drawing East (pos x) (pos y) ≡ false
off_wire x y off = ⊎_elim (λ above. above_wire above) (λ below. below_wire (y - 9) (omega (arith, below, off))) (cases_lt y 8)
  where
    undotted : (row : List ℕ) → row ≡ blank → (get_or row x 46 == 67) ≡ false
    undotted row e = ap (λ r. get_or r x 46 == 67) e ∙ ap (λ b. b == 67) (dot x)

    above_wire : y < 8 → (get_or (get_or EAST y []) x 46 == 67) ≡ false
    above_wire above =
        undotted (get_or EAST y []) (get_or_append_left (replicate 8 blank) (replicate 32 67 ∷ replicate 7 blank) [] y above ∙ get_or-replicate 8 y blank [] above)

    nothing : (row : List ℕ) → row ≡ [] → (get_or row x 46 == 67) ≡ false
    nothing row e = ap (λ r. get_or r x 46 == 67) e ∙ ap (λ b. b == 67) (get_or_past [] x 46 (omega arith))

    below_wire : (k : ℕ) → 9 + k ≡ y → (get_or (get_or EAST y []) x 46 == 67) ≡ false
    below_wire k e =
        let at : get_or EAST (9 + k) [] ≡ get_or (replicate 7 blank) k [] = get_or-append-add (replicate 8 blank ++ replicate 32 67 ∷ []) (replicate 7 blank) k [] in
        ap (λ n. get_or (get_or EAST n []) x 46 == 67) (sym e)
        ∙ ⊎_elim
        (λ within. undotted (get_or EAST (9 + k) []) (at ∙ get_or-replicate 7 k blank [] within))
        (λ past. nothing (get_or EAST (9 + k) []) (at ∙ get_or_past (replicate 7 blank) k [] past))
        (cases_lt k 7)

-- off its wire an East tile has no cell
pub blank_off_wire : (lit : Lit) (q l x y : ℕ) → y ≢ 8 → drawn_piece shipped_drawing lit q l (Tile East) x y ≡ Empty
blank_off_wire lit q l x y off = undrawn lit q l East x y (off_wire x y off)

-- a cell of the wire, by whether there is a head or a tail

wire_cell : (lit : Lit) (q l x : ℕ) (head tail : Bool) → x < 32
    → is_cell_of (pos x) (pos 8) (heads_of lit q l (interface East)) ≡ head → is_cell_of (pos x) (pos 8) (tails_of lit q l (interface East)) ≡ tail
    → drawn_piece shipped_drawing lit q l (Tile East) x 8 ≡ cond head Head (cond tail Tail Conductor)
wire_cell lit q l x head tail within h t =
    ap (λ b. cond b (cond (is_cell_of (pos x) (pos 8) (heads_of lit q l (interface East))) Head (cond (is_cell_of (pos x) (pos 8) (tails_of lit q l (interface East))) Tail Conductor)) Empty) (wired x within)
    ∙ ap₂ (λ a b. cond a Head (cond b Tail Conductor)) h t

-- its head is at its first cell, and its tail at its last one
no_head : (lit : Lit) (q l x : ℕ) → 0 < x → is_cell_of (pos x) (pos 8) (heads_of lit q l (interface East)) ≡ false
no_head lit q l x some =
    let off : is_port_at x 8 (0, 8) ≡ false = grind (arith, nat_tests) in
    heads_at lit q l East x 8 ∙ or_from (head_at lit q l East 0 x 8) (head_at lit q l East 1 x 8) (and_right (lit (Beside q (l + 0))) (is_port_at x 8 (0, 8)) off) refl

no_tail : (lit : Lit) (q l x : ℕ) → x ≢ 31 → is_cell_of (pos x) (pos 8) (tails_of lit q l (interface East)) ≡ false
no_tail lit q l x other =
    let off : is_port_at x 8 (31, 8) ≡ false = grind (arith, nat_tests) in
    tails_at lit q l East x 8 ∙ or_from (tail_at lit q l East 0 x 8) (tail_at lit q l East 1 x 8) (and_right (lit (Beside (q + 1) (l + 0))) (is_port_at x 8 (31, 8)) off) refl

same_lane : (l : ℕ) → l + 0 ≡ l
same_lane l = omega arith

first_head : (lit : Lit) (q l : ℕ) → is_cell_of (pos 0) (pos 8) (heads_of lit q l (interface East)) ≡ lit (Beside q l)
first_head lit q l = heads_at lit q l East 0 8 ∙ only (lit (Beside q (l + 0))) ∙ ap (λ n. lit (Beside q n)) (same_lane l)
  where
    only : (b : Bool) → ((b && true) || false) ≡ b
    only true = refl
    only false = refl

last_tail : (lit : Lit) (q l : ℕ) → is_cell_of (pos 31) (pos 8) (tails_of lit q l (interface East)) ≡ lit (Beside (q + 1) l)
last_tail lit q l = tails_at lit q l East 31 8 ∙ only (lit (Beside (q + 1) (l + 0))) ∙ ap (λ n. lit (Beside (q + 1) n)) (same_lane l)
  where
    only : (b : Bool) → ((b && true) || false) ≡ b
    only true = refl
    only false = refl

pub head_cell : (lit : Lit) (q l : ℕ) → lit (Beside q l) ≡ true → drawn_piece shipped_drawing lit q l (Tile East) 0 8 ≡ Head
head_cell lit q l e = wire_cell lit q l 0 true _ (omega arith) (first_head lit q l ∙ e) refl

pub last_cell : (lit : Lit) (q l : ℕ) → drawn_piece shipped_drawing lit q l (Tile East) 31 8 ≡ cond (lit (Beside (q + 1) l)) Tail Conductor
last_cell lit q l = wire_cell lit q l 31 false _ (omega arith) (no_head lit q l 31 (omega arith)) (last_tail lit q l)

-- all other cells are conductors
pub dark_cell : (lit : Lit) (q l x : ℕ) → x < 31 → (x ≡ 0 → lit (Beside q l) ≡ false) → drawn_piece shipped_drawing lit q l (Tile East) x 8 ≡ Conductor
dark_cell lit q l x within dark =
    wire_cell lit q l x false false (omega (arith, within))
    (⊎_elim (λ first. at_first (omega (arith, first))) (λ some. no_head lit q l x some) (cases_lt x 1))
    (no_tail lit q l x (omega (arith, within)))
  where
    at_first : x ≡ 0 → is_cell_of (pos x) (pos 8) (heads_of lit q l (interface East)) ≡ false
    at_first e = ap (λ n. is_cell_of (pos n) (pos 8) (heads_of lit q l (interface East))) e ∙ first_head lit q l ∙ dark e

pub dark_last : (lit : Lit) (q l : ℕ) → lit (Beside (q + 1) l) ≡ false → drawn_piece shipped_drawing lit q l (Tile East) 31 8 ≡ Conductor
dark_last lit q l e = last_cell lit q l ∙ ap (λ b. cond b Tail Conductor) e
