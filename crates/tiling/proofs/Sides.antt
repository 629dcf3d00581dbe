-- Ports lie in the middles of the sides of blocks.
use Rattle.std.proofs.Common.{pos, ℕ, ◌+◌, ◌*◌, ◌/◌, ◌%◌, ◌≡◌, ◌⊎◌, refl, sym, ap, ap₂, ◌∙◌, Bool, true, ◌||◌, ◌&&◌, ◌==◌, arith, inl, inr, List, [], ◌∷◌, map, take, int_eq}
use Rattle.std.proofs.lemmas.Bool.{and_parts, or_cases, eqb-true}
use Rattle.std.proofs.lemmas.Bool.Decides.{Decides-int_eq}
use Rattle.std.proofs.lemmas.Int.{ints}
use Rattle.std.specs.Prelude.{if◌then◌else◌}
use Rattle.tile_core.specs.declared.kind.Kind.TheVariants.{Swap, Xor, Or, AndNot, Fork, East, South, North, EastSouth, SouthWest, WestNorth, NorthEast, West, WestSwap}
use Rattle.tile_core.specs.Drawing.{is_cell_of}
use Rattle.tile_core.specs.Interface.{cell_at, entry_cells, exit_cells}
use Rattle.tiling.specs.Tiling.{Piece, interface_of, Edge, edge_of, Lit}
use Rattle.tiling.specs.Tiling.Piece.{Tile, Output}
use Rattle.tiling.specs.Tiling.Edge.{Beside, Above}

-- the sides at which a place in a piece's box may lie
abbrev pub IsWest : ℕ → ℕ → Type 0
IsWest x y = (x ≡ 0) × (y % 16 ≡ 8)

abbrev pub IsEast : ℕ → ℕ → Type 0
IsEast x y = (x ≡ 31) × (y % 16 ≡ 8)

abbrev pub IsNorth : ℕ → ℕ → Type 0
IsNorth x y = (x ≡ 16) × (y ≡ 0)

abbrev pub IsSouth : ℕ → ℕ → Type 0
IsSouth x y = (x ≡ 16) × (y ≡ 15)

abbrev pub IsAtSide : ℕ → ℕ → Type 0
IsAtSide x y = IsWest x y ⊎ (IsEast x y ⊎ (IsNorth x y ⊎ IsSouth x y))

side_test : ℕ × ℕ → Bool
side_test p =
    (p.0 == 0 && p.1 % 16 == 8) || ((p.0 == 31 && p.1 % 16 == 8) || ((p.0 == 16 && p.1 == 0) || (p.0 == 16 && p.1 == 15)))

two_are : (a b c d : ℕ) → (a == b && c == d) ≡ true → (a ≡ b) × (c ≡ d)
two_are a b c d e = let p = and_parts _ _ e in (eqb-true a b p.0, eqb-true c d p.1)

side_is : (x y : ℕ) → side_test (x, y) ≡ true → IsAtSide x y
unfolding side_test
side_is x y e =
    elim (or_cases _ _ e) [
      | inl w ↦ inl (two_are _ _ _ _ w)
      | inr e1 ↦
          elim (or_cases _ _ e1) [
            | inl a ↦ inr (inl (two_are _ _ _ _ a))
            | inr e2 ↦ elim (or_cases _ _ e2) [ inl n ↦ inr (inr (inl (two_are _ _ _ _ n))) | inr s ↦ inr (inr (inr (two_are _ _ _ _ s))) ]
          ]
    ]

pub same_cell : (x y a b : ℕ) → (int_eq (pos x) (pos a) && int_eq (pos y) (pos b)) ≡ true → (x ≡ a) × (y ≡ b)
same_cell x y a b e =
    let parts = and_parts _ _ e in
    let first : pos x ≡ pos a = (Decides-int_eq (pos x) (pos a)).0 parts.0 in
    let second : pos y ≡ pos b = (Decides-int_eq (pos y) (pos b)).0 parts.1 in
    (omega (arith, ints, first), omega (arith, ints, second))

abbrev all_sides : List (ℕ × ℕ) → Bool
all_sides [] = true
all_sides (p ∷ ps) = side_test p && all_sides ps

side_among : (x y : ℕ) (ps : List (ℕ × ℕ)) → all_sides ps ≡ true → is_cell_of (pos x) (pos y) (map cell_at ps) ≡ true → side_test (x, y) ≡ true
side_among x y [] s e = cc
side_among x y (p ∷ ps) s e =
    let parts = and_parts _ _ s in
    elim (or_cases (int_eq (pos x) (pos p.0) && int_eq (pos y) (pos p.1)) _ e) [
      | inl here ↦ let same = same_cell x y p.0 p.1 here in ap₂ (λ a b. side_test (a, b)) same.0 same.1 ∙ parts.0
      | inr later ↦ side_among x y ps parts.1 later
    ]

entries_test : (p : Piece) → all_sides (take (interface_of p).lanes (interface_of p).entries) ≡ true
unfolding side_test
entries_test (Tile Swap) = refl
entries_test (Tile Xor) = refl
entries_test (Tile Or) = refl
entries_test (Tile AndNot) = refl
entries_test (Tile Fork) = refl
entries_test (Tile East) = refl
entries_test (Tile South) = refl
entries_test (Tile North) = refl
entries_test (Tile EastSouth) = refl
entries_test (Tile SouthWest) = refl
entries_test (Tile WestNorth) = refl
entries_test (Tile NorthEast) = refl
entries_test (Tile West) = refl
entries_test (Tile WestSwap) = refl
entries_test Output = refl

exits_test : (p : Piece) → all_sides (take (interface_of p).lanes (interface_of p).exits) ≡ true
unfolding side_test
exits_test (Tile Swap) = refl
exits_test (Tile Xor) = refl
exits_test (Tile Or) = refl
exits_test (Tile AndNot) = refl
exits_test (Tile Fork) = refl
exits_test (Tile East) = refl
exits_test (Tile South) = refl
exits_test (Tile North) = refl
exits_test (Tile EastSouth) = refl
exits_test (Tile SouthWest) = refl
exits_test (Tile WestNorth) = refl
exits_test (Tile NorthEast) = refl
exits_test (Tile West) = refl
exits_test (Tile WestSwap) = refl
exits_test Output = refl

pub entry_side : (p : Piece) (x y : ℕ) → is_cell_of (pos x) (pos y) (entry_cells (interface_of p)) ≡ true → IsAtSide x y
entry_side p x y e = side_is x y (side_among x y (take (interface_of p).lanes (interface_of p).entries) (entries_test p) e)

pub exit_side : (p : Piece) (x y : ℕ) → is_cell_of (pos x) (pos y) (exit_cells (interface_of p)) ≡ true → IsAtSide x y
exit_side p x y e = side_is x y (side_among x y (take (interface_of p).lanes (interface_of p).exits) (exits_test p) e)

-- the edge at a cell in the middle of a side, by its block and its place there
abbrev pub block_edge : ℕ → ℕ → ℕ → ℕ → Edge
block_edge q l r s =
    if r == 0 then Beside q l
    else if r == 31 then Beside (q + 1) l
    else if s == 0 then Above q l
    else Above q (l + 1)

abbrev pub edge_at : ℕ → ℕ → Edge
edge_at X Y = block_edge (X / 32) (Y / 16) (X % 32) (Y % 16)

-- the edge at the middle of a block's west side
pub west_edge : (lit : Lit) (q l : ℕ) → lit (edge_at (32 * q) (16 * l + 8)) ≡ lit (Beside q l)
west_edge lit q l =
    let c : 32 * q / 32 ≡ q = omega arith in
    let r : 32 * q % 32 ≡ 0 = omega arith in
    let s : (16 * l + 8) / 16 ≡ l = omega arith in
    ap (λ k. lit (block_edge (32 * q / 32) ((16 * l + 8) / 16) k ((16 * l + 8) % 16))) r ∙ ap₂ (λ i j. lit (Beside i j)) c s

-- a port's edge, by its place in the piece's box and by its cell
pub edge_is : (q l x y : ℕ) → IsAtSide x y → edge_of q l (x, y) ≡ edge_at (32 * q + x) (16 * l + y)
edge_is q l x y (inl w) =
    let col : (32 * q + x) / 32 ≡ q = omega (arith, w.0) in
    let rem : (32 * q + x) % 32 ≡ 0 = omega (arith, w.0) in
    let row : (16 * l + y) / 16 ≡ l + y / 16 = omega arith in
    ap (λ a. edge_of q l (a, y)) w.0
    ∙ ap₂ Beside (sym col) (sym row)
    ∙ ap (λ r. block_edge ((32 * q + x) / 32) ((16 * l + y) / 16) r ((16 * l + y) % 16)) (sym rem)
edge_is q l x y (inr (inl e)) =
    let col : (32 * q + x) / 32 ≡ q = omega (arith, e.0) in
    let rem : (32 * q + x) % 32 ≡ 31 = omega (arith, e.0) in
    let row : (16 * l + y) / 16 ≡ l + y / 16 = omega arith in
    ap (λ a. edge_of q l (a, y)) e.0
    ∙ ap₂ Beside (ap (λ n. n + 1) (sym col)) (sym row)
    ∙ ap (λ r. block_edge ((32 * q + x) / 32) ((16 * l + y) / 16) r ((16 * l + y) % 16)) (sym rem)
edge_is q l x y (inr (inr (inl n))) =
    let col : (32 * q + x) / 32 ≡ q = omega (arith, n.0) in
    let rem : (32 * q + x) % 32 ≡ 16 = omega (arith, n.0) in
    let row : (16 * l + y) / 16 ≡ l = omega (arith, n.1) in
    let low : (16 * l + y) % 16 ≡ 0 = omega (arith, n.1) in
    ap₂ (λ a b. edge_of q l (a, b)) n.0 n.1
    ∙ ap₂ Above (sym col) (sym row)
    ∙ ap₂ (block_edge ((32 * q + x) / 32) ((16 * l + y) / 16)) (sym rem) (sym low)
edge_is q l x y (inr (inr (inr s))) =
    let col : (32 * q + x) / 32 ≡ q = omega (arith, s.0) in
    let rem : (32 * q + x) % 32 ≡ 16 = omega (arith, s.0) in
    let row : (16 * l + y) / 16 + 1 ≡ l + 1 = omega (arith, s.1) in
    let low : (16 * l + y) % 16 ≡ 15 = omega (arith, s.1) in
    ap₂ (λ a b. edge_of q l (a, b)) s.0 s.1
    ∙ ap₂ Above (sym col) (sym row)
    ∙ ap₂ (block_edge ((32 * q + x) / 32) ((16 * l + y) / 16)) (sym rem) (sym low)
