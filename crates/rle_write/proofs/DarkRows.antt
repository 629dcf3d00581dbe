-- A row without electrons: its cells are those of the drawings.
use Rattle.std.proofs.Common.{◌≡◌, refl, sym, ◌∙◌, ap, ap₂, subst, pos, ℕ, zero, suc, ◌+◌, ◌-◌, ◌*◌, ◌/◌, ◌%◌, ◌<◌, ◌≤◌, cond, Bool, true, false, ◌&&◌, ◌||◌, List, [], ◌∷◌, get_or, arith}
use Rattle.std.proofs.lemmas.Int.{ints}
use Rattle.std.specs.Prelude.{◌==◌, nat_le, ltb, if◌then◌else◌}
use Rattle.std.specs.List.{list_any}
use Rattle.std.specs.Ordering.{int_eq}
use Rattle.std.proofs.lemmas.Bool.{or_parts, eqb-true}
use Rattle.std.proofs.lemmas.Bool.Decides.{nat_tests, Decides-int_eq}
use Rattle.ww_rule.specs.declared.pattern.State.TheVariants.{Empty, Head, Conductor}
use Rattle.tile_core.specs.declared.kind.Kind.{Kind}
use Rattle.tile_core.specs.declared.kind.Kind.TheVariants.{Swap, Xor, Or, AndNot, Fork, East, South, North, EastSouth, SouthWest, WestNorth, NorthEast, West, WestSwap}
use Rattle.tile_core.specs.Drawing.{is_cell_of}
use Rattle.tile_core.specs.Interface.{cell_at}
use Rattle.tile_core.specs.Kinds.{entries, exits, lanes}
use Rattle.tile_library.specs.Drawings.{shipped_drawing}
use Rattle.tiling.specs.Tiling.{Lit, Piece, Slot, edge_of, is_port_lit, drawn_piece, drawn_slot}
use Rattle.tiling.specs.Tiling.Edge.{Beside, Above}
use Rattle.tiling.specs.Tiling.Piece.{Tile, Output}
use Rattle.tiling.specs.Tiling.Slot.{Nothing, Whole, Upper, Lower}
use Rattle.lane_core.specs.declared.starts.Start.{Start}
use Rattle.lane_core.specs.declared.plan.Plan.{Plan}
use Rattle.lane_core.specs.Plans.{IsAdmissible}
use Rattle.lane_core.specs.Starts.{is_start_at}
use Rattle.lane_core.specs.Tape.{tape_shift, tape_tiles}
use Rattle.plan_layout.specs.Starts.{named_edges}
use Rattle.plan_layout.specs.Tape.{drawn_edges, drawn_plane, drawn_tiling}
use Rattle.plan_layout.proofs.Bare.{bare}
use Rattle.plan_layout.proofs.TapesFit.{fits_together}
use Rattle.grid_assembly.specs.PortCells.{is_port_at}
use Rattle.grid_assembly.proofs.Ports.{dark_row}
use Rattle.rle_write.specs.Dark.{IsDark, bare_piece, bare_slot}

-- Which edges are unlit.

not_there : (y x row : ℕ) (s : Start) → (nat_le (y - 1) s.y && nat_le s.y (y + 1)) ≡ false → y - 1 ≤ row → row ≤ y + 1 → (s.x == x && s.y == row) ≡ false
not_there y x row s far from to = grind (arith, nat_tests, far, from, to)

none_there : (names : List Start) (y x row : ℕ) → list_any (λ s. nat_le (y - 1) s.y && nat_le s.y (y + 1)) names ≡ false → y - 1 ≤ row → row ≤ y + 1
    → is_start_at names x row ≡ false
none_there [] y x row far from to = refl
none_there (s ∷ names) y x row far from to =
    let parts = or_parts (nat_le (y - 1) s.y && nat_le s.y (y + 1)) (list_any (λ s. nat_le (y - 1) s.y && nat_le s.y (y + 1)) names) far in
    ap₂ (λ a b. a || b) (not_there y x row s parts.0 from to) (none_there names y x row parts.1 from to)

-- no edge of which a cell lies in row y is lit
record IsUnlit (lit : Lit) (y : ℕ) : Type 0 where
  beside : (q l : ℕ) → 16 * l + 8 ≡ y → lit (Beside q l) ≡ false
  above : (q l : ℕ) → y ≤ 16 * l → 16 * l ≤ y + 1 → lit (Above q l) ≡ false

unlit : (names : List Start) (y : ℕ) → list_any (λ s. nat_le (y - 1) s.y && nat_le s.y (y + 1)) names ≡ false → IsUnlit (named_edges names) y
unlit names y far = record {
  beside = λ q l at.
      ap₂ (λ a b. a || b) (none_there names y (32 * q) (16 * l + 8) far (omega (arith, at)) (omega (arith, at)))
      (none_there names y (32 * q - 1) (16 * l + 8) far (omega (arith, at)) (omega (arith, at)));
  above = λ q l from to.
      ap₂ (λ a b. a || b) (none_there names y (32 * q + 16) (16 * l) far (omega (arith, from)) (omega (arith, to)))
      (none_there names y (32 * q + 16) (16 * l - 1) far (omega (arith, from)) (omega (arith, to)));
}

-- Ports.

-- the port lies in the middle of a side of a lane
abbrev is_middle : ℕ × ℕ → Bool
is_middle port =
    if port.0 == 0 then port.1 % 16 == 8 else if port.0 == 31 then port.1 % 16 == 8 else if port.1 == 0 then true else (port.1 + 1) % 16 == 0

edge_dark : (lit : Lit) (y : ℕ) → IsUnlit lit y → (q l : ℕ) (port : ℕ × ℕ) → 16 * l + port.1 ≡ y → is_middle port ≡ true → lit (edge_of q l port) ≡ false
edge_dark lit y u q l port at = by (port.0 == 0) (port.0 == 31) (port.1 == 0) refl
  where
    by : (west east north : Bool) → (port.1 == 0) ≡ north
        → (if west then port.1 % 16 == 8 else if east then port.1 % 16 == 8 else if north then true else (port.1 + 1) % 16 == 0) ≡ true
        → lit (if west then Beside q (l + port.1 / 16) else if east then Beside (q + 1) (l + port.1 / 16) else if north then Above q l else Above q (l + (port.1 + 1) / 16)) ≡ false
    by true east north n m = u.beside q (l + port.1 / 16) (omega (arith, at, eqb-true (port.1 % 16) 8 m))
    by false true north n m = u.beside (q + 1) (l + port.1 / 16) (omega (arith, at, eqb-true (port.1 % 16) 8 m))
    by false false true n m = u.above q l (omega (arith, at, eqb-true port.1 0 n)) (omega (arith, at, eqb-true port.1 0 n))
    by false false false n m =
        let e : (port.1 + 1) % 16 ≡ 0 = eqb-true ((port.1 + 1) % 16) 0 m in u.above q (l + (port.1 + 1) / 16) (omega (arith, at, e)) (omega (arith, at, e))

-- a lit port that lies in row y is none
port_dark : (lit : Lit) (row : ℕ) → IsUnlit lit row → (q l lanes : ℕ) (ports : List (ℕ × ℕ)) (n x y : ℕ) → 16 * l + y ≡ row
    → (ltb n lanes ≡ true → is_middle (get_or ports n (0, 0)) ≡ true)
    → (is_port_lit lit q l lanes ports n && is_port_at x y (get_or ports n (0, 0))) ≡ false
port_dark lit row u q l lanes ports n x y at middle =
    let port : ℕ × ℕ = get_or ports n (0, 0) in
    by (ltb n lanes) (lit (edge_of q l port)) (int_eq (pos x) (pos port.0)) (int_eq (pos y) (pos port.1))
    (λ inside here. (
    let p : pos y ≡ pos port.1 = (Decides-int_eq (pos y) (pos port.1)).0 here in
    let same : y ≡ port.1 = omega (arith, ints, p) in
    edge_dark lit row u q l port (omega (arith, at, same)) (middle inside)))
  where
    by : (a b c d : Bool) → (a ≡ true → d ≡ true → b ≡ false) → ((a && b) && (c && d)) ≡ false
    by false b c d h = refl
    by true false c d h = refl
    by true true false d h = refl
    by true true true false h = refl
    by true true true true h = h refl refl

first_entry : (kind : Kind) → ltb 0 (lanes kind) ≡ true → is_middle (get_or (entries kind) 0 (0, 0)) ≡ true
first_entry = elim [ Swap ↦ λ e. refl | Xor ↦ λ e. refl | Or ↦ λ e. refl | AndNot ↦ λ e. refl | Fork ↦ λ e. refl | East ↦ λ e. refl | South ↦ λ e. refl | North ↦ λ e. refl | EastSouth ↦ λ e. refl | SouthWest ↦ λ e. refl | WestNorth ↦ λ e. refl | NorthEast ↦ λ e. refl | West ↦ λ e. refl | WestSwap ↦ λ e. refl ]

second_entry : (kind : Kind) → ltb 1 (lanes kind) ≡ true → is_middle (get_or (entries kind) 1 (0, 0)) ≡ true
second_entry = elim [ Swap ↦ λ e. refl | Xor ↦ λ e. refl | Or ↦ λ e. refl | AndNot ↦ λ e. refl | Fork ↦ λ e. refl | East ↦ λ e. e | South ↦ λ e. e | North ↦ λ e. e | EastSouth ↦ λ e. e | SouthWest ↦ λ e. e | WestNorth ↦ λ e. e | NorthEast ↦ λ e. e | West ↦ λ e. e | WestSwap ↦ λ e. refl ]

first_exit : (kind : Kind) → ltb 0 (lanes kind) ≡ true → is_middle (get_or (exits kind) 0 (0, 0)) ≡ true
first_exit = elim [ Swap ↦ λ e. refl | Xor ↦ λ e. refl | Or ↦ λ e. refl | AndNot ↦ λ e. refl | Fork ↦ λ e. refl | East ↦ λ e. refl | South ↦ λ e. refl | North ↦ λ e. refl | EastSouth ↦ λ e. refl | SouthWest ↦ λ e. refl | WestNorth ↦ λ e. refl | NorthEast ↦ λ e. refl | West ↦ λ e. refl | WestSwap ↦ λ e. refl ]

second_exit : (kind : Kind) → ltb 1 (lanes kind) ≡ true → is_middle (get_or (exits kind) 1 (0, 0)) ≡ true
second_exit = elim [ Swap ↦ λ e. refl | Xor ↦ λ e. refl | Or ↦ λ e. refl | AndNot ↦ λ e. refl | Fork ↦ λ e. refl | East ↦ λ e. e | South ↦ λ e. e | North ↦ λ e. e | EastSouth ↦ λ e. e | SouthWest ↦ λ e. e | WestNorth ↦ λ e. e | NorthEast ↦ λ e. e | West ↦ λ e. e | WestSwap ↦ λ e. refl ]

-- Pieces and slots without electrons.

piece_dark : (lit : Lit) (row : ℕ) → IsUnlit lit row → (q l : ℕ) (piece : Piece) (x y : ℕ) → 16 * l + y ≡ row
    → drawn_piece shipped_drawing lit q l piece x y ≡ bare_piece piece x y
piece_dark lit row u q l (Tile kind) x y at =
    dark_row lit q l kind x y
    (port_dark lit row u q l (lanes kind) (entries kind) 0 x y at (first_entry kind))
    (port_dark lit row u q l (lanes kind) (entries kind) 1 x y at (second_entry kind))
    (port_dark lit row u q l (lanes kind) (exits kind) 0 x y at (first_exit kind))
    (port_dark lit row u q l (lanes kind) (exits kind) 1 x y at (second_exit kind))
piece_dark lit row u q l Output x y at =
    by (is_port_lit lit q l 1 ((0, 8) ∷ []) 0) (port_dark lit row u q l 1 ((0, 8) ∷ []) 0 x y at (λ e. refl))
  where
    by : (a : Bool) → (a && is_port_at x y (0, 8)) ≡ false
        → cond (is_port_at x y (0, 8) || false) (cond (is_cell_of (pos x) (pos y) (cond a (cell_at (0, 8) ∷ []) [])) Head Conductor) Empty
        ≡ cond (is_port_at x y (0, 8) || false) Conductor Empty
    by true e = ap (λ p. cond (p || false) (cond (p || false) Head Conductor) Empty) e ∙ sym (ap (λ p. cond (p || false) Conductor Empty) e)
    by false e = refl

slot_dark : (lit : Lit) (row : ℕ) → IsUnlit lit row → (q l : ℕ) (slot : Slot) (x y : ℕ) → 16 * l + y ≡ row
    → ((piece : Piece) → slot ≡ Lower piece → 1 ≤ l)
    → drawn_slot shipped_drawing lit q l slot x y ≡ bare_slot slot x y
slot_dark lit row u q l Nothing x y at below = refl
slot_dark lit row u q l (Whole piece) x y at below = piece_dark lit row u q l piece x y at
slot_dark lit row u q l (Upper piece) x y at below = piece_dark lit row u q l piece x y at
slot_dark lit row u q l (Lower piece) x y at below = piece_dark lit row u q (l - 1) piece x (y + 16) (omega (arith, at, below piece refl))

-- nothing lower stands on the first lane
lower_below : (plan : Plan) → IsAdmissible plan → (q l : ℕ) (piece : Piece) → drawn_tiling plan q l ≡ Lower piece → 1 ≤ l
lower_below plan h q zero piece e = absurd ((fits_together plan h (tape_shift plan) (tape_tiles plan)).pieces.first q piece e)
lower_below plan h q (suc l) piece e = omega arith

-- Rows.

cell_dark : (plan : Plan) → IsAdmissible plan → (y : ℕ) → IsUnlit (drawn_edges plan) y → (k x : ℕ) → x < 32
    → drawn_plane shipped_drawing plan (pos (32 * k + x)) (pos y) ≡ bare_slot (drawn_tiling plan k (y / 16)) x (y % 16)
cell_dark plan h y u k x lt =
    let q : (32 * k + x) / 32 ≡ k = omega (arith, lt) in
    let p : (32 * k + x) % 32 ≡ x = omega (arith, lt) in
    let at : 16 * (y / 16) + y % 16 ≡ y = omega arith in
    ap₂ (λ q p. drawn_slot shipped_drawing (drawn_edges plan) q (y / 16) (drawn_tiling plan q (y / 16)) p (y % 16)) q p
    ∙ slot_dark (drawn_edges plan) y u k (y / 16) (drawn_tiling plan k (y / 16)) x (y % 16) at (lower_below plan h k (y / 16))

pub dark : (plan : Plan) → IsAdmissible plan → plan.tape ≡ [] → (y : ℕ)
    → list_any (λ s. nat_le (y - 1) s.y && nat_le s.y (y + 1)) plan.starts.list ≡ false → IsDark plan y
dark plan h none y far k x lt =
    let u : IsUnlit (drawn_edges plan) y = subst (λ lit. IsUnlit lit y) (sym (bare plan none).edges) (unlit plan.starts.list y far) in
    cell_dark plan h y u k x lt
