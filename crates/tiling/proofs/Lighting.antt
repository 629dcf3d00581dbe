-- A piece's heads are its entries at lit edges, and its tails its exits at lit edges.
use Rattle.std.proofs.Common.{ℤ, pos, ℕ, ◌≡◌, ◌⊎◌, refl, sym, ap, ap₂, ◌∙◌, Bool, true, false, ◌||◌, ◌&&◌, cond, inl, inr, List, [], ◌∷◌, map, take, int_eq}
use Rattle.std.proofs.lemmas.Bool.{true≢false}
use Rattle.tile_core.specs.declared.kind.Kind.TheVariants.{Swap, Xor, Or, AndNot, Fork, East, South, North, EastSouth, SouthWest, WestNorth, NorthEast, West, WestSwap}
use Rattle.tile_core.specs.Drawing.{Cell, is_cell_of}
use Rattle.tile_core.specs.Interface.{cell_at, chosen, entry_cells, exit_cells}
use Rattle.tiling.specs.Tiling.{Piece, interface_of, Lit, edge_of, is_port_lit, heads_of, tails_of}
use Rattle.tiling.specs.Tiling.Piece.{Tile, Output}
use Rattle.tiling.proofs.Sides.{same_cell}

pub lanes_are : (p : Piece) → ((interface_of p).lanes ≡ 1) ⊎ ((interface_of p).lanes ≡ 2)
lanes_are (Tile Swap) = inr refl
lanes_are (Tile Xor) = inr refl
lanes_are (Tile Or) = inr refl
lanes_are (Tile AndNot) = inr refl
lanes_are (Tile Fork) = inr refl
lanes_are (Tile East) = inl refl
lanes_are (Tile South) = inl refl
lanes_are (Tile North) = inl refl
lanes_are (Tile EastSouth) = inl refl
lanes_are (Tile SouthWest) = inl refl
lanes_are (Tile WestNorth) = inl refl
lanes_are (Tile NorthEast) = inl refl
lanes_are (Tile West) = inl refl
lanes_are (Tile WestSwap) = inr refl
lanes_are Output = inl refl

choose : (b here rest l : Bool) (m : Bool) → m ≡ (rest && l) → (here ≡ true → b ≡ l) → cond b (here || m) m ≡ ((here || rest) && l)
choose true true rest l m e f = f refl
choose false true rest true m e f = absurd (true≢false (sym (f refl)))
choose false true true false m e f = e
choose false true false false m e f = e
choose true false rest l m e f = e
choose false false rest l m e f = e

among_cond : (x y : ℤ) (b : Bool) (c : Cell) (cs : List Cell) → is_cell_of x y (cond b (c ∷ cs) cs) ≡ cond b ((int_eq x c.x && int_eq y c.y) || is_cell_of x y cs) (is_cell_of x y cs)
among_cond x y true c cs = refl
among_cond x y false c cs = refl

-- of the cells that are chosen by a test of their places
among_chosen : (f : ℕ → ℕ → Bool) (x y : ℕ) (ps : List (ℕ × ℕ)) → is_cell_of (pos x) (pos y) (chosen (map cell_at ps) (map (λ p. f p.0 p.1) ps)) ≡ (is_cell_of (pos x) (pos y) (map cell_at ps) && f x y)
among_chosen f x y [] = refl
among_chosen f x y (p ∷ ps) =
    among_cond (pos x) (pos y) (f p.0 p.1) (cell_at p) (chosen (map cell_at ps) (map (λ p. f p.0 p.1) ps))
    ∙ choose (f p.0 p.1) _ (is_cell_of (pos x) (pos y) (map cell_at ps)) (f x y) _ (among_chosen f x y ps) (λ e. let s = same_cell x y p.0 p.1 e in sym (ap₂ f s.0 s.1))

abbrev lit_at : Lit → ℕ → ℕ → ℕ → ℕ → Bool
lit_at lit q l x y = lit (edge_of q l (x, y))

abbrev lit_ports : Lit → ℕ → ℕ → ℕ → List (ℕ × ℕ) → List Cell
lit_ports lit q l lanes ports =
    chosen (map cell_at (take lanes ports)) (is_port_lit lit q l lanes ports 0 ∷ is_port_lit lit q l lanes ports 1 ∷ [])

abbrev places_chosen : Lit → ℕ → ℕ → List (ℕ × ℕ) → List Cell
places_chosen lit q l ps = chosen (map cell_at ps) (map (λ p. lit_at lit q l p.0 p.1) ps)

one_lane : (lit : Lit) (q l : ℕ) (ports : List (ℕ × ℕ)) → lit_ports lit q l 1 ports ≡ places_chosen lit q l (take 1 ports)
one_lane lit q l [] = refl
one_lane lit q l (p ∷ ps) = refl

two_lanes : (lit : Lit) (q l : ℕ) (ports : List (ℕ × ℕ)) → lit_ports lit q l 2 ports ≡ places_chosen lit q l (take 2 ports)
two_lanes lit q l [] = refl
two_lanes lit q l (p ∷ []) = refl
two_lanes lit q l (p ∷ r ∷ ps) = refl

ports_lit : (lit : Lit) (q l lanes : ℕ) (ports : List (ℕ × ℕ)) (x y : ℕ) → (lanes ≡ 1) ⊎ (lanes ≡ 2) → is_cell_of (pos x) (pos y) (lit_ports lit q l lanes ports) ≡ (is_cell_of (pos x) (pos y) (map cell_at (take lanes ports)) && lit_at lit q l x y)
ports_lit lit q l lanes ports x y h = ap (is_cell_of (pos x) (pos y)) (chosen_are h) ∙ among_chosen (lit_at lit q l) x y (take lanes ports)
  where
    chosen_are : (lanes ≡ 1) ⊎ (lanes ≡ 2) → lit_ports lit q l lanes ports ≡ places_chosen lit q l (take lanes ports)
    chosen_are (inl e) = ap (λ n. lit_ports lit q l n ports) e ∙ one_lane lit q l ports ∙ ap (λ n. places_chosen lit q l (take n ports)) (sym e)
    chosen_are (inr e) = ap (λ n. lit_ports lit q l n ports) e ∙ two_lanes lit q l ports ∙ ap (λ n. places_chosen lit q l (take n ports)) (sym e)

-- the heads of a piece, by place
pub head_listed : (lit : Lit) (q l : ℕ) (p : Piece) (x y : ℕ) → is_cell_of (pos x) (pos y) (heads_of lit q l (interface_of p)) ≡ (is_cell_of (pos x) (pos y) (entry_cells (interface_of p)) && lit (edge_of q l (x, y)))
head_listed lit q l p x y = ports_lit lit q l (interface_of p).lanes (interface_of p).entries x y (lanes_are p)

-- and its tails
pub tail_listed : (lit : Lit) (q l : ℕ) (p : Piece) (x y : ℕ) → is_cell_of (pos x) (pos y) (tails_of lit q l (interface_of p)) ≡ (is_cell_of (pos x) (pos y) (exit_cells (interface_of p)) && lit (edge_of q l (x, y)))
tail_listed lit q l p x y = ports_lit lit q l (interface_of p).lanes (interface_of p).exits x y (lanes_are p)
