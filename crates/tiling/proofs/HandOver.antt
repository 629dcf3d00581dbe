-- Generation 32: the exits that are heads at generation 31 light the entries before them.
use Rattle.std.proofs.Common.{ℤ, pos, ℕ, ◌+◌, ◌≤◌, ◌≡◌, ◌≢◌, refl, sym, ap, ap₂, ◌∙◌, Bool, true, false, ◌||◌, ◌&&◌, ◌==◌, cond, arith, inl, inr, List, [], ◌∷◌, lit≤, int_eq}
use Rattle.std.proofs.lemmas.Bool.{true≢false, or_cases, or_left, or_right, false_from_ne_true}
use Rattle.std.proofs.lemmas.Int.{ints}
use Rattle.std.specs.Prelude.{Some}
use Rattle.ww_rule.specs.declared.pattern.State.{State}
use Rattle.ww_rule.specs.declared.pattern.State.TheVariants.{Empty, Head, Tail, Conductor}
use Rattle.ww_rule.specs.Wireworld.{Plane, next_state, heads_around, evolve}
use Rattle.tile_core.specs.declared.kind.Kind.{Kind}
use Rattle.tile_core.specs.Drawing.{Cell, Drawing, is_cell_of}
use Rattle.tile_core.specs.Interface.{entry_cells, exit_cells, lit_exits, chosen}
use Rattle.tiling.specs.Tiling.{Tiling, Lit}
use Rattle.tiling.proofs.Region.{Placed, face, InBox}
use Rattle.tiling.proofs.Alone.{Laws, wires, alone, alone_at, bit, undrawn, drawn_in_box, empty_head}
use Rattle.tiling.proofs.Border.{Near, local_x, local_y, is_entry, at_local}
use Rattle.tiling.proofs.Sides.{IsAtSide, entry_side, exit_side}
use Rattle.tiling.proofs.Roles.{entry_no_exit}

-- a chosen cell is one of the cells
chosen_among : (x y : ℤ) (cs : List Cell) (bs : List Bool) → is_cell_of x y (chosen cs bs) ≡ true → is_cell_of x y cs ≡ true
chosen_among x y [] bs e = e
chosen_among x y (c ∷ cs) [] e = cc
chosen_among x y (c ∷ cs) (true ∷ bs) e =
    elim (or_cases (int_eq x c.x && int_eq y c.y) _ e) [ inl h ↦ or_left _ _ h | inr l ↦ or_right (int_eq x c.x && int_eq y c.y) _ (chosen_among x y cs bs l) ]
chosen_among x y (c ∷ cs) (false ∷ bs) e = or_right (int_eq x c.x && int_eq y c.y) _ (chosen_among x y cs bs e)

pub lit_exit_is : (lit : Lit) (t : Placed) (x y : ℤ) → is_cell_of x y (lit_exits (face t) (bit lit t 0) (bit lit t 1)) ≡ true → is_cell_of x y (exit_cells (face t)) ≡ true
lit_exit_is lit t x y = chosen_among x y (exit_cells (face t)) ((face t).answer (bit lit t 0) (bit lit t 1))

-- which of the piece's cells are answered
abbrev pub answered : Lit → Placed → ℤ → ℤ → Bool
answered lit t u v = is_cell_of (local_x t u) (local_y t v) (lit_exits (face t) (bit lit t 0) (bit lit t 1))

pub at_32 : (library : Kind → Drawing) → Laws library → (lit : Lit) (t : Placed) (x y : ℤ) → wires library t x y ≡ true → evolve 32 (alone library lit (Some t)) x y ≡ cond (answered lit t x y) Tail Conductor
at_32 library laws lit t x y w =
    alone_at library lit t 32 x y
    ∙ ((laws t.piece).keeps_time (bit lit t 0) (bit lit t 1)).ends_at_rest (local_x t x) (local_y t y)
    ∙ ap (λ v. cond v (cond (answered lit t x y) Tail Conductor) Empty) w

-- a piece's heads at generation 31 are answered exits
pub head_31 : (library : Kind → Drawing) → Laws library → (lit : Lit) (t : Placed) (u v : ℤ) → evolve 31 (alone library lit (Some t)) u v ≡ Head → (wires library t u v ≡ true) × (answered lit t u v ≡ true)
head_31 library laws lit t u v head = go (wires library t u v) refl
  where
    tail : evolve 32 (alone library lit (Some t)) u v ≡ Tail
    tail = ap (λ s. next_state s (heads_around (evolve 31 (alone library lit (Some t))) u v)) head

    is_tail : (b : Bool) → cond b Tail Conductor ≡ Tail → b ≡ true
    is_tail true e = refl
    is_tail false e = cc

    go : (w : Bool) → wires library t u v ≡ w → (wires library t u v ≡ true) × (answered lit t u v ≡ true)
    go true w = (w, is_tail (answered lit t u v) (sym (at_32 library laws lit t u v w) ∙ tail))
    go false w = absurd (empty_head (sym (undrawn library lit t 31 u v w) ∙ head))

-- places at two sides that are close by are one place
same_place : (x y u v : ℕ) → IsAtSide x y → IsAtSide u v → x ≤ u + 1 → u ≤ x + 1 → y ≤ v + 1 → v ≤ y + 1 → (u ≡ x) × (v ≡ y)
same_place x y u v (inl a) (inl b) e f g h = (omega (arith, a.0, b.0), omega (arith, a.1, b.1, g, h))
same_place x y u v (inl a) (inr (inl b)) e f g h = absurd (omega (arith, a.0, b.0, e, f))
same_place x y u v (inl a) (inr (inr (inl b))) e f g h = absurd (omega (arith, a.0, b.0, e, f))
same_place x y u v (inl a) (inr (inr (inr b))) e f g h = absurd (omega (arith, a.0, b.0, e, f))
same_place x y u v (inr (inl a)) (inl b) e f g h = absurd (omega (arith, a.0, b.0, e, f))
same_place x y u v (inr (inl a)) (inr (inl b)) e f g h = (omega (arith, a.0, b.0), omega (arith, a.1, b.1, g, h))
same_place x y u v (inr (inl a)) (inr (inr (inl b))) e f g h = absurd (omega (arith, a.0, b.0, e, f))
same_place x y u v (inr (inl a)) (inr (inr (inr b))) e f g h = absurd (omega (arith, a.0, b.0, e, f))
same_place x y u v (inr (inr (inl a))) (inl b) e f g h = absurd (omega (arith, a.0, b.0, e, f))
same_place x y u v (inr (inr (inl a))) (inr (inl b)) e f g h = absurd (omega (arith, a.0, b.0, e, f))
same_place x y u v (inr (inr (inl a))) (inr (inr (inl b))) e f g h = (omega (arith, a.0, b.0), omega (arith, a.1, b.1))
same_place x y u v (inr (inr (inl a))) (inr (inr (inr b))) e f g h = absurd (omega (arith, a.1, b.1, g, h))
same_place x y u v (inr (inr (inr a))) (inl b) e f g h = absurd (omega (arith, a.0, b.0, e, f))
same_place x y u v (inr (inr (inr a))) (inr (inl b)) e f g h = absurd (omega (arith, a.0, b.0, e, f))
same_place x y u v (inr (inr (inr a))) (inr (inr (inl b))) e f g h = absurd (omega (arith, a.1, b.1, g, h))
same_place x y u v (inr (inr (inr a))) (inr (inr (inr b))) e f g h = (omega (arith, a.0, b.0), omega (arith, a.1, b.1))

-- beside an entry no cell of the same piece is a head at generation 31
pub own_quiet : (library : Kind → Drawing) → Laws library → (tiling : Tiling) (lit : Lit) (t : Placed) (x y u v : ℤ) (b : InBox tiling t x y) → is_cell_of (pos b.x) (pos b.y) (entry_cells (face t)) ≡ true → Near x y u v → evolve 31 (alone library lit (Some t)) u v ≢ Head
own_quiet library laws tiling lit t x y u v b entry n head =
    let h = head_31 library laws lit t u v head in
    let d = drawn_in_box library laws tiling t u v h.0 in
    let at = at_local tiling t u v d in
    let exit : is_cell_of (pos d.x) (pos d.y) (exit_cells (face t)) ≡ true = ap₂ (λ i j. is_cell_of i j (exit_cells (face t))) (sym at.0) (sym at.1) ∙ lit_exit_is lit t (local_x t u) (local_y t v) h.1 in
    let same = same_place b.x b.y d.x d.y (entry_side t.piece b.x b.y entry) (exit_side t.piece d.x d.y exit)
    (omega (arith, ints, n.west, b.u_is, d.u_is)) (omega (arith, ints, n.east, b.u_is, d.u_is)) (omega (arith, ints, n.north, b.v_is, d.v_is)) (omega (arith, ints, n.south, b.v_is, d.v_is)) in
    true≢false (sym exit ∙ ap₂ (λ i j. is_cell_of (pos i) (pos j) (exit_cells (face t))) same.0 same.1 ∙ entry_no_exit t.piece b.x b.y entry)

-- an entry is a conductor at generation 31
pub entry_31 : (library : Kind → Drawing) → Laws library → (tiling : Tiling) (lit : Lit) (t : Placed) (x y : ℤ) (b : InBox tiling t x y) → wires library t x y ≡ true → is_cell_of (pos b.x) (pos b.y) (entry_cells (face t)) ≡ true → evolve 31 (alone library lit (Some t)) x y ≡ Conductor
entry_31 library laws tiling lit t x y b w entry = go (evolve 31 A x y) refl
  where
    A : Plane
    A = alone library lit (Some t)

    at : (local_x t x ≡ pos b.x) × (local_y t y ≡ pos b.y)
    at = at_local tiling t x y b

    port : is_entry t x y ≡ true
    port = ap₂ (λ i j. is_cell_of i j (entry_cells (face t))) at.0 at.1 ∙ entry

    dark : (g : ℕ) → 1 ≤ g → g ≤ 32 → evolve g A x y ≢ Head
    dark g lo hi head =
        ((laws t.piece).keeps_time (bit lit t 0) (bit lit t 1)).entries_stay_dark g (local_x t x) (local_y t y) lo hi port (sym (alone_at library lit t g x y) ∙ head)

    no_answer : answered lit t x y ≡ false
    no_answer = false_from_ne_true _ (λ e. true≢false (sym (ap₂ (λ i j. is_cell_of i j (exit_cells (face t))) (sym at.0) (sym at.1) ∙ lit_exit_is lit t (local_x t x) (local_y t y) e) ∙ entry_no_exit t.piece b.x b.y entry))

    after : next_state (evolve 31 A x y) (heads_around (evolve 31 A) x y) ≡ Conductor
    after = at_32 library laws lit t x y w ∙ ap (λ v. cond v Tail Conductor) no_answer

    from_tail : (s : State) (n : ℕ) → next_state s n ≡ Tail → s ≡ Head
    from_tail Empty n e = cc
    from_tail Head n e = refl
    from_tail Tail n e = cc
    from_tail Conductor n e = fires (n == 1 || n == 2) e
      where
        fires : (f : Bool) → cond f Head Conductor ≡ Tail → Conductor ≡ Head
        fires true e = cc
        fires false e = cc

    go : (s : State) → evolve 31 A x y ≡ s → evolve 31 A x y ≡ Conductor
    go Empty e = absurd (empty (sym (ap (λ s. next_state s (heads_around (evolve 31 A) x y)) e) ∙ after))
      where
        empty : Empty ≡ Conductor → ⊥
        empty e = cc
    go Head e = absurd (dark 31 (lit≤ tt) (lit≤ tt) e)
    go Tail e = absurd (dark 30 (lit≤ tt) (lit≤ tt) (from_tail (evolve 30 A x y) (heads_around (evolve 30 A) x y) e))
    go Conductor e = e
