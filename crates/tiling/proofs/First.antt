-- The first generation: tails at lit exits, and heads at lit entries, become what each piece alone makes of its lit entries.
use Rattle.std.proofs.Common.{ℤ, pos, negsuc, ℕ, ◌≡◌, ◌≢◌, refl, sym, ap, ap₂, ◌∙◌, Bool, true, false, ◌||◌, ◌&&◌, ◌==◌, cond, arith, inl, inr, [], lit≤}
use Rattle.std.proofs.lemmas.Bool.{true≢false, and_parts, and_from}
use Rattle.std.proofs.Math.Path.{fun_ext}
use Rattle.std.specs.Prelude.{Option, Some, None}
use Rattle.std.proofs.lemmas.Option.{none-some}
use Rattle.ww_rule.specs.declared.pattern.State.{State}
use Rattle.ww_rule.specs.declared.pattern.State.TheVariants.{Empty, Head, Tail, Conductor}
use Rattle.ww_rule.specs.Wireworld.{Plane, next_plane, next_state, heads_around, evolve, count_head}
use Rattle.ww_rule.proofs.Cells.{next_plane_counts, next_plane_empty}
use Rattle.tile_core.specs.declared.kind.Kind.{Kind}
use Rattle.tile_core.specs.Drawing.{Drawing, picture, is_cell_of}
use Rattle.tile_core.specs.Interface.{entry_cells, exit_cells}
use Rattle.tiling.specs.Tiling.{Tiling, Lit, piece_drawing, drawn, heads_of, tails_of, edge_of}
use Rattle.tiling.specs.Matched.{HasWholePieces, IsMatched}
use Rattle.tiling.proofs.Region.{Placed, face, tile_at, InBox, belongs, whole_place}
use Rattle.tiling.proofs.Alone.{Laws, wires, alone, alone_at, bit, glue, undrawn, nothing_stays, picture_undrawn}
use Rattle.tiling.proofs.Border.{local_x, local_y, is_exit, at_local}
use Rattle.tiling.proofs.Apart.{Contact, counts}
use Rattle.tiling.proofs.Sides.{edge_is, edge_at}
use Rattle.tiling.proofs.Lighting.{head_listed, tail_listed}
use Rattle.tiling.proofs.Blocks.{drawn_some, drawn_none, entered_at}
use Rattle.tiling.proofs.Facing.{contact_faces, facing_edge, port_side}
use Rattle.tiling.proofs.Roles.{entries_apart, entry_at, entry_no_exit}

abbrev shade : Bool → Bool → Bool → State
shade w h t = cond w (cond h Head (cond t Tail Conductor)) Empty

count_untailed : (w h t : Bool) → count_head (shade w h t) ≡ count_head (shade w h false)
count_untailed true true t = refl
count_untailed true false true = refl
count_untailed true false false = refl
count_untailed false h t = refl

-- the heads of the drawn plane are those of its pieces alone
pub drawn_counts : (library : Kind → Drawing) (tiling : Tiling) → HasWholePieces tiling → (lit : Lit) (u v : ℤ) → count_head (drawn library tiling lit u v) ≡ count_head (glue library tiling lit 0 u v)
drawn_counts library tiling h lit u v = go (tile_at tiling u v) refl
  where
    go : (o : Option Placed) → tile_at tiling u v ≡ o → count_head (drawn library tiling lit u v) ≡ count_head (glue library tiling lit 0 u v)
    go None e = ap count_head (drawn_none library tiling lit u v e) ∙ sym (ap (λ o. count_head (alone library lit o u v)) e)
    go (Some t) e =
        let b = (belongs tiling h t u v e).inside in
        let at = at_local tiling t u v b in
        let D = piece_drawing library t.piece in
        let hs = heads_of lit t.column t.lane (face t) in
        let ts = tails_of lit t.column t.lane (face t) in
        ap count_head (drawn_some library tiling h lit t u v e b)
        ∙ count_untailed (D (pos b.x) (pos b.y)) (is_cell_of (pos b.x) (pos b.y) hs) (is_cell_of (pos b.x) (pos b.y) ts)
        ∙ ap₂ (λ i j. count_head (picture D hs [] i j)) (sym at.0) (sym at.1)
        ∙ sym (ap (λ o. count_head (alone library lit o u v)) e)

conductor_next : (s : State) (n : ℕ) → s ≡ Conductor → next_state s n ≢ Head → next_state s n ≡ Conductor
conductor_next s n e h = fires (n == 1 || n == 2) refl
  where
    fires : (b : Bool) → (n == 1 || n == 2) ≡ b → next_state s n ≡ Conductor
    fires true f = absurd (h (ap (λ r. next_state r n) e ∙ ap (λ c. cond c Head Conductor) f))
    fires false f = ap (λ r. next_state r n) e ∙ ap (λ c. cond c Head Conductor) f

rests : (w h : Bool) → w ≡ true → shade w h false ≢ Head → shade w h false ≡ Conductor
rests true true e n = absurd (n refl)
rests true false e n = refl
rests false h e n = absurd (true≢false (sym e))

-- a port that is dark at generations 0 and 1 is a conductor at generation 1
dark_port : (library : Kind → Drawing) (lit : Lit) (t : Placed) (x y : ℤ) → wires library t x y ≡ true → evolve 0 (alone library lit (Some t)) x y ≢ Head → evolve 1 (alone library lit (Some t)) x y ≢ Head → evolve 1 (alone library lit (Some t)) x y ≡ Conductor
dark_port library lit t x y w none after =
    conductor_next (alone library lit (Some t) x y) (heads_around (alone library lit (Some t)) x y) (rests (wires library t x y) (is_cell_of (local_x t x) (local_y t y) (heads_of lit t.column t.lane (face t))) w none) after

head_shade : (w h : Bool) → shade w h false ≡ Head → h ≡ true
head_shade true true e = refl
head_shade true false e = cc
head_shade false h e = cc

abbrev pub place_lit : Lit → Placed → ℕ → ℕ → Bool
place_lit lit t x y = lit (edge_of t.column t.lane (x, y))

-- pieces that touch share the edge
pub shared_edge : (library : Kind → Drawing) (tiling : Tiling) → HasWholePieces tiling → (t s : Placed) (X Y U V : ℕ) → Contact library tiling t s (pos X) (pos Y) (pos U) (pos V) → (b : InBox tiling t (pos X) (pos Y)) (d : InBox tiling s (pos U) (pos V))
    → edge_of t.column t.lane (b.x, b.y) ≡ edge_of s.column s.lane (d.x, d.y)
shared_edge library tiling h t s X Y U V k b d =
    edge_is t.column t.lane b.x b.y (port_side tiling t (pos X) (pos Y) b k.port_here)
    ∙ ap₂ edge_at (whole_place 32 t.column b.x X b.u_is) (whole_place 16 t.lane b.y Y b.v_is)
    ∙ facing_edge X Y U V (contact_faces library tiling h t s X Y U V k)
    ∙ sym (ap₂ edge_at (whole_place 32 s.column d.x U d.u_is) (whole_place 16 s.lane d.y V d.v_is))
    ∙ sym (edge_is s.column s.lane d.x d.y (port_side tiling s (pos U) (pos V) d k.port_there))

-- a piece that touches another has no lit entry there, unless the other has a lit exit
pub quiet_first : (library : Kind → Drawing) (tiling : Tiling) → IsMatched tiling → (lit : Lit) (t s : Placed) (x y u v : ℤ) → Contact library tiling t s x y u v → (b : InBox tiling t x y)
    → (is_cell_of (pos b.x) (pos b.y) (exit_cells (face t)) && place_lit lit t b.x b.y) ≡ false
    → evolve 0 (alone library lit (Some s)) u v ≢ Head
quiet_first library tiling m lit t s (pos X) (pos Y) (pos U) (pos V) k b dark head =
    let h = m.pieces in
    let d = (belongs tiling h s (pos U) (pos V) k.there).inside in
    let at = at_local tiling s (pos U) (pos V) d in
    let hs = heads_of lit s.column s.lane (face s) in
    let listed : is_cell_of (pos d.x) (pos d.y) hs ≡ true =
    ap₂ (λ i j. is_cell_of i j hs) (sym at.0) (sym at.1) ∙ head_shade (wires library s (pos U) (pos V)) (is_cell_of (local_x s (pos U)) (local_y s (pos V)) hs) head in
    let parts = and_parts (is_cell_of (pos d.x) (pos d.y) (entry_cells (face s))) (place_lit lit s d.x d.y) (sym (head_listed lit s.column s.lane s.piece d.x d.y) ∙ listed) in
    let entered : entered_at tiling U V ≡ true =
    sym (entry_at tiling h s U V k.there d) ∙ ap₂ (λ i j. is_cell_of i j (entry_cells (face s))) at.0 at.1 ∙ parts.0 in
    let edge : place_lit lit t b.x b.y ≡ true = ap lit (shared_edge library tiling h t s X Y U V k b d) ∙ parts.1 in
    let faces = contact_faces library tiling h t s X Y U V k in
    let here = at_local tiling t (pos X) (pos Y) b in
    elim k.port_here [
      | inl entry ↦ true≢false (entries_apart tiling m X Y U V faces (sym (entry_at tiling h t X Y k.here b) ∙ entry) entered)
      | inr exit ↦ true≢false (sym (and_from _ _ (ap₂ (λ i j. is_cell_of i j (exit_cells (face t))) (sym here.0) (sym here.1) ∙ exit) edge) ∙ dark)
    ]
quiet_first library tiling m lit t s (pos X) (pos Y) (pos U) (negsuc V) k b dark head = none-some _ k.there
quiet_first library tiling m lit t s (pos X) (pos Y) (negsuc U) v k b dark head = none-some _ k.there
quiet_first library tiling m lit t s (pos X) (negsuc Y) u v k b dark head = none-some _ k.here
quiet_first library tiling m lit t s (negsuc X) y u v k b dark head = none-some _ k.here

-- a drawn cell of the drawn plane
pub drawn_cell : (library : Kind → Drawing) (tiling : Tiling) → HasWholePieces tiling → (lit : Lit) (t : Placed) (x y : ℤ) → tile_at tiling x y ≡ Some t → (b : InBox tiling t x y) → wires library t x y ≡ true
    → drawn library tiling lit x y ≡ cond (is_cell_of (pos b.x) (pos b.y) (entry_cells (face t)) && place_lit lit t b.x b.y) Head (cond (is_cell_of (pos b.x) (pos b.y) (exit_cells (face t)) && place_lit lit t b.x b.y) Tail Conductor)
drawn_cell library tiling h lit t x y e b w =
    let at = at_local tiling t x y b in
    let D = piece_drawing library t.piece in
    let wired : D (pos b.x) (pos b.y) ≡ true = ap₂ D (sym at.0) (sym at.1) ∙ w in
    drawn_some library tiling h lit t x y e b
    ∙ ap (λ v. cond v (cond (is_cell_of (pos b.x) (pos b.y) (heads_of lit t.column t.lane (face t))) Head (cond (is_cell_of (pos b.x) (pos b.y) (tails_of lit t.column t.lane (face t))) Tail Conductor)) Empty) wired
    ∙ ap₂ (λ h t. cond h Head (cond t Tail Conductor)) (head_listed lit t.column t.lane t.piece b.x b.y) (tail_listed lit t.column t.lane t.piece b.x b.y)

pub undrawn_cell : (library : Kind → Drawing) (tiling : Tiling) → HasWholePieces tiling → (lit : Lit) (t : Placed) (x y : ℤ) → tile_at tiling x y ≡ Some t → (b : InBox tiling t x y) → wires library t x y ≡ false → drawn library tiling lit x y ≡ Empty
undrawn_cell library tiling h lit t x y e b w =
    let at = at_local tiling t x y b in
    let D = piece_drawing library t.piece in
    drawn_some library tiling h lit t x y e b
    ∙ picture_undrawn D (heads_of lit t.column t.lane (face t)) (tails_of lit t.column t.lane (face t)) (pos b.x) (pos b.y) (ap₂ D (sym at.0) (sym at.1) ∙ w)

tail_next : (entry exit l : Bool) (n : ℕ) → (entry ≡ true → exit ≡ false) → (exit && l) ≡ true → next_state (cond (entry && l) Head (cond (exit && l) Tail Conductor)) n ≡ Conductor
tail_next true true true n apart e = absurd (true≢false (apart refl))
tail_next false true true n apart e = refl
tail_next true true false n apart e = cc
tail_next false true false n apart e = cc
tail_next entry false l n apart e = cc

-- the first generation
pub first_step : (library : Kind → Drawing) → Laws library → (tiling : Tiling) → IsMatched tiling → (lit : Lit) → next_plane (drawn library tiling lit) ≡ glue library tiling lit 1
first_step library laws tiling m lit = fun_ext (λ x. fun_ext (λ y. at x y (tile_at tiling x y) refl))
  where
    P : Plane
    P = drawn library tiling lit

    lit_exit : (x y : ℤ) (t : Placed) → tile_at tiling x y ≡ Some t → (b : InBox tiling t x y) → wires library t x y ≡ true → (is_cell_of (pos b.x) (pos b.y) (exit_cells (face t)) && place_lit lit t b.x b.y) ≡ true → next_plane P x y ≡ evolve 1 (alone library lit (Some t)) x y
    lit_exit x y t e b w tail =
        let exit = (and_parts (is_cell_of (pos b.x) (pos b.y) (exit_cells (face t))) (place_lit lit t b.x b.y) tail).0 in
        let here = at_local tiling t x y b in
        let port : is_exit t x y ≡ true = ap₂ (λ i j. is_cell_of i j (exit_cells (face t))) here.0 here.1 ∙ exit in
        let time = (laws t.piece).keeps_time (bit lit t 0) (bit lit t 1) in
        ap (λ s. next_state s (heads_around P x y)) (drawn_cell library tiling m.pieces lit t x y e b w)
        ∙ tail_next _ _ _ (heads_around P x y) (entry_no_exit t.piece b.x b.y) tail
        ∙ sym (dark_port library lit t x y w
        (λ head. time.exits_stay_dark 0 (local_x t x) (local_y t y) (lit≤ tt) (λ z. absurd (omega (arith, z))) port (sym (alone_at library lit t 0 x y) ∙ head))
        (λ head. time.exits_stay_dark 1 (local_x t x) (local_y t y) (lit≤ tt) (λ z. absurd (omega (arith, z))) port (sym (alone_at library lit t 1 x y) ∙ head)))

    other : (x y : ℤ) (t : Placed) → tile_at tiling x y ≡ Some t → (b : InBox tiling t x y) → wires library t x y ≡ true → (is_cell_of (pos b.x) (pos b.y) (exit_cells (face t)) && place_lit lit t b.x b.y) ≡ false → next_plane P x y ≡ evolve 1 (alone library lit (Some t)) x y
    other x y t e b w dark =
        let here = at_local tiling t x y b in
        let D = piece_drawing library t.piece in
        let hs = heads_of lit t.column t.lane (face t) in
        let same : P x y ≡ alone library lit (Some t) x y =
        drawn_cell library tiling m.pieces lit t x y e b w
        ∙ ap (λ v. cond (is_cell_of (pos b.x) (pos b.y) (entry_cells (face t)) && place_lit lit t b.x b.y) Head (cond v Tail Conductor)) dark
        ∙ ap (λ v. cond v Head Conductor) (sym (head_listed lit t.column t.lane t.piece b.x b.y))
        ∙ sym (ap (λ v. cond v (cond (is_cell_of (pos b.x) (pos b.y) hs) Head Conductor) Empty) (ap₂ D (sym here.0) (sym here.1) ∙ w))
        ∙ ap₂ (picture D hs []) (sym here.0) (sym here.1) in
        next_plane_counts P (alone library lit (Some t)) x y same (λ u v a b' c d.
        drawn_counts library tiling m.pieces lit u v
        ∙ counts library laws tiling m.pieces lit 0 t x y u v e w (record { west = a; east = b'; north = c; south = d }) (λ s k. quiet_first library tiling m lit t s x y u v k b dark))

    by_tail : (x y : ℤ) (t : Placed) → tile_at tiling x y ≡ Some t → (b : InBox tiling t x y) → wires library t x y ≡ true → (v : Bool) → (is_cell_of (pos b.x) (pos b.y) (exit_cells (face t)) && place_lit lit t b.x b.y) ≡ v → next_plane P x y ≡ evolve 1 (alone library lit (Some t)) x y
    by_tail x y t e b w true tail = lit_exit x y t e b w tail
    by_tail x y t e b w false dark = other x y t e b w dark

    by_wire : (x y : ℤ) (t : Placed) → tile_at tiling x y ≡ Some t → (b : InBox tiling t x y) → (v : Bool) → wires library t x y ≡ v → next_plane P x y ≡ evolve 1 (alone library lit (Some t)) x y
    by_wire x y t e b true w = by_tail x y t e b w _ refl
    by_wire x y t e b false w =
        next_plane_empty P x y (undrawn_cell library tiling m.pieces lit t x y e b w) ∙ sym (undrawn library lit t 1 x y w)

    at : (x y : ℤ) (o : Option Placed) → tile_at tiling x y ≡ o → next_plane P x y ≡ glue library tiling lit 1 x y
    at x y None e =
        next_plane_empty P x y (drawn_none library tiling lit x y e)
        ∙ sym (ap (λ o. evolve 1 (alone library lit o) x y) e ∙ nothing_stays library lit 1 x y)
    at x y (Some t) e =
        by_wire x y t e (belongs tiling m.pieces t x y e).inside (wires library t x y) refl
        ∙ sym (ap (λ o. evolve 1 (alone library lit o) x y) e)
