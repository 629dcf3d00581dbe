-- Thirty-two generations are one macro step.
use Rattle.std.proofs.Common.{ℤ, pos, negsuc, ℕ, ◌+◌, ◌*◌, ◌%◌, ◌≡◌, refl, sym, ap, ap₂, ◌∙◌, subst, Bool, true, false, ◌||◌, ◌&&◌, ◌==◌, cond, inl, inr, lit≤}
use Rattle.std.proofs.lemmas.Bool.{true≢false, false_from_ne_true}
use Rattle.std.proofs.Math.Bool.{or-false}
use Rattle.std.proofs.Math.Path.{fun_ext}
use Rattle.std.specs.Prelude.{Option, Some, None}
use Rattle.std.proofs.lemmas.Option.{none-some}
use Rattle.ww_rule.specs.declared.pattern.State.{State}
use Rattle.ww_rule.specs.declared.pattern.State.TheVariants.{Head, Tail, Conductor}
use Rattle.ww_rule.specs.Wireworld.{Plane, next_plane, next_state, heads_around, evolve, count_head}
use Rattle.ww_rule.proofs.Cells.{next_plane_counts, next_plane_empty, not_counted}
use Rattle.tile_core.specs.declared.kind.Kind.{Kind}
use Rattle.tile_core.specs.Drawing.{Drawing, is_cell_of}
use Rattle.tile_core.specs.Interface.{entry_cells, exit_cells, lit_exits}
use Rattle.tiling.specs.Tiling.{Tiling, Lit, drawn, edge_of}
use Rattle.tiling.specs.Matched.{HasWholePieces, IsMatched}
use Rattle.tiling.specs.MacroStep.{macro_step}
use Rattle.tiling.proofs.Region.{Placed, face, tile_at, InBox, belongs, whole_place}
use Rattle.tiling.proofs.Alone.{Laws, wires, alone, alone_at, bit, glue, undrawn, nothing_stays, empty_head}
use Rattle.tiling.proofs.Border.{local_x, local_y, is_exit, at_local}
use Rattle.tiling.proofs.Apart.{Contact, counts}
use Rattle.tiling.proofs.Sides.{IsAtSide, entry_side, exit_side, edge_is, edge_at}
use Rattle.tiling.proofs.Blocks.{drawn_none, left_at, answers_at, answers_some, answers_none}
use Rattle.tiling.proofs.Facing.{Facing, contact_faces, block_side}
use Rattle.tiling.proofs.Roles.{exits_apart, exit_at, entry_no_exit}
use Rattle.tiling.proofs.First.{drawn_cell, undrawn_cell, place_lit}
use Rattle.tiling.proofs.Front.{facing_one, EdgeAfter, Nobody, Somebody, edge_after}
use Rattle.tiling.proofs.Around.{Is, QuietBut, none_around, front_around}
use Rattle.tiling.proofs.HandOver.{lit_exit_is, answered, at_32, head_31, own_quiet, entry_31}
use Rattle.tiling.proofs.Between.{between}

answered_at : (tiling : Tiling) → HasWholePieces tiling → (lit : Lit) (t : Placed) (X Y : ℕ) → tile_at tiling (pos X) (pos Y) ≡ Some t → answers_at tiling lit X Y ≡ answered lit t (pos X) (pos Y)
answered_at tiling h lit t X Y e =
    let b = (belongs tiling h t (pos X) (pos Y) e).inside in
    let at = at_local tiling t (pos X) (pos Y) b in
    answers_some tiling h lit t X Y e b
    ∙ ap₂ (λ i j. is_cell_of i j (lit_exits (face t) (bit lit t 0) (bit lit t 1))) (sym at.0) (sym at.1)

-- the heads of generation 31 are the exits that are answered
pub is_answered : (library : Kind → Drawing) → Laws library → (tiling : Tiling) → HasWholePieces tiling → (lit : Lit) (U V : ℕ) → glue library tiling lit 31 (pos U) (pos V) ≡ Head → answers_at tiling lit U V ≡ true
is_answered library laws tiling h lit U V head = go (tile_at tiling (pos U) (pos V)) refl
  where
    go : (o : Option Placed) → tile_at tiling (pos U) (pos V) ≡ o → answers_at tiling lit U V ≡ true
    go None e = absurd (empty_head (sym (ap (λ o. evolve 31 (alone library lit o) (pos U) (pos V)) e ∙ nothing_stays library lit 31 (pos U) (pos V)) ∙ head))
    go (Some s) e =
        answered_at tiling h lit s U V e
        ∙ (head_31 library laws lit s (pos U) (pos V) (sym (ap (λ o. evolve 31 (alone library lit o) (pos U) (pos V)) e) ∙ head)).1

pub answered_is : (library : Kind → Drawing) → Laws library → (tiling : Tiling) → HasWholePieces tiling → (lit : Lit) (U V : ℕ) → answers_at tiling lit U V ≡ true → glue library tiling lit 31 (pos U) (pos V) ≡ Head
answered_is library laws tiling h lit U V a = go (tile_at tiling (pos U) (pos V)) refl
  where
    go : (o : Option Placed) → tile_at tiling (pos U) (pos V) ≡ o → glue library tiling lit 31 (pos U) (pos V) ≡ Head
    go None e = absurd (true≢false (sym a ∙ answers_none tiling lit U V e))
    go (Some s) e =
        let listed = sym (answered_at tiling h lit s U V e) ∙ a in
        let exit = lit_exit_is lit s (local_x s (pos U)) (local_y s (pos V)) listed in
        ap (λ o. evolve 31 (alone library lit o) (pos U) (pos V)) e
        ∙ alone_at library lit s 31 (pos U) (pos V)
        ∙ (((laws s.piece).keeps_time (bit lit s 0) (bit lit s 1)).exits_answer (local_x s (pos U)) (local_y s (pos V)) exit).1 listed

front_count : (library : Kind → Drawing) → Laws library → (tiling : Tiling) → HasWholePieces tiling → (lit : Lit) (U V : ℕ) → count_head (glue library tiling lit 31 (pos U) (pos V)) ≡ cond (answers_at tiling lit U V) 1 0
front_count library laws tiling h lit U V = go (answers_at tiling lit U V) refl
  where
    go : (a : Bool) → answers_at tiling lit U V ≡ a → count_head (glue library tiling lit 31 (pos U) (pos V)) ≡ cond a 1 0
    go true a = ap count_head (answered_is library laws tiling h lit U V a)
    go false a = not_counted _ (λ head. true≢false (sym (is_answered library laws tiling h lit U V head) ∙ a))

-- where an answer is 1 there is an exit
pub answered_exit : (tiling : Tiling) → HasWholePieces tiling → (lit : Lit) (U V : ℕ) → answers_at tiling lit U V ≡ true → left_at tiling U V ≡ true
answered_exit tiling h lit U V a = go (tile_at tiling (pos U) (pos V)) refl
  where
    go : (o : Option Placed) → tile_at tiling (pos U) (pos V) ≡ o → left_at tiling U V ≡ true
    go None e = absurd (true≢false (sym a ∙ answers_none tiling lit U V e))
    go (Some s) e =
        let b = (belongs tiling h s (pos U) (pos V) e).inside in
        sym (exit_at tiling h s U V e b) ∙ lit_exit_is lit s (local_x s (pos U)) (local_y s (pos V)) (sym (answered_at tiling h lit s U V e) ∙ a)

-- the edge of a port, by its cell
pub port_edge : (tiling : Tiling) (t : Placed) (X Y : ℕ) (b : InBox tiling t (pos X) (pos Y)) → IsAtSide b.x b.y → edge_of t.column t.lane (b.x, b.y) ≡ edge_at X Y
port_edge tiling t X Y b side = edge_is t.column t.lane b.x b.y side ∙ ap₂ edge_at (whole_place 32 t.column b.x X b.u_is) (whole_place 16 t.lane b.y Y b.v_is)

pub side_at : (tiling : Tiling) (t : Placed) (X Y : ℕ) (b : InBox tiling t (pos X) (pos Y)) → IsAtSide b.x b.y → IsAtSide (X % 32) (Y % 16)
side_at tiling t X Y b side =
    subst (λ n. IsAtSide (n % 32) (Y % 16)) (whole_place 32 t.column b.x X b.u_is) (subst (λ n. IsAtSide ((32 * t.column + b.x) % 32) (n % 16)) (whole_place 16 t.lane b.y Y b.v_is) (block_side t.column t.lane b.x b.y side))

fires : (s : State) (n : ℕ) (m b : Bool) → s ≡ Conductor → n ≡ cond b 1 0 → m ≡ b → next_state s n ≡ cond m Head Conductor
fires s n m true e f g = ap (λ r. next_state r n) e ∙ ap (λ k. cond (k == 1 || k == 2) Head Conductor) f ∙ sym (ap (λ v. cond v Head Conductor) g)
fires s n m false e f g = ap (λ r. next_state r n) e ∙ ap (λ k. cond (k == 1 || k == 2) Head Conductor) f ∙ sym (ap (λ v. cond v Head Conductor) g)

shown_entry : (entry exit m : Bool) → entry ≡ true → exit ≡ false → cond (entry && m) Head (cond (exit && m) Tail Conductor) ≡ cond m Head Conductor
shown_entry true false m e f = refl
shown_entry true true m e f = cc
shown_entry false x m e f = cc

shown_other : (entry exit m a : Bool) → entry ≡ false → (exit ≡ false → a ≡ false) → (exit ≡ true → m ≡ a) → cond a Tail Conductor ≡ cond (entry && m) Head (cond (exit && m) Tail Conductor)
shown_other true x m a e f g = cc
shown_other false true m a e f g = ap (λ v. cond v Tail Conductor) (sym (g refl))
shown_other false false m a e f g = ap (λ v. cond v Tail Conductor) (f refl)

-- generation 32, at a cell that is an entry
at_entry : (library : Kind → Drawing) → Laws library → (tiling : Tiling) → IsMatched tiling → (lit : Lit) (t : Placed) (X Y : ℕ) → tile_at tiling (pos X) (pos Y) ≡ Some t → (b : InBox tiling t (pos X) (pos Y)) → wires library t (pos X) (pos Y) ≡ true
    → is_cell_of (pos b.x) (pos b.y) (entry_cells (face t)) ≡ true → next_plane (glue library tiling lit 31) (pos X) (pos Y) ≡ drawn library tiling (macro_step tiling lit) (pos X) (pos Y)
at_entry library laws tiling m lit t X Y e b w entry = go (edge_after tiling lit X Y (side_at tiling t X Y b side))
  where
    P : Plane
    P = glue library tiling lit 31

    side : IsAtSide b.x b.y
    side = entry_side t.piece b.x b.y entry

    no_exit : is_cell_of (pos b.x) (pos b.y) (exit_cells (face t)) ≡ false
    no_exit = entry_no_exit t.piece b.x b.y entry

    silent : answers_at tiling lit X Y ≡ false
    silent = false_from_ne_true _ (λ a. true≢false (sym (sym exit_place ∙ exit_at tiling m.pieces t X Y e b ∙ answered_exit tiling m.pieces lit X Y a) ∙ no_exit))
      where
        exit_place : is_exit t (pos X) (pos Y) ≡ is_cell_of (pos b.x) (pos b.y) (exit_cells (face t))
        exit_place = let at = at_local tiling t (pos X) (pos Y) b in ap₂ (λ i j. is_cell_of i j (exit_cells (face t))) at.0 at.1

    conductor : P (pos X) (pos Y) ≡ Conductor
    conductor = ap (λ o. evolve 31 (alone library lit o) (pos X) (pos Y)) e ∙ entry_31 library laws tiling lit t (pos X) (pos Y) b w entry

    shown : drawn library tiling (macro_step tiling lit) (pos X) (pos Y) ≡ cond (macro_step tiling lit (edge_at X Y)) Head Conductor
    shown =
        drawn_cell library tiling m.pieces (macro_step tiling lit) t (pos X) (pos Y) e b w
        ∙ shown_entry _ _ _ entry no_exit
        ∙ ap (λ d. cond (macro_step tiling lit d) Head Conductor) (port_edge tiling t X Y b side)

    -- beside the entry only a piece that touches it there can have a head
    dark : (Q : ℤ → ℤ → Type 0) → ((U V : ℕ) → Facing X Y U V → Q (pos U) (pos V)) → QuietBut P (pos X) (pos Y) Q
    dark Q all u v n out =
        counts library laws tiling m.pieces lit 31 t (pos X) (pos Y) u v e w n (λ s k head. touched s u v out k)
        ∙ not_counted _ (own_quiet library laws tiling lit t (pos X) (pos Y) u v b entry n)
      where
        touched : (s : Placed) (a c : ℤ) → (Q a c → ⊥) → Contact library tiling t s (pos X) (pos Y) a c → ⊥
        touched s (pos U) (pos V) none k = none (all U V (contact_faces library tiling m.pieces t s X Y U V k))
        touched s (pos U) (negsuc V) none k = none-some _ k.there
        touched s (negsuc U) c none k = none-some _ k.there

    go : EdgeAfter tiling lit X Y → next_plane P (pos X) (pos Y) ≡ drawn library tiling (macro_step tiling lit) (pos X) (pos Y)
    go (Nobody nobody is) =
        fires (P (pos X) (pos Y)) (heads_around P (pos X) (pos Y)) (macro_step tiling lit (edge_at X Y)) false conductor
        (none_around P (pos X) (pos Y) (dark (λ u v. ⊥) nobody))
        (is ∙ silent)
        ∙ sym shown
    go (Somebody U V faces is) =
        fires (P (pos X) (pos Y)) (heads_around P (pos X) (pos Y)) (macro_step tiling lit (edge_at X Y)) (answers_at tiling lit U V) conductor
        (front_around P X Y U V faces (dark (Is U V) (λ R S f. let s = facing_one X Y U V R S faces f in (ap pos s.0, ap pos s.1))) ∙ front_count library laws tiling m.pieces lit U V)
        (is ∙ ap (λ v. v || answers_at tiling lit U V) silent)
        ∙ sym shown

-- at a cell that is no entry
at_other : (library : Kind → Drawing) → Laws library → (tiling : Tiling) → IsMatched tiling → (lit : Lit) (t : Placed) (X Y : ℕ) → tile_at tiling (pos X) (pos Y) ≡ Some t → (b : InBox tiling t (pos X) (pos Y)) → wires library t (pos X) (pos Y) ≡ true
    → is_cell_of (pos b.x) (pos b.y) (entry_cells (face t)) ≡ false → next_plane (glue library tiling lit 31) (pos X) (pos Y) ≡ drawn library tiling (macro_step tiling lit) (pos X) (pos Y)
at_other library laws tiling m lit t X Y e b w no_entry =
    next_plane_counts P (evolve 31 (alone library lit (Some t))) (pos X) (pos Y) (ap (λ o. evolve 31 (alone library lit o) (pos X) (pos Y)) e)
    (λ u v a c d f. counts library laws tiling m.pieces lit 31 t (pos X) (pos Y) u v e w (record { west = a; east = c; north = d; south = f }) (λ s k head. quiet s u v k head))
    ∙ at_32 library laws lit t (pos X) (pos Y) w
    ∙ shown_other (is_cell_of (pos b.x) (pos b.y) (entry_cells (face t))) (is_cell_of (pos b.x) (pos b.y) (exit_cells (face t))) (place_lit (macro_step tiling lit) t b.x b.y) (answered lit t (pos X) (pos Y)) no_entry no_answer exit_answer
    ∙ sym (drawn_cell library tiling m.pieces (macro_step tiling lit) t (pos X) (pos Y) e b w)
  where
    P : Plane
    P = glue library tiling lit 31

    at : (local_x t (pos X) ≡ pos b.x) × (local_y t (pos Y) ≡ pos b.y)
    at = at_local tiling t (pos X) (pos Y) b

    exit_place : is_exit t (pos X) (pos Y) ≡ is_cell_of (pos b.x) (pos b.y) (exit_cells (face t))
    exit_place = ap₂ (λ i j. is_cell_of i j (exit_cells (face t))) at.0 at.1

    left_place : is_cell_of (pos b.x) (pos b.y) (exit_cells (face t)) ≡ left_at tiling X Y
    left_place = sym exit_place ∙ exit_at tiling m.pieces t X Y e b

    quiet : (s : Placed) (u v : ℤ) → Contact library tiling t s (pos X) (pos Y) u v → evolve 31 (alone library lit (Some s)) u v ≡ Head → ⊥
    quiet s (pos U) (negsuc V) k head = none-some _ k.there
    quiet s (negsuc U) v k head = none-some _ k.there
    quiet s (pos U) (pos V) k head =
        let there = (belongs tiling m.pieces s (pos U) (pos V) k.there).inside in
        let exit = lit_exit_is lit s (local_x s (pos U)) (local_y s (pos V)) (head_31 library laws lit s (pos U) (pos V) head).1 in
        let left_there : left_at tiling U V ≡ true = sym (exit_at tiling m.pieces s U V k.there there) ∙ exit in
        elim k.port_here [
          | inl entry ↦ true≢false (sym entry ∙ ap₂ (λ i j. is_cell_of i j (entry_cells (face t))) at.0 at.1 ∙ no_entry)
          | inr here ↦ true≢false (exits_apart tiling m X Y U V (contact_faces library tiling m.pieces t s X Y U V k) (sym (exit_at tiling m.pieces t X Y e b) ∙ here) left_there)
        ]

    no_answer : is_cell_of (pos b.x) (pos b.y) (exit_cells (face t)) ≡ false → answered lit t (pos X) (pos Y) ≡ false
    no_answer f = false_from_ne_true _ (λ a. true≢false (sym (sym exit_place ∙ lit_exit_is lit t (local_x t (pos X)) (local_y t (pos Y)) a) ∙ f))

    exit_answer : is_cell_of (pos b.x) (pos b.y) (exit_cells (face t)) ≡ true → place_lit (macro_step tiling lit) t b.x b.y ≡ answered lit t (pos X) (pos Y)
    exit_answer f =
        let side = exit_side t.piece b.x b.y f in
        ap (macro_step tiling lit) (port_edge tiling t X Y b side) ∙ go (edge_after tiling lit X Y (side_at tiling t X Y b side)) ∙ answered_at tiling m.pieces lit t X Y e
      where
        go : EdgeAfter tiling lit X Y → macro_step tiling lit (edge_at X Y) ≡ answers_at tiling lit X Y
        go (Nobody nobody is) = is
        go (Somebody U V faces is) =
            let silent : answers_at tiling lit U V ≡ false = false_from_ne_true _ (λ a. true≢false (exits_apart tiling m X Y U V faces (sym left_place ∙ f) (answered_exit tiling m.pieces lit U V a))) in
            is ∙ ap (λ v. answers_at tiling lit X Y || v) silent ∙ or-false (answers_at tiling lit X Y)

last_step : (library : Kind → Drawing) → Laws library → (tiling : Tiling) → IsMatched tiling → (lit : Lit) → next_plane (glue library tiling lit 31) ≡ drawn library tiling (macro_step tiling lit)
last_step library laws tiling m lit = fun_ext (λ x. fun_ext (λ y. at x y (tile_at tiling x y) refl))
  where
    P : Plane
    P = glue library tiling lit 31

    Q : Plane
    Q = drawn library tiling (macro_step tiling lit)

    by_entry : (X Y : ℕ) (t : Placed) → tile_at tiling (pos X) (pos Y) ≡ Some t → (b : InBox tiling t (pos X) (pos Y)) → wires library t (pos X) (pos Y) ≡ true → (v : Bool) → is_cell_of (pos b.x) (pos b.y) (entry_cells (face t)) ≡ v → next_plane P (pos X) (pos Y) ≡ Q (pos X) (pos Y)
    by_entry X Y t e b w true v = at_entry library laws tiling m lit t X Y e b w v
    by_entry X Y t e b w false v = at_other library laws tiling m lit t X Y e b w v

    by_wire : (x y : ℤ) (t : Placed) → tile_at tiling x y ≡ Some t → (b : InBox tiling t x y) → (v : Bool) → wires library t x y ≡ v → next_plane P x y ≡ Q x y
    by_wire x y t e b false w =
        next_plane_empty P x y (ap (λ o. evolve 31 (alone library lit o) x y) e ∙ undrawn library lit t 31 x y w)
        ∙ sym (undrawn_cell library tiling m.pieces (macro_step tiling lit) t x y e b w)
    by_wire (pos X) (pos Y) t e b true w = by_entry X Y t e b w _ refl
    by_wire (pos X) (negsuc Y) t e b true w = absurd (none-some _ e)
    by_wire (negsuc X) y t e b true w = absurd (none-some _ e)

    at : (x y : ℤ) (o : Option Placed) → tile_at tiling x y ≡ o → next_plane P x y ≡ Q x y
    at x y None e =
        next_plane_empty P x y (ap (λ o. evolve 31 (alone library lit o) x y) e ∙ nothing_stays library lit 31 x y)
        ∙ sym (drawn_none library tiling (macro_step tiling lit) x y e)
    at x y (Some t) e = by_wire x y t e (belongs tiling m.pieces t x y e).inside (wires library t x y) refl

-- thirty-two generations are one macro step
pub macro : (library : Kind → Drawing) → Laws library → (tiling : Tiling) → IsMatched tiling → (lit : Lit) → evolve 32 (drawn library tiling lit) ≡ drawn library tiling (macro_step tiling lit)
macro library laws tiling m lit = ap next_plane (between library laws tiling m lit 30 (lit≤ tt)) ∙ last_step library laws tiling m lit
