-- A tiling that is driven at its free entries.
use Rattle.std.proofs.Common.{ℤ, pos, negsuc, ℕ, zero, suc, ◌+◌, ◌*◌, ◌/◌, ◌%◌, ◌<◌, ◌≡◌, ◌≢◌, ◌⊎◌, refl, sym, ap, ap₂, ◌∙◌, Bool, true, false, ◌||◌, ◌&&◌, cond, arith, inl, inr, lit<}
use Rattle.std.proofs.lemmas.Bool.{true≢false, and_from, and_right, or_from, false_from_ne_true}
use Rattle.std.proofs.lemmas.Int.{ints}
use Rattle.std.proofs.Math.Path.{fun_ext}
use Rattle.std.specs.Prelude.{Option, Some, None}
use Rattle.std.proofs.lemmas.Option.{none-some}
use Rattle.std.proofs.Math.Bool.{or-true}
use Rattle.ww_rule.specs.declared.pattern.State.TheVariants.{Head, Tail, Conductor}
use Rattle.ww_rule.specs.Wireworld.{Plane, Due, next_plane, evolve, injected, driven}
use Rattle.tile_core.specs.declared.kind.Kind.{Kind}
use Rattle.tile_core.specs.Drawing.{Drawing, is_cell_of}
use Rattle.tile_core.specs.Interface.{entry_cells, exit_cells}
use Rattle.tiling.specs.Tiling.{Tiling, Lit, drawn, piece_drawing, edge_of}
use Rattle.tiling.specs.Matched.{IsMatched, is_entered, is_left}
use Rattle.tiling.specs.MacroStep.{macro_step}
use Rattle.tiling.specs.Steps.{KeepsLaw, DrivesEntries, injected_edges, with_injected, driven_edges, IsDriven}
use Rattle.tiling.proofs.Region.{Placed, face, tile_at, InBox, belongs}
use Rattle.tiling.proofs.Alone.{Laws, wires}
use Rattle.tiling.proofs.Border.{at_local}
use Rattle.tiling.proofs.Sides.{IsAtSide, entry_side, exit_side, block_edge, edge_at, west_edge}
use Rattle.tiling.proofs.Blocks.{drawn_none, answers_at, entered_at, left_at, entered_is, left_is, entered_none}
use Rattle.tiling.proofs.First.{drawn_cell, undrawn_cell, place_lit}
use Rattle.tiling.proofs.Facing.{Facing, East_of, West_of, South_of, North_of}
use Rattle.tiling.proofs.Roles.{entry_no_exit}
use Rattle.tiling.proofs.Front.{EdgeAfter, Nobody, Somebody, edge_after}
use Rattle.tiling.proofs.Macro.{macro, port_edge, side_at, answered_exit}
use Rattle.tiling.proofs.OutputCell.{laws_of}

-- a number below zero is no place
no_place : (n m : ℕ) → negsuc n ≡ pos m → ⊥
no_place n m e = cc

-- a cell in the middle of an east side, before a block that is driven
east_clash : (tiling : Tiling) → IsMatched tiling → (due : Due) → DrivesEntries tiling due → (g X Y : ℕ) → X % 32 ≡ 31 → Y % 16 ≡ 8 → due g (pos (32 * (X / 32 + 1))) (pos (16 * (Y / 16) + 8)) ≡ true
    → (entered_at tiling X Y ≡ true → true ≡ false) × (left_at tiling X Y ≡ true → true ≡ false)
east_clash tiling m due d g X Y c r e = (entered_no, left_no)
  where
    entered_no : entered_at tiling X Y ≡ true → true ≡ false
    entered_no f =
        let h = d.at_entries g (pos (32 * (X / 32 + 1))) (pos (16 * (Y / 16) + 8)) e in
        let q : h.0 ≡ X / 32 + 1 = omega (arith, ints, h.2) in
        let l : h.1 ≡ Y / 16 = omega (arith, ints, h.3) in
        sym (and_from _ _ (sym (ap₂ (is_entered (tiling (X / 32) (Y / 16))) c r) ∙ f) (sym (ap₂ (λ i j. is_entered (tiling i j) 0 8) q l) ∙ h.4)) ∙ m.entries_beside (X / 32) (Y / 16)

    left_no : left_at tiling X Y ≡ true → true ≡ false
    left_no f = sym f ∙ ap₂ (is_left (tiling (X / 32) (Y / 16))) c r ∙ d.nothing_before g (X / 32) (Y / 16) e

-- at a cell where nothing is injected the edge is lit by no injection
no_injection : (tiling : Tiling) → IsMatched tiling → (due : Due) → DrivesEntries tiling due → (g X Y : ℕ) → due g (pos X) (pos Y) ≡ false → (entered_at tiling X Y ≡ true) ⊎ (left_at tiling X Y ≡ true) → IsAtSide (X % 32) (Y % 16) → injected_edges due g (edge_at X Y) ≡ false
no_injection tiling m due d g X Y none port (inl w) =
    let x : 32 * (X / 32) ≡ X = omega (arith, w.0) in
    let y : 16 * (Y / 16) + 8 ≡ Y = omega (arith, w.1) in
    ap (λ r. injected_edges due g (block_edge (X / 32) (Y / 16) r (Y % 16))) w.0 ∙ ap₂ (λ i j. due g (pos i) (pos j)) x y ∙ none
no_injection tiling m due d g X Y none port (inr (inl e)) =
    let r : Y % 16 ≡ 8 = omega (arith, e.1) in
    ap (λ r. injected_edges due g (block_edge (X / 32) (Y / 16) r (Y % 16))) e.0
    ∙ false_from_ne_true _ (λ t. true≢false (elim port [ inl f ↦ (east_clash tiling m due d g X Y e.0 r t).0 f | inr f ↦ (east_clash tiling m due d g X Y e.0 r t).1 f ]))
no_injection tiling m due d g X Y none port (inr (inr (inl n))) =
    ap₂ (λ r s. injected_edges due g (block_edge (X / 32) (Y / 16) r s)) n.0 n.1
no_injection tiling m due d g X Y none port (inr (inr (inr s))) =
    ap₂ (λ r k. injected_edges due g (block_edge (X / 32) (Y / 16) r k)) s.0 s.1

with_none : (port l i : Bool) → (port ≡ true → i ≡ false) → (port && (l || i)) ≡ (port && l)
with_none true true i h = refl
with_none true false i h = h refl
with_none false l i h = refl

entered_place : (tiling : Tiling) → IsMatched tiling → (t : Placed) (X Y : ℕ) → tile_at tiling (pos X) (pos Y) ≡ Some t → (b : InBox tiling t (pos X) (pos Y)) → is_cell_of (pos b.x) (pos b.y) (entry_cells (face t)) ≡ true → entered_at tiling X Y ≡ true
entered_place tiling m t X Y e b f = entered_is tiling m.pieces t X Y e b ∙ f

left_place : (tiling : Tiling) → IsMatched tiling → (t : Placed) (X Y : ℕ) → tile_at tiling (pos X) (pos Y) ≡ Some t → (b : InBox tiling t (pos X) (pos Y)) → is_cell_of (pos b.x) (pos b.y) (exit_cells (face t)) ≡ true → left_at tiling X Y ≡ true
left_place tiling m t X Y e b f = left_is tiling m.pieces t X Y e b ∙ f

-- the block at whose west side a cell lies
record WestCell (tiling : Tiling) (X Y : ℕ) : Type 0 where
  pub q : ℕ
  pub l : ℕ
  pub x_is : X ≡ 32 * q
  pub y_is : Y ≡ 16 * l + 8
  pub entered : entered_at tiling X Y ≡ true

west_cell : (tiling : Tiling) (due : Due) → DrivesEntries tiling due → (g X Y : ℕ) → due g (pos X) (pos Y) ≡ true → WestCell tiling X Y
west_cell tiling due d g X Y e =
    let h = d.at_entries g (pos X) (pos Y) e in
    let x : X ≡ 32 * h.0 = omega (arith, ints, h.2) in
    let y : Y ≡ 16 * h.1 + 8 = omega (arith, ints, h.3) in
    let q : X / 32 ≡ h.0 = omega (arith, x) in
    let l : Y / 16 ≡ h.1 = omega (arith, y) in
    let r : X % 32 ≡ 0 = omega (arith, x) in
    let s : Y % 16 ≡ 8 = omega (arith, y) in
    record { q = h.0; l = h.1; x_is = x; y_is = y; entered = ap₂ (λ i j. is_entered (tiling i j) (X % 32) (Y % 16)) q l ∙ ap₂ (is_entered (tiling h.0 h.1)) r s ∙ h.4 }

-- the injections of one generation
injected_drawn : (library : Kind → Drawing) → Laws library → (tiling : Tiling) → IsMatched tiling → (due : Due) → DrivesEntries tiling due → (g : ℕ) (lit : Lit) → injected (due g) (drawn library tiling lit) ≡ drawn library tiling (with_injected due g lit)
injected_drawn library laws tiling m due d g lit = fun_ext (λ x. fun_ext (λ y. at x y (due g x y) refl))
  where
    lit' : Lit
    lit' = with_injected due g lit

    entry_of : (t : Placed) (X Y : ℕ) → tile_at tiling (pos X) (pos Y) ≡ Some t → (b : InBox tiling t (pos X) (pos Y)) → due g (pos X) (pos Y) ≡ true → is_cell_of (pos b.x) (pos b.y) (entry_cells (face t)) ≡ true
    entry_of t X Y e b f = sym (entered_is tiling m.pieces t X Y e b) ∙ (west_cell tiling due d g X Y f).entered

    -- an injected cell
    made : (X Y : ℕ) → due g (pos X) (pos Y) ≡ true → (o : Option Placed) → tile_at tiling (pos X) (pos Y) ≡ o → Head ≡ drawn library tiling lit' (pos X) (pos Y)
    made X Y f None e = absurd (true≢false (sym (west_cell tiling due d g X Y f).entered ∙ entered_none tiling X Y e))
    made X Y f (Some t) e =
        let b = (belongs tiling m.pieces t (pos X) (pos Y) e).inside in
        let here = at_local tiling t (pos X) (pos Y) b in
        let entry = entry_of t X Y e b f in
        let wired : wires library t (pos X) (pos Y) ≡ true = ap₂ (piece_drawing library t.piece) here.0 here.1 ∙ (laws t.piece).has_ports.has_entries (pos b.x) (pos b.y) entry in
        let w = west_cell tiling due d g X Y f in
        let q : X / 32 ≡ w.q = omega (arith, w.x_is) in
        let l : Y / 16 ≡ w.l = omega (arith, w.y_is) in
        let r : X % 32 ≡ 0 = omega (arith, w.x_is) in
        let edge : injected_edges due g (edge_of t.column t.lane (b.x, b.y)) ≡ true =
        ap (injected_edges due g) (port_edge tiling t X Y b (entry_side t.piece b.x b.y entry))
        ∙ ap (λ k. injected_edges due g (block_edge (X / 32) (Y / 16) k (Y % 16))) r
        ∙ ap₂ (λ i j. due g (pos (32 * i)) (pos (16 * j + 8))) q l
        ∙ sym (ap₂ (λ i j. due g (pos i) (pos j)) w.x_is w.y_is)
        ∙ f in
        let on : place_lit lit' t b.x b.y ≡ true = ap (λ i. lit (edge_of t.column t.lane (b.x, b.y)) || i) edge ∙ or-true _ in
        sym (drawn_cell library tiling m.pieces lit' t (pos X) (pos Y) e b wired
        ∙ ap (λ v. cond v Head (cond (is_cell_of (pos b.x) (pos b.y) (exit_cells (face t)) && place_lit lit' t b.x b.y) Tail Conductor)) (and_from _ _ entry on))

    -- a drawn cell at which nothing is injected
    kept_drawn : (X Y : ℕ) → due g (pos X) (pos Y) ≡ false → (t : Placed) → tile_at tiling (pos X) (pos Y) ≡ Some t → (b : InBox tiling t (pos X) (pos Y)) → wires library t (pos X) (pos Y) ≡ true → drawn library tiling lit (pos X) (pos Y) ≡ drawn library tiling lit' (pos X) (pos Y)
    kept_drawn X Y f t e b w =
        let inj = injected_edges due g (edge_of t.column t.lane (b.x, b.y)) in
        let by_side : (side : IsAtSide b.x b.y) → (entered_at tiling X Y ≡ true) ⊎ (left_at tiling X Y ≡ true) → inj ≡ false =
        λ side port. ap (injected_edges due g) (port_edge tiling t X Y b side) ∙ no_injection tiling m due d g X Y f port (side_at tiling t X Y b side) in
        let heads = with_none (is_cell_of (pos b.x) (pos b.y) (entry_cells (face t))) (place_lit lit t b.x b.y) inj (λ p. by_side (entry_side t.piece b.x b.y p) (inl (entered_place tiling m t X Y e b p))) in
        let tails = with_none (is_cell_of (pos b.x) (pos b.y) (exit_cells (face t))) (place_lit lit t b.x b.y) inj (λ p. by_side (exit_side t.piece b.x b.y p) (inr (left_place tiling m t X Y e b p))) in
        drawn_cell library tiling m.pieces lit t (pos X) (pos Y) e b w
        ∙ sym (ap₂ (λ h k. cond h Head (cond k Tail Conductor)) heads tails)
        ∙ sym (drawn_cell library tiling m.pieces lit' t (pos X) (pos Y) e b w)

    kept_wire : (x y : ℤ) → due g x y ≡ false → (t : Placed) → tile_at tiling x y ≡ Some t → (b : InBox tiling t x y) → (v : Bool) → wires library t x y ≡ v → drawn library tiling lit x y ≡ drawn library tiling lit' x y
    kept_wire x y f t e b false w = undrawn_cell library tiling m.pieces lit t x y e b w ∙ sym (undrawn_cell library tiling m.pieces lit' t x y e b w)
    kept_wire (pos X) (pos Y) f t e b true w = kept_drawn X Y f t e b w
    kept_wire (pos X) (negsuc Y) f t e b true w = absurd (none-some _ e)
    kept_wire (negsuc X) y f t e b true w = absurd (none-some _ e)

    kept : (x y : ℤ) → due g x y ≡ false → (o : Option Placed) → tile_at tiling x y ≡ o → drawn library tiling lit x y ≡ drawn library tiling lit' x y
    kept x y f None e = drawn_none library tiling lit x y e ∙ sym (drawn_none library tiling lit' x y e)
    kept x y f (Some t) e = kept_wire x y f t e (belongs tiling m.pieces t x y e).inside (wires library t x y) refl

    at : (x y : ℤ) (v : Bool) → due g x y ≡ v → injected (due g) (drawn library tiling lit) x y ≡ drawn library tiling lit' x y
    at x y false f = ap (λ v. cond v Head (drawn library tiling lit x y)) f ∙ kept x y f (tile_at tiling x y) refl
    at (pos X) (pos Y) true f = ap (λ v. cond v Head (drawn library tiling lit (pos X) (pos Y))) f ∙ made X Y f (tile_at tiling (pos X) (pos Y)) refl
    at (pos X) (negsuc Y) true f = absurd (no_place Y _ (d.at_entries g (pos X) (negsuc Y) f).3)
    at (negsuc X) y true f = absurd (no_place X _ (d.at_entries g (negsuc X) y f).2)

-- an entry where heads are injected is dark before
free_entry : (library : Kind → Drawing) → Laws library → (tiling : Tiling) → IsMatched tiling → (due : Due) → DrivesEntries tiling due → (g : ℕ) (lit : Lit) (X Y : ℕ) → due g (pos X) (pos Y) ≡ true → lit (edge_at X Y) ≡ false → drawn library tiling lit (pos X) (pos Y) ≡ Conductor
free_entry library laws tiling m due d g lit X Y f dark = go (tile_at tiling (pos X) (pos Y)) refl
  where
    go : (o : Option Placed) → tile_at tiling (pos X) (pos Y) ≡ o → drawn library tiling lit (pos X) (pos Y) ≡ Conductor
    go None e = absurd (true≢false (sym (west_cell tiling due d g X Y f).entered ∙ entered_none tiling X Y e))
    go (Some t) e =
        let b = (belongs tiling m.pieces t (pos X) (pos Y) e).inside in
        let here = at_local tiling t (pos X) (pos Y) b in
        let entry : is_cell_of (pos b.x) (pos b.y) (entry_cells (face t)) ≡ true = sym (entered_is tiling m.pieces t X Y e b) ∙ (west_cell tiling due d g X Y f).entered in
        let wired : wires library t (pos X) (pos Y) ≡ true = ap₂ (piece_drawing library t.piece) here.0 here.1 ∙ (laws t.piece).has_ports.has_entries (pos b.x) (pos b.y) entry in
        let off : place_lit lit t b.x b.y ≡ false = ap lit (port_edge tiling t X Y b (entry_side t.piece b.x b.y entry)) ∙ dark in
        drawn_cell library tiling m.pieces lit t (pos X) (pos Y) e b wired
        ∙ ap₂ (λ h k. cond h Head (cond k Tail Conductor)) (and_right _ _ off) (and_right _ _ off)

-- the macro step lights no entry where heads are injected
macro_dark : (tiling : Tiling) → IsMatched tiling → (due : Due) → DrivesEntries tiling due → (g : ℕ) (lit : Lit) (X Y : ℕ) → due g (pos X) (pos Y) ≡ true → macro_step tiling lit (edge_at X Y) ≡ false
macro_dark tiling m due d g lit X Y f = go (edge_after tiling lit X Y side)
  where
    w : WestCell tiling X Y
    w = west_cell tiling due d g X Y f

    side : IsAtSide (X % 32) (Y % 16)
    side = inl (omega (arith, w.x_is), omega (arith, w.y_is))

    own : answers_at tiling lit X Y ≡ false
    own = false_from_ne_true _ (λ a. both_not (answered_exit tiling m.pieces lit X Y a) (tile_at tiling (pos X) (pos Y)) refl)
      where
        both_not : left_at tiling X Y ≡ true → (o : Option Placed) → tile_at tiling (pos X) (pos Y) ≡ o → ⊥
        both_not l None e = true≢false (sym w.entered ∙ entered_none tiling X Y e)
        both_not l (Some t) e =
            let b = (belongs tiling m.pieces t (pos X) (pos Y) e).inside in
            true≢false (sym (sym (left_is tiling m.pieces t X Y e b) ∙ l) ∙ entry_no_exit t.piece b.x b.y (sym (entered_is tiling m.pieces t X Y e b) ∙ w.entered))

    before : (U V : ℕ) → Facing X Y U V → left_at tiling U V ≡ true → ⊥
    before U V (East_of a b c e) l = omega (arith, w.x_is, c)
    before U V (South_of a b c e) l = omega (arith, w.x_is, c)
    before U V (North_of a b c e) l = omega (arith, w.x_is, c)
    before U V (West_of a b c e) l =
        let x : X ≡ 32 * (U / 32 + 1) = omega (arith, a, c) in
        let y : Y ≡ 16 * (V / 16) + 8 = omega (arith, b, e) in
        let r : V % 16 ≡ 8 = omega (arith, b, e) in
        true≢false (sym (sym (ap₂ (is_left (tiling (U / 32) (V / 16))) c r) ∙ l) ∙ d.nothing_before g (U / 32) (V / 16) (sym (ap₂ (λ i j. due g (pos i) (pos j)) x y) ∙ f))

    go : EdgeAfter tiling lit X Y → macro_step tiling lit (edge_at X Y) ≡ false
    go (Nobody nobody is) = is ∙ own
    go (Somebody U V faces is) =
        is ∙ or_from _ _ own (false_from_ne_true _ (λ a. before U V faces (answered_exit tiling m.pieces lit U V a)))

-- at generations that are no multiples of 32 nothing is injected
quiet_step : (tiling : Tiling) (due : Due) → DrivesEntries tiling due → (g : ℕ) → g % 32 ≢ 0 → (p : Plane) → injected (due g) p ≡ p
quiet_step tiling due d g h p = fun_ext (λ x. fun_ext (λ y. ap (λ v. cond v Head (p x y)) (false_from_ne_true _ (λ e. h (d.on_time g x y e)))))

from_start : (library : Kind → Drawing) (tiling : Tiling) (due : Due) → DrivesEntries tiling due → (lit : Lit) (m r : ℕ) → driven due (drawn library tiling lit) (32 * m) ≡ drawn library tiling (driven_edges tiling due lit m) → r < 32
    → driven due (drawn library tiling lit) (32 * m + r) ≡ evolve r (drawn library tiling (driven_edges tiling due lit m))
from_start library tiling due d lit m zero start h =
    let e : 32 * m + 0 ≡ 32 * m = omega arith in
    ap (driven due (drawn library tiling lit)) e ∙ start
from_start library tiling due d lit m (suc r) start h =
    let e : 32 * m + suc r ≡ suc (32 * m + r) = omega arith in
    let off : suc (32 * m + r) % 32 ≢ 0 = λ z. omega (arith, z, h) in
    ap (driven due (drawn library tiling lit)) e
    ∙ quiet_step tiling due d (suc (32 * m + r)) off (next_plane (driven due (drawn library tiling lit) (32 * m + r)))
    ∙ ap next_plane (from_start library tiling due d lit m r start (omega arith))

starts : (library : Kind → Drawing) → Laws library → (tiling : Tiling) → IsMatched tiling → (due : Due) → DrivesEntries tiling due → (lit : Lit) (m : ℕ) → driven due (drawn library tiling lit) (32 * m) ≡ drawn library tiling (driven_edges tiling due lit m)
starts library laws tiling h due d lit zero = injected_drawn library laws tiling h due d 0 lit
starts library laws tiling h due d lit (suc m) =
    let at : 32 * suc m ≡ suc (32 * m + 31) = omega arith in
    let edges = driven_edges tiling due lit m in
    ap (driven due (drawn library tiling lit)) at
    ∙ ap (injected (due (suc (32 * m + 31)))) (ap next_plane (from_start library tiling due d lit m 31 (starts library laws tiling h due d lit m) (lit< tt)) ∙ macro library laws tiling h edges)
    ∙ ap (λ g. injected (due g) (drawn library tiling (macro_step tiling edges))) (sym at)
    ∙ injected_drawn library laws tiling h due d (32 * suc m) (macro_step tiling edges)

pub driven_by_macro : (library : Kind → Drawing) → KeepsLaw library → (tiling : Tiling) → IsMatched tiling → (due : Due) → DrivesEntries tiling due → (lit : Lit) → IsDriven library tiling due lit
driven_by_macro library keeps tiling m due d lit =
    let laws = laws_of library keeps in
    record {
      whole = λ k r h. from_start library tiling due d lit k r (starts library laws tiling m due d lit k) h;
      conductors = λ k x y f. ap (λ p. p x y) (ap next_plane (from_start library tiling due d lit k 31 (starts library laws tiling m due d lit k) (lit< tt)) ∙ macro library laws tiling m (driven_edges tiling due lit k)) ∙ at laws k x y f;
      first_conductors = λ q l f dark. free_entry library laws tiling m due d 0 lit (32 * q) (16 * l + 8) f (west_edge lit q l ∙ dark);
    }
  where
    at : Laws library → (k : ℕ) (x y : ℤ) → due (32 * suc k) x y ≡ true → drawn library tiling (macro_step tiling (driven_edges tiling due lit k)) x y ≡ Conductor
    at laws k (pos X) (pos Y) f =
        free_entry library laws tiling m due d (32 * suc k) (macro_step tiling (driven_edges tiling due lit k)) X Y f (macro_dark tiling m due d (32 * suc k) (driven_edges tiling due lit k) X Y f)
    at laws k (pos X) (negsuc Y) f = absurd (no_place Y _ (d.at_entries (32 * suc k) (pos X) (negsuc Y) f).3)
    at laws k (negsuc X) y f = absurd (no_place X _ (d.at_entries (32 * suc k) (negsuc X) y f).2)
