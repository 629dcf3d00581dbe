-- When the cells at the west and the east side of a block are heads.
use Rattle.std.proofs.Common.{pos, ℕ, zero, suc, ◌+◌, ◌*◌, ◌/◌, ◌%◌, ◌<◌, ◌≤◌, ◌≡◌, ◌≢◌, ◌↔◌, refl, sym, ap, ap₂, ◌∙◌, Bool, true, false, ◌&&◌, cond, arith, inl, inr}
use Rattle.std.proofs.lemmas.Bool.{true≢false, cases_lt, false_from_ne_true}
use Rattle.std.specs.Prelude.{Option, Some, None}
use Rattle.ww_rule.specs.declared.pattern.State.TheVariants.{Head, Tail, Conductor}
use Rattle.ww_rule.specs.Wireworld.{evolve}
use Rattle.tile_core.specs.declared.kind.Kind.{Kind}
use Rattle.tile_core.specs.Drawing.{Drawing, is_cell_of}
use Rattle.tile_core.specs.Interface.{entry_cells, exit_cells}
use Rattle.tiling.specs.Tiling.{Tiling, Lit, drawn, piece_drawing}
use Rattle.tiling.specs.Tiling.Edge.{Beside}
use Rattle.tiling.specs.Matched.{IsMatched, is_entered, is_left}
use Rattle.tiling.specs.MacroStep.{slot_answers}
use Rattle.tiling.specs.Steps.{KeepsLaw, ShowsEdges}
use Rattle.tiling.proofs.Region.{Placed, face, tile_at, belongs}
use Rattle.tiling.proofs.Alone.{Laws, wires, alone, alone_at, bit, glue}
use Rattle.tiling.proofs.Border.{local_x, local_y, at_local}
use Rattle.tiling.proofs.Sides.{entry_side, edge_at, west_edge}
use Rattle.tiling.proofs.Blocks.{entered_at, left_at, answers_at, entered_is, left_is, entered_none, left_none}
use Rattle.tiling.proofs.Roles.{entry_no_exit}
use Rattle.tiling.proofs.First.{drawn_cell, place_lit}
use Rattle.tiling.proofs.Between.{between}
use Rattle.tiling.proofs.Macro.{port_edge, is_answered, answered_is}
use Rattle.tiling.proofs.OutputCell.{laws_of}

lit_cell : (entry exit l : Bool) → entry ≡ true → (cond (entry && l) Head (cond (exit && l) Tail Conductor) ≡ Head) ↔ (l ≡ true)
lit_cell true true true e = (λ _. refl, λ _. refl)
lit_cell true false true e = (λ _. refl, λ _. refl)
lit_cell true true false e = (λ h. cc, λ h. cc)
lit_cell true false false e = (λ h. cc, λ h. cc)
lit_cell false x l e = absurd (true≢false (sym e))

exit_cell : (entry exit l : Bool) → entry ≡ false → cond (entry && l) Head (cond (exit && l) Tail Conductor) ≢ Head
exit_cell true x l e h = true≢false e
exit_cell false true true e h = cc
exit_cell false true false e h = cc
exit_cell false false l e h = cc

entry_at_start : (library : Kind → Drawing) → Laws library → (tiling : Tiling) → IsMatched tiling → (lit : Lit) (X Y : ℕ) → entered_at tiling X Y ≡ true → (drawn library tiling lit (pos X) (pos Y) ≡ Head) ↔ (lit (edge_at X Y) ≡ true)
entry_at_start library laws tiling m lit X Y f = go (tile_at tiling (pos X) (pos Y)) refl
  where
    go : (o : Option Placed) → tile_at tiling (pos X) (pos Y) ≡ o → (drawn library tiling lit (pos X) (pos Y) ≡ Head) ↔ (lit (edge_at X Y) ≡ true)
    go None e = absurd (true≢false (sym f ∙ entered_none tiling X Y e))
    go (Some t) e =
        let b = (belongs tiling m.pieces t (pos X) (pos Y) e).inside in
        let here = at_local tiling t (pos X) (pos Y) b in
        let entry : is_cell_of (pos b.x) (pos b.y) (entry_cells (face t)) ≡ true = sym (entered_is tiling m.pieces t X Y e b) ∙ f in
        let wired : wires library t (pos X) (pos Y) ≡ true = ap₂ (piece_drawing library t.piece) here.0 here.1 ∙ (laws t.piece).has_ports.has_entries (pos b.x) (pos b.y) entry in
        let cell = drawn_cell library tiling m.pieces lit t (pos X) (pos Y) e b wired in
        let edge = ap lit (port_edge tiling t X Y b (entry_side t.piece b.x b.y entry)) in
        let both = lit_cell (is_cell_of (pos b.x) (pos b.y) (entry_cells (face t))) (is_cell_of (pos b.x) (pos b.y) (exit_cells (face t))) (place_lit lit t b.x b.y) entry in
        (λ h. sym edge ∙ both.0 (sym cell ∙ h), λ h. cell ∙ both.1 (edge ∙ h))

exit_at_start : (library : Kind → Drawing) → Laws library → (tiling : Tiling) → IsMatched tiling → (lit : Lit) (X Y : ℕ) → left_at tiling X Y ≡ true → drawn library tiling lit (pos X) (pos Y) ≢ Head
exit_at_start library laws tiling m lit X Y f head = go (tile_at tiling (pos X) (pos Y)) refl
  where
    go : (o : Option Placed) → tile_at tiling (pos X) (pos Y) ≡ o → ⊥
    go None e = true≢false (sym f ∙ left_none tiling X Y e)
    go (Some t) e =
        let b = (belongs tiling m.pieces t (pos X) (pos Y) e).inside in
        let here = at_local tiling t (pos X) (pos Y) b in
        let exit : is_cell_of (pos b.x) (pos b.y) (exit_cells (face t)) ≡ true = sym (left_is tiling m.pieces t X Y e b) ∙ f in
        let wired : wires library t (pos X) (pos Y) ≡ true = ap₂ (piece_drawing library t.piece) here.0 here.1 ∙ (laws t.piece).has_ports.has_exits (pos b.x) (pos b.y) exit in
        let no_entry : is_cell_of (pos b.x) (pos b.y) (entry_cells (face t)) ≡ false = false_from_ne_true _ (λ h. true≢false (sym exit ∙ entry_no_exit t.piece b.x b.y h)) in
        exit_cell _ (is_cell_of (pos b.x) (pos b.y) (exit_cells (face t))) (place_lit lit t b.x b.y) no_entry (sym (drawn_cell library tiling m.pieces lit t (pos X) (pos Y) e b wired) ∙ head)

-- the cell of a port at the generations between
entry_later : (library : Kind → Drawing) → Laws library → (tiling : Tiling) → IsMatched tiling → (lit : Lit) (g X Y : ℕ) → g ≤ 30 → entered_at tiling X Y ≡ true → glue library tiling lit (suc g) (pos X) (pos Y) ≢ Head
entry_later library laws tiling m lit g X Y h f head = go (tile_at tiling (pos X) (pos Y)) refl
  where
    go : (o : Option Placed) → tile_at tiling (pos X) (pos Y) ≡ o → ⊥
    go None e = true≢false (sym f ∙ entered_none tiling X Y e)
    go (Some t) e =
        let b = (belongs tiling m.pieces t (pos X) (pos Y) e).inside in
        let here = at_local tiling t (pos X) (pos Y) b in
        let entry = ap₂ (λ i j. is_cell_of i j (entry_cells (face t))) here.0 here.1 ∙ sym (entered_is tiling m.pieces t X Y e b) ∙ f in
        ((laws t.piece).keeps_time (bit lit t 0) (bit lit t 1)).entries_stay_dark (suc g) (local_x t (pos X)) (local_y t (pos Y)) (omega arith) (omega arith) entry
        (sym (ap (λ o. evolve (suc g) (alone library lit o) (pos X) (pos Y)) e ∙ alone_at library lit t (suc g) (pos X) (pos Y)) ∙ head)

exit_between : (library : Kind → Drawing) → Laws library → (tiling : Tiling) → IsMatched tiling → (lit : Lit) (g X Y : ℕ) → g < 30 → left_at tiling X Y ≡ true → glue library tiling lit (suc g) (pos X) (pos Y) ≢ Head
exit_between library laws tiling m lit g X Y h f head = go (tile_at tiling (pos X) (pos Y)) refl
  where
    go : (o : Option Placed) → tile_at tiling (pos X) (pos Y) ≡ o → ⊥
    go None e = true≢false (sym f ∙ left_none tiling X Y e)
    go (Some t) e =
        let b = (belongs tiling m.pieces t (pos X) (pos Y) e).inside in
        let here = at_local tiling t (pos X) (pos Y) b in
        let exit = ap₂ (λ i j. is_cell_of i j (exit_cells (face t))) here.0 here.1 ∙ sym (left_is tiling m.pieces t X Y e b) ∙ f in
        ((laws t.piece).keeps_time (bit lit t 0) (bit lit t 1)).exits_stay_dark (suc g) (local_x t (pos X)) (local_y t (pos Y)) (omega arith) (λ z. omega (arith, z, h)) exit
        (sym (ap (λ o. evolve (suc g) (alone library lit o) (pos X) (pos Y)) e ∙ alone_at library lit t (suc g) (pos X) (pos Y)) ∙ head)

pub shows_edges : (library : Kind → Drawing) → KeepsLaw library → (tiling : Tiling) → IsMatched tiling → (lit : Lit) → ShowsEdges library tiling lit
shows_edges library keeps tiling m lit =
    let laws = laws_of library keeps in
    record { entry = λ q l r h f. entry laws q l r h f; exit = λ q l r h f. exit laws q l r h f }
  where
    west_of : (q l : ℕ) → entered_at tiling (32 * q) (16 * l + 8) ≡ is_entered (tiling q l) 0 8
    west_of q l =
        let c : 32 * q / 32 ≡ q = omega arith in
        let r : 32 * q % 32 ≡ 0 = omega arith in
        let s : (16 * l + 8) / 16 ≡ l = omega arith in
        let k : (16 * l + 8) % 16 ≡ 8 = omega arith in
        ap₂ (λ i j. is_entered (tiling i j) (32 * q % 32) ((16 * l + 8) % 16)) c s ∙ ap₂ (is_entered (tiling q l)) r k

    left_of : (q l : ℕ) → left_at tiling (32 * q + 31) (16 * l + 8) ≡ is_left (tiling q l) 31 8
    left_of q l =
        let c : (32 * q + 31) / 32 ≡ q = omega arith in
        let r : (32 * q + 31) % 32 ≡ 31 = omega arith in
        let s : (16 * l + 8) / 16 ≡ l = omega arith in
        let k : (16 * l + 8) % 16 ≡ 8 = omega arith in
        ap₂ (λ i j. is_left (tiling i j) ((32 * q + 31) % 32) ((16 * l + 8) % 16)) c s ∙ ap₂ (is_left (tiling q l)) r k

    answers_of : (q l : ℕ) → answers_at tiling lit (32 * q + 31) (16 * l + 8) ≡ slot_answers lit q l (tiling q l) 31 8
    answers_of q l =
        let c : (32 * q + 31) / 32 ≡ q = omega arith in
        let r : (32 * q + 31) % 32 ≡ 31 = omega arith in
        let s : (16 * l + 8) / 16 ≡ l = omega arith in
        let k : (16 * l + 8) % 16 ≡ 8 = omega arith in
        ap₂ (λ i j. slot_answers lit i j (tiling i j) ((32 * q + 31) % 32) ((16 * l + 8) % 16)) c s ∙ ap₂ (slot_answers lit q l (tiling q l)) r k

    entry : Laws library → (q l r : ℕ) → r < 32 → is_entered (tiling q l) 0 8 ≡ true → (evolve r (drawn library tiling lit) (pos (32 * q)) (pos (16 * l + 8)) ≡ Head) ↔ ((r ≡ 0) × (lit (Beside q l) ≡ true))
    entry laws q l zero h f =
        let both = entry_at_start library laws tiling m lit (32 * q) (16 * l + 8) (west_of q l ∙ f) in
        (λ head. (refl, sym (west_edge lit q l) ∙ both.0 head), λ p. both.1 (west_edge lit q l ∙ p.1))
    entry laws q l (suc g) h f = (
      λ head. absurd (entry_later library laws tiling m lit g (32 * q) (16 * l + 8) (omega arith) (west_of q l ∙ f) (sym (ap (λ p. p (pos (32 * q)) (pos (16 * l + 8))) (between library laws tiling m lit g (omega arith))) ∙ head)),
      λ p. absurd (omega (arith, p.0)),
    )

    exit : Laws library → (q l r : ℕ) → r < 32 → is_left (tiling q l) 31 8 ≡ true → (evolve r (drawn library tiling lit) (pos (32 * q + 31)) (pos (16 * l + 8)) ≡ Head) ↔ ((r ≡ 31) × (slot_answers lit q l (tiling q l) 31 8 ≡ true))
    exit laws q l zero h f = (λ head. absurd (exit_at_start library laws tiling m lit (32 * q + 31) (16 * l + 8) (left_of q l ∙ f) head), λ p. absurd (omega (arith, p.0)))
    exit laws q l (suc g) h f =
        let same = ap (λ p. p (pos (32 * q + 31)) (pos (16 * l + 8))) (between library laws tiling m lit g (omega arith)) in
        elim (cases_lt g 30) [
          | inl lt ↦ (λ head. absurd (exit_between library laws tiling m lit g (32 * q + 31) (16 * l + 8) lt (left_of q l ∙ f) (sym same ∙ head)), λ p. absurd (omega (arith, p.0, lt)))
          | inr ge ↦
              let last : suc g ≡ 31 = omega (arith, ge, h) in
              let at_last = ap (λ n. glue library tiling lit n (pos (32 * q + 31)) (pos (16 * l + 8))) last in (
                λ head. (last, sym (answers_of q l) ∙ is_answered library laws tiling m.pieces lit (32 * q + 31) (16 * l + 8) (sym (same ∙ at_last) ∙ head)),
                λ p. same ∙ at_last ∙ answered_is library laws tiling m.pieces lit (32 * q + 31) (16 * l + 8) (answers_of q l ∙ p.1),
              )
        ]
