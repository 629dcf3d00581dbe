-- What is said of a block's slot is said of the piece that stands there.
use Rattle.std.proofs.Common.{ℤ, pos, negsuc, ℕ, zero, suc, ◌+◌, ◌-◌, ◌*◌, ◌/◌, ◌%◌, ◌≡◌, refl, ap, ap₂, ◌∙◌, Bool, false, arith}
use Rattle.std.proofs.lemmas.Int.{ints}
use Rattle.std.specs.Prelude.{Some, None}
use Rattle.std.proofs.lemmas.Option.{same_Some}
use Rattle.ww_rule.specs.declared.pattern.State.TheVariants.{Empty}
use Rattle.tile_core.specs.declared.kind.Kind.{Kind}
use Rattle.tile_core.specs.Drawing.{Drawing, is_cell_of}
use Rattle.tile_core.specs.Interface.{entry_cells, exit_cells}
use Rattle.tiling.specs.Tiling.{Piece, interface_of, Slot, Tiling, Lit, drawn, drawn_slot, drawn_piece}
use Rattle.tiling.specs.Tiling.Slot.{Nothing, Whole, Upper, Lower}
use Rattle.tiling.specs.Matched.{HasWholePieces, is_entered, is_left}
use Rattle.tiling.specs.MacroStep.{piece_answers, slot_answers}
use Rattle.tiling.proofs.Region.{Placed, face, place_of, tile_at, InBox}

-- a function of a piece's first block and a place in its box, by the block and the place there
abbrev pub by_slot : {A : Type 0} → (ℕ → ℕ → Piece → ℕ → ℕ → A) → A → ℕ → ℕ → Slot → ℕ → ℕ → A
by_slot f none q l Nothing x y = none
by_slot f none q l (Whole p) x y = f q l p x y
by_slot f none q l (Upper p) x y = f q l p x y
by_slot f none q l (Lower p) x y = f q (l - 1) p x (y + 16)

abbrev pub by_cell : {A : Type 0} → (ℕ → ℕ → Piece → ℕ → ℕ → A) → A → Tiling → ℕ → ℕ → A
by_cell f none tiling X Y = by_slot f none (X / 32) (Y / 16) (tiling (X / 32) (Y / 16)) (X % 32) (Y % 16)

pub slot_none : {A : Type 0} (f : ℕ → ℕ → Piece → ℕ → ℕ → A) (none : A) (tiling : Tiling) (X Y : ℕ) → tile_at tiling (pos X) (pos Y) ≡ None → by_cell f none tiling X Y ≡ none
slot_none {A} f none tiling X Y e = go (tiling (X / 32) (Y / 16)) e
  where
    go : (s : Slot) → place_of (X / 32) (Y / 16) s ≡ None → by_slot f none (X / 32) (Y / 16) s (X % 32) (Y % 16) ≡ none
    go Nothing e = refl
    go (Whole p) e = cc
    go (Upper p) e = cc
    go (Lower p) e = cc

pub slot_some : {A : Type 0} (f : ℕ → ℕ → Piece → ℕ → ℕ → A) (none : A) (tiling : Tiling) → HasWholePieces tiling → (t : Placed) (X Y : ℕ) → tile_at tiling (pos X) (pos Y) ≡ Some t → (b : InBox tiling t (pos X) (pos Y)) → by_cell f none tiling X Y ≡ f t.column t.lane t.piece b.x b.y
slot_some {A} f none tiling h t X Y e b = go (tiling (X / 32) (Y / 16)) refl e
  where
    whole_x : X ≡ 32 * t.column + b.x
    whole_x = omega (arith, ints, b.u_is)

    whole_y : Y ≡ 16 * t.lane + b.y
    whole_y = omega (arith, ints, b.v_is)

    here : (p : Piece) → Some (record { column = X / 32; lane = Y / 16; piece = p }) ≡ Some t → f (X / 32) (Y / 16) p (X % 32) (Y % 16) ≡ f t.column t.lane t.piece b.x b.y
    here p g =
        let same = same_Some _ _ g in
        let col : X / 32 ≡ t.column = ap (λ s. s.column) same in
        let row : Y / 16 ≡ t.lane = ap (λ s. s.lane) same in
        let x_is : X % 32 ≡ b.x = omega (arith, whole_x, col) in
        let y_is : Y % 16 ≡ b.y = omega (arith, whole_y, row) in
        ap (λ s. f s.column s.lane s.piece (X % 32) (Y % 16)) same ∙ ap₂ (f t.column t.lane t.piece) x_is y_is

    go : (s : Slot) → tiling (X / 32) (Y / 16) ≡ s → place_of (X / 32) (Y / 16) s ≡ Some t → by_slot f none (X / 32) (Y / 16) s (X % 32) (Y % 16) ≡ f t.column t.lane t.piece b.x b.y
    go Nothing k g = cc
    go (Whole p) k g = here p g
    go (Upper p) k g = here p g
    go (Lower p) k g = below (Y / 16) refl
      where
        below : (l : ℕ) → l ≡ Y / 16 → f (X / 32) (Y / 16 - 1) p (X % 32) (Y % 16 + 16) ≡ f t.column t.lane t.piece b.x b.y
        below zero z = absurd (h.first (X / 32) p (ap (tiling (X / 32)) z ∙ k))
        below (suc l) z =
            let same = same_Some _ _ g in
            let col : X / 32 ≡ t.column = ap (λ s. s.column) same in
            let row : Y / 16 - 1 ≡ t.lane = ap (λ s. s.lane) same in
            let x_is : X % 32 ≡ b.x = omega (arith, whole_x, col) in
            let y_is : Y % 16 + 16 ≡ b.y = omega (arith, whole_y, row, z) in
            ap (λ s. f s.column s.lane s.piece (X % 32) (Y % 16 + 16)) same ∙ ap₂ (f t.column t.lane t.piece) x_is y_is

drawn_by_slot : (library : Kind → Drawing) (lit : Lit) (q l : ℕ) (s : Slot) (x y : ℕ) → drawn_slot library lit q l s x y ≡ by_slot (drawn_piece library lit) Empty q l s x y
drawn_by_slot library lit q l Nothing x y = refl
drawn_by_slot library lit q l (Whole p) x y = refl
drawn_by_slot library lit q l (Upper p) x y = refl
drawn_by_slot library lit q l (Lower p) x y = refl

-- a cell of the drawn plane, by its piece
pub drawn_some : (library : Kind → Drawing) (tiling : Tiling) → HasWholePieces tiling → (lit : Lit) (t : Placed) (u v : ℤ) → tile_at tiling u v ≡ Some t → (b : InBox tiling t u v) → drawn library tiling lit u v ≡ drawn_piece library lit t.column t.lane t.piece b.x b.y
drawn_some library tiling h lit t (pos X) (pos Y) e b =
    drawn_by_slot library lit (X / 32) (Y / 16) (tiling (X / 32) (Y / 16)) (X % 32) (Y % 16)
    ∙ slot_some (drawn_piece library lit) Empty tiling h t X Y e b
drawn_some library tiling h lit t (pos X) (negsuc Y) e b = cc
drawn_some library tiling h lit t (negsuc X) v e b = cc

pub drawn_none : (library : Kind → Drawing) (tiling : Tiling) (lit : Lit) (u v : ℤ) → tile_at tiling u v ≡ None → drawn library tiling lit u v ≡ Empty
drawn_none library tiling lit (pos X) (pos Y) e =
    drawn_by_slot library lit (X / 32) (Y / 16) (tiling (X / 32) (Y / 16)) (X % 32) (Y % 16)
    ∙ slot_none (drawn_piece library lit) Empty tiling X Y e
drawn_none library tiling lit (pos X) (negsuc Y) e = refl
drawn_none library tiling lit (negsuc X) v e = refl

abbrev pub entered_at : Tiling → ℕ → ℕ → Bool
entered_at tiling X Y = is_entered (tiling (X / 32) (Y / 16)) (X % 32) (Y % 16)

abbrev pub left_at : Tiling → ℕ → ℕ → Bool
left_at tiling X Y = is_left (tiling (X / 32) (Y / 16)) (X % 32) (Y % 16)

abbrev entry_place : ℕ → ℕ → Piece → ℕ → ℕ → Bool
entry_place q l p x y = is_cell_of (pos x) (pos y) (entry_cells (interface_of p))

abbrev exit_place : ℕ → ℕ → Piece → ℕ → ℕ → Bool
exit_place q l p x y = is_cell_of (pos x) (pos y) (exit_cells (interface_of p))

entered_by_slot : (q l : ℕ) (s : Slot) (x y : ℕ) → is_entered s x y ≡ by_slot entry_place false q l s x y
entered_by_slot q l Nothing x y = refl
entered_by_slot q l (Whole p) x y = refl
entered_by_slot q l (Upper p) x y = refl
entered_by_slot q l (Lower p) x y = refl

left_by_slot : (q l : ℕ) (s : Slot) (x y : ℕ) → is_left s x y ≡ by_slot exit_place false q l s x y
left_by_slot q l Nothing x y = refl
left_by_slot q l (Whole p) x y = refl
left_by_slot q l (Upper p) x y = refl
left_by_slot q l (Lower p) x y = refl

pub entered_is : (tiling : Tiling) → HasWholePieces tiling → (t : Placed) (X Y : ℕ) → tile_at tiling (pos X) (pos Y) ≡ Some t → (b : InBox tiling t (pos X) (pos Y)) → entered_at tiling X Y ≡ is_cell_of (pos b.x) (pos b.y) (entry_cells (face t))
entered_is tiling h t X Y e b =
    entered_by_slot (X / 32) (Y / 16) (tiling (X / 32) (Y / 16)) (X % 32) (Y % 16) ∙ slot_some entry_place false tiling h t X Y e b

pub entered_none : (tiling : Tiling) (X Y : ℕ) → tile_at tiling (pos X) (pos Y) ≡ None → entered_at tiling X Y ≡ false
entered_none tiling X Y e =
    entered_by_slot (X / 32) (Y / 16) (tiling (X / 32) (Y / 16)) (X % 32) (Y % 16) ∙ slot_none entry_place false tiling X Y e

pub left_none : (tiling : Tiling) (X Y : ℕ) → tile_at tiling (pos X) (pos Y) ≡ None → left_at tiling X Y ≡ false
left_none tiling X Y e =
    left_by_slot (X / 32) (Y / 16) (tiling (X / 32) (Y / 16)) (X % 32) (Y % 16) ∙ slot_none exit_place false tiling X Y e

pub left_is : (tiling : Tiling) → HasWholePieces tiling → (t : Placed) (X Y : ℕ) → tile_at tiling (pos X) (pos Y) ≡ Some t → (b : InBox tiling t (pos X) (pos Y)) → left_at tiling X Y ≡ is_cell_of (pos b.x) (pos b.y) (exit_cells (face t))
left_is tiling h t X Y e b =
    left_by_slot (X / 32) (Y / 16) (tiling (X / 32) (Y / 16)) (X % 32) (Y % 16) ∙ slot_some exit_place false tiling h t X Y e b

-- whether the piece at a cell answers 1 there
abbrev pub answers_at : Tiling → Lit → ℕ → ℕ → Bool
answers_at tiling lit X Y = slot_answers lit (X / 32) (Y / 16) (tiling (X / 32) (Y / 16)) (X % 32) (Y % 16)

answers_by_slot : (lit : Lit) (q l : ℕ) (s : Slot) (x y : ℕ) → slot_answers lit q l s x y ≡ by_slot (piece_answers lit) false q l s x y
answers_by_slot lit q l Nothing x y = refl
answers_by_slot lit q l (Whole p) x y = refl
answers_by_slot lit q l (Upper p) x y = refl
answers_by_slot lit q l (Lower p) x y = refl

pub answers_some : (tiling : Tiling) → HasWholePieces tiling → (lit : Lit) (t : Placed) (X Y : ℕ) → tile_at tiling (pos X) (pos Y) ≡ Some t → (b : InBox tiling t (pos X) (pos Y)) → answers_at tiling lit X Y ≡ piece_answers lit t.column t.lane t.piece b.x b.y
answers_some tiling h lit t X Y e b =
    answers_by_slot lit (X / 32) (Y / 16) (tiling (X / 32) (Y / 16)) (X % 32) (Y % 16) ∙ slot_some (piece_answers lit) false tiling h t X Y e b

pub answers_none : (tiling : Tiling) (lit : Lit) (X Y : ℕ) → tile_at tiling (pos X) (pos Y) ≡ None → answers_at tiling lit X Y ≡ false
answers_none tiling lit X Y e =
    answers_by_slot lit (X / 32) (Y / 16) (tiling (X / 32) (Y / 16)) (X % 32) (Y % 16) ∙ slot_none (piece_answers lit) false tiling X Y e
