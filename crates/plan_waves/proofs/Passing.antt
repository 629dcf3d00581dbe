-- The macro step at the exits of pieces, in any tiling that fits together, and the tiles that pass a signal on.
use Rattle.std.proofs.Common.{◌≡◌, refl, sym, ◌∙◌, ap, ap₂, ℤ, pos, ℕ, ◌+◌, ◌-◌, Bool, true, false, ◌&&◌, ◌||◌, List, [], ◌∷◌, ⊎_elim, arith}
use Rattle.std.proofs.lemmas.Bool.{or_parts, or_from, cases_lt, cond-true, cond-false}
use Rattle.tile_core.specs.declared.kind.Kind.TheVariants as kind
use Rattle.tile_core.specs.Drawing.{Cell, is_cell_of}
use Rattle.tile_core.specs.Interface.{chosen, cell_at, exit_cells}
use Rattle.tiling.specs.Tiling.{interface_of, is_entry_lit, Slot, Tiling, Edge, Lit}
use Rattle.tiling.specs.Tiling.Piece.{Tile}
use Rattle.tiling.specs.Tiling.Slot.{Nothing, Whole, Upper, Lower}
use Rattle.tiling.specs.Tiling.Edge.{Beside, Above}
use Rattle.tiling.specs.Matched.{IsMatched, is_left}
use Rattle.tiling.specs.MacroStep.{macro_step, slot_answers}
use Rattle.tiling.proofs.AtEdges.{beside_first, beside_next, above_first, above_next}
use Rattle.plan_waves.specs.WaysBack.{way_in, tile_before}
use Rattle.lists.proofs.Bools.{and_false_right as not_both}

-- where none of the cells lies, none of those that are chosen from them lies
chosen_none : (x y : ℤ) (cs : List Cell) (bs : List Bool) → is_cell_of x y cs ≡ false → is_cell_of x y (chosen cs bs) ≡ false
chosen_none x y [] bs h = h
chosen_none x y (c ∷ cs) [] h = refl
chosen_none x y (c ∷ cs) (true ∷ bs) h = or_from _ _ (or_parts _ _ h).0 (chosen_none x y cs bs (or_parts _ _ h).1)
chosen_none x y (c ∷ cs) (false ∷ bs) h = chosen_none x y cs bs (or_parts _ _ h).1

-- a block answers nothing where it is not left
pub answers_none : (lit : Lit) (q l : ℕ) (slot : Slot) (x y : ℕ) → is_left slot x y ≡ false → slot_answers lit q l slot x y ≡ false
answers_none lit q l Nothing x y h = refl
answers_none lit q l (Whole piece) x y h = chosen_none (pos x) (pos y) (exit_cells (interface_of piece)) ((interface_of piece).answer (is_entry_lit lit q l (interface_of piece) 0) (is_entry_lit lit q l (interface_of piece) 1)) h
answers_none lit q l (Upper piece) x y h = chosen_none (pos x) (pos y) (exit_cells (interface_of piece)) ((interface_of piece).answer (is_entry_lit lit q l (interface_of piece) 0) (is_entry_lit lit q l (interface_of piece) 1)) h
answers_none lit q l (Lower piece) x y h = chosen_none (pos x) (pos (y + 16)) (exit_cells (interface_of piece)) ((interface_of piece).answer (is_entry_lit lit q (l - 1) (interface_of piece) 0) (is_entry_lit lit q (l - 1) (interface_of piece) 1)) h

-- of two exits that are not both there, the one that is there decides
first_alone : (own other a b : Bool) → a ≡ true → (a && b) ≡ false → (b ≡ false → other ≡ false) → (own || other) ≡ own
first_alone true other a b h w none = refl
first_alone false other true b h w none = none w
first_alone false other false b h w none = cc

second_alone : (other own a b : Bool) → b ≡ true → (a && b) ≡ false → (a ≡ false → other ≡ false) → (other || own) ≡ own
second_alone other own true b h w none = cc
second_alone other own false b h w none = ap (λ t. t || own) (none refl)

-- an edge at which the block before it is left
pub step_east : (tiling : Tiling) → IsMatched tiling → (lit : Lit) (q next l : ℕ) → q + 1 ≡ next → is_left (tiling q l) 31 8 ≡ true
    → macro_step tiling lit (Beside next l) ≡ slot_answers lit q l (tiling q l) 31 8
step_east tiling m lit q next l e h =
    beside_next tiling lit next l q e
    ∙ first_alone (slot_answers lit q l (tiling q l) 31 8) (slot_answers lit next l (tiling next l) 0 8)
    (is_left (tiling q l) 31 8) (is_left (tiling next l) 0 8) h (ap (λ n. is_left (tiling q l) 31 8 && is_left (tiling n l) 0 8) (sym e) ∙ m.exits_beside q l)
    (λ none. answers_none lit next l (tiling next l) 0 8 none)

pub step_down : (tiling : Tiling) → IsMatched tiling → (lit : Lit) (q l below : ℕ) → l + 1 ≡ below → is_left (tiling q l) 16 15 ≡ true
    → macro_step tiling lit (Above q below) ≡ slot_answers lit q l (tiling q l) 16 15
step_down tiling m lit q l below e h =
    above_next tiling lit q below l e
    ∙ first_alone (slot_answers lit q l (tiling q l) 16 15) (slot_answers lit q below (tiling q below) 16 0)
    (is_left (tiling q l) 16 15) (is_left (tiling q below) 16 0) h (ap (λ n. is_left (tiling q l) 16 15 && is_left (tiling q n) 16 0) (sym e) ∙ m.exits_above q l)
    (λ none. answers_none lit q below (tiling q below) 16 0 none)

-- an edge at which the block behind it is left
pub step_west : (tiling : Tiling) → IsMatched tiling → (lit : Lit) (q l : ℕ) → is_left (tiling q l) 0 8 ≡ true
    → macro_step tiling lit (Beside q l) ≡ slot_answers lit q l (tiling q l) 0 8
step_west tiling m lit q l h =
    ⊎_elim
    (λ first. beside_first tiling lit q l (omega arith))
    (λ more. (let e : q - 1 + 1 ≡ q = omega arith in
    beside_next tiling lit q l (q - 1) e
    ∙ second_alone (slot_answers lit (q - 1) l (tiling (q - 1) l) 31 8) (slot_answers lit q l (tiling q l) 0 8)
    (is_left (tiling (q - 1) l) 31 8) (is_left (tiling q l) 0 8) h (ap (λ n. is_left (tiling (q - 1) l) 31 8 && is_left (tiling n l) 0 8) (sym e) ∙ m.exits_beside (q - 1) l)
    (λ none. answers_none lit (q - 1) l (tiling (q - 1) l) 31 8 none)))
    (cases_lt q 1)

pub step_up : (tiling : Tiling) → IsMatched tiling → (lit : Lit) (q l : ℕ) → is_left (tiling q l) 16 0 ≡ true
    → macro_step tiling lit (Above q l) ≡ slot_answers lit q l (tiling q l) 16 0
step_up tiling m lit q l h =
    ⊎_elim
    (λ first. above_first tiling lit q l (omega arith))
    (λ more. (let e : l - 1 + 1 ≡ l = omega arith in
    above_next tiling lit q l (l - 1) e
    ∙ second_alone (slot_answers lit q (l - 1) (tiling q (l - 1)) 16 15) (slot_answers lit q l (tiling q l) 16 0)
    (is_left (tiling q (l - 1)) 16 15) (is_left (tiling q l) 16 0) h (ap (λ n. is_left (tiling q (l - 1)) 16 15 && is_left (tiling q n) 16 0) (sym e) ∙ m.exits_above q (l - 1))
    (λ none. answers_none lit q (l - 1) (tiling q (l - 1)) 16 15 none)))
    (cases_lt l 1)

-- a cell is chosen by its bit
pub chosen_first : (x y : ℤ) (c : Cell) (b : Bool) (bs : List Bool) → is_cell_of x y (c ∷ []) ≡ true → is_cell_of x y (chosen (c ∷ []) (b ∷ bs)) ≡ b
chosen_first x y c true bs h = h
chosen_first x y c false bs h = refl

upper_west : (a b : Bool) → is_cell_of (pos 0) (pos 8) (chosen (cell_at (0, 8) ∷ cell_at (0, 24) ∷ []) (a ∷ b ∷ [])) ≡ a
upper_west true b = refl
upper_west false true = refl
upper_west false false = refl

lower_west : (a b : Bool) → is_cell_of (pos 0) (pos 24) (chosen (cell_at (0, 8) ∷ cell_at (0, 24) ∷ []) (a ∷ b ∷ [])) ≡ b
lower_west true true = refl
lower_west true false = refl
lower_west false true = refl
lower_west false false = refl

beside_is : (lit : Lit) (q l q' l' : ℕ) → q ≡ q' → l ≡ l' → lit (Beside q l) ≡ lit (Beside q' l')
beside_is lit q l q' l' e f = ap₂ (λ i j. lit (Beside i j)) e f

above_is : (lit : Lit) (q l l' : ℕ) → l ≡ l' → lit (Above q l) ≡ lit (Above q l')
above_is lit q l l' f = ap (λ j. lit (Above q j)) f

-- a tile passes on what it is given: one edge is lit exactly when another one was, a macro step before, which lies a tile back
pub record PassesOn (tiling : Tiling) (before after : Edge) : Type 0 where
  pub step : (lit : Lit) → macro_step tiling lit after ≡ lit before
  pub back : tile_before tiling after ≡ before

back_east : (tiling : Tiling) → IsMatched tiling → (q next l : ℕ) → q + 1 ≡ next → is_left (tiling q l) 31 8 ≡ true → tile_before tiling (Beside next l) ≡ way_in q l (tiling q l)
back_east tiling m q next l e h =
    let none = not_both _ _ h (ap (λ n. is_left (tiling q l) 31 8 && is_left (tiling n l) 0 8) (sym e) ∙ m.exits_beside q l) in
    let place : next - 1 ≡ q = omega arith in
    cond-false (is_left (tiling next l) 0 8) (way_in next l (tiling next l)) (way_in (next - 1) l (tiling (next - 1) l)) none ∙ ap (λ n. way_in n l (tiling n l)) place

back_down : (tiling : Tiling) → IsMatched tiling → (q l below : ℕ) → l + 1 ≡ below → is_left (tiling q l) 16 15 ≡ true → tile_before tiling (Above q below) ≡ way_in q l (tiling q l)
back_down tiling m q l below e h =
    let none = not_both _ _ h (ap (λ n. is_left (tiling q l) 16 15 && is_left (tiling q n) 16 0) (sym e) ∙ m.exits_above q l) in
    let place : below - 1 ≡ l = omega arith in
    cond-false (is_left (tiling q below) 16 0) (way_in q below (tiling q below)) (way_in q (below - 1) (tiling q (below - 1))) none ∙ ap (λ n. way_in q n (tiling q n)) place

back_west : (tiling : Tiling) (q l : ℕ) → is_left (tiling q l) 0 8 ≡ true → tile_before tiling (Beside q l) ≡ way_in q l (tiling q l)
back_west tiling q l h = cond-true (is_left (tiling q l) 0 8) (way_in q l (tiling q l)) (way_in (q - 1) l (tiling (q - 1) l)) h

back_up : (tiling : Tiling) (q l : ℕ) → is_left (tiling q l) 16 0 ≡ true → tile_before tiling (Above q l) ≡ way_in q l (tiling q l)
back_up tiling q l h = cond-true (is_left (tiling q l) 16 0) (way_in q l (tiling q l)) (way_in q (l - 1) (tiling q (l - 1))) h

pub beside_same : (q q' l l' : ℕ) → q ≡ q' → l ≡ l' → Beside q l ≡ Beside q' l'
beside_same q q' l l' e f = ap₂ Beside e f

pub above_same : (q q' l l' : ℕ) → q ≡ q' → l ≡ l' → Above q l ≡ Above q' l'
above_same q q' l l' e f = ap₂ Above e f

-- a tile of one lane lights its exit exactly when its entry edge is lit
pub east_passes : (tiling : Tiling) → IsMatched tiling → (q next l : ℕ) → q + 1 ≡ next → tiling q l ≡ Whole (Tile kind.East)
    → PassesOn tiling (Beside q l) (Beside next l)
east_passes tiling m q next l e h = record {
  step = λ lit. step_east tiling m lit q next l e (ap (λ s. is_left s 31 8) h) ∙ ap (λ s. slot_answers lit q l s 31 8) h
      ∙ chosen_first (pos 31) (pos 8) (cell_at (31, 8)) (lit (Beside q (l + 0))) (false ∷ []) refl ∙ beside_is lit q (l + 0) q l refl (omega arith);
  back = back_east tiling m q next l e (ap (λ s. is_left s 31 8) h) ∙ ap (way_in q l) h ∙ beside_same q q (l + 0) l refl (omega arith);
}

pub east_south_passes : (tiling : Tiling) → IsMatched tiling → (q l below : ℕ) → l + 1 ≡ below → tiling q l ≡ Whole (Tile kind.EastSouth)
    → PassesOn tiling (Beside q l) (Above q below)
east_south_passes tiling m q l below e h = record {
  step = λ lit. step_down tiling m lit q l below e (ap (λ s. is_left s 16 15) h) ∙ ap (λ s. slot_answers lit q l s 16 15) h
      ∙ chosen_first (pos 16) (pos 15) (cell_at (16, 15)) (lit (Beside q (l + 0))) (false ∷ []) refl ∙ beside_is lit q (l + 0) q l refl (omega arith);
  back = back_down tiling m q l below e (ap (λ s. is_left s 16 15) h) ∙ ap (way_in q l) h ∙ beside_same q q (l + 0) l refl (omega arith);
}

pub south_passes : (tiling : Tiling) → IsMatched tiling → (q l below : ℕ) → l + 1 ≡ below → tiling q l ≡ Whole (Tile kind.South)
    → PassesOn tiling (Above q l) (Above q below)
south_passes tiling m q l below e h = record {
  step = λ lit. step_down tiling m lit q l below e (ap (λ s. is_left s 16 15) h) ∙ ap (λ s. slot_answers lit q l s 16 15) h
      ∙ chosen_first (pos 16) (pos 15) (cell_at (16, 15)) (lit (Above q l)) (false ∷ []) refl;
  back = back_down tiling m q l below e (ap (λ s. is_left s 16 15) h) ∙ ap (way_in q l) h ∙ refl;
}

pub south_west_passes : (tiling : Tiling) → IsMatched tiling → (q l : ℕ) → tiling q l ≡ Whole (Tile kind.SouthWest)
    → PassesOn tiling (Above q l) (Beside q l)
south_west_passes tiling m q l h = record {
  step = λ lit. step_west tiling m lit q l (ap (λ s. is_left s 0 8) h) ∙ ap (λ s. slot_answers lit q l s 0 8) h
      ∙ chosen_first (pos 0) (pos 8) (cell_at (0, 8)) (lit (Above q l)) (false ∷ []) refl;
  back = back_west tiling q l (ap (λ s. is_left s 0 8) h) ∙ ap (way_in q l) h ∙ refl;
}

pub west_passes : (tiling : Tiling) → IsMatched tiling → (q next l : ℕ) → q + 1 ≡ next → tiling q l ≡ Whole (Tile kind.West)
    → PassesOn tiling (Beside next l) (Beside q l)
west_passes tiling m q next l e h = record {
  step = λ lit. step_west tiling m lit q l (ap (λ s. is_left s 0 8) h) ∙ ap (λ s. slot_answers lit q l s 0 8) h
      ∙ chosen_first (pos 0) (pos 8) (cell_at (0, 8)) (lit (Beside (q + 1) (l + 0))) (false ∷ []) refl ∙ beside_is lit (q + 1) (l + 0) next l e (omega arith);
  back = back_west tiling q l (ap (λ s. is_left s 0 8) h) ∙ ap (way_in q l) h ∙ beside_same (q + 1) next (l + 0) l e (omega arith);
}

pub west_north_passes : (tiling : Tiling) → IsMatched tiling → (q next l : ℕ) → q + 1 ≡ next → tiling q l ≡ Whole (Tile kind.WestNorth)
    → PassesOn tiling (Beside next l) (Above q l)
west_north_passes tiling m q next l e h = record {
  step = λ lit. step_up tiling m lit q l (ap (λ s. is_left s 16 0) h) ∙ ap (λ s. slot_answers lit q l s 16 0) h
      ∙ chosen_first (pos 16) (pos 0) (cell_at (16, 0)) (lit (Beside (q + 1) (l + 0))) (false ∷ []) refl ∙ beside_is lit (q + 1) (l + 0) next l e (omega arith);
  back = back_up tiling q l (ap (λ s. is_left s 16 0) h) ∙ ap (way_in q l) h ∙ beside_same (q + 1) next (l + 0) l e (omega arith);
}

pub north_passes : (tiling : Tiling) → IsMatched tiling → (q l below : ℕ) → l + 1 ≡ below → tiling q l ≡ Whole (Tile kind.North)
    → PassesOn tiling (Above q below) (Above q l)
north_passes tiling m q l below e h = record {
  step = λ lit. step_up tiling m lit q l (ap (λ s. is_left s 16 0) h) ∙ ap (λ s. slot_answers lit q l s 16 0) h
      ∙ chosen_first (pos 16) (pos 0) (cell_at (16, 0)) (lit (Above q (l + 1))) (false ∷ []) refl ∙ above_is lit q (l + 1) below e;
  back = back_up tiling q l (ap (λ s. is_left s 16 0) h) ∙ ap (way_in q l) h ∙ above_same q q (l + 1) below refl e;
}

pub north_east_passes : (tiling : Tiling) → IsMatched tiling → (q next l below : ℕ) → q + 1 ≡ next → l + 1 ≡ below → tiling q l ≡ Whole (Tile kind.NorthEast)
    → PassesOn tiling (Above q below) (Beside next l)
north_east_passes tiling m q next l below e f h = record {
  step = λ lit. step_east tiling m lit q next l e (ap (λ s. is_left s 31 8) h) ∙ ap (λ s. slot_answers lit q l s 31 8) h
      ∙ chosen_first (pos 31) (pos 8) (cell_at (31, 8)) (lit (Above q (l + 1))) (false ∷ []) refl ∙ above_is lit q (l + 1) below f;
  back = back_east tiling m q next l e (ap (λ s. is_left s 31 8) h) ∙ ap (way_in q l) h ∙ above_same q q (l + 1) below refl f;
}

-- the halves of a swap that is entered at the east light their exits exactly when the entry edge of the other half is lit
pub upper_swap_passes : (tiling : Tiling) → IsMatched tiling → (q next l below : ℕ) → q + 1 ≡ next → l + 1 ≡ below → tiling q l ≡ Upper (Tile kind.WestSwap)
    → PassesOn tiling (Beside next below) (Beside q l)
upper_swap_passes tiling m q next l below e f h = record {
  step = λ lit. step_west tiling m lit q l (ap (λ s. is_left s 0 8) h) ∙ ap (λ s. slot_answers lit q l s 0 8) h
      ∙ upper_west (lit (Beside (q + 1) (l + 1))) (lit (Beside (q + 1) (l + 0))) ∙ beside_is lit (q + 1) (l + 1) next below e f;
  back = back_west tiling q l (ap (λ s. is_left s 0 8) h) ∙ ap (way_in q l) h ∙ beside_same (q + 1) next (l + 1) below e f;
}

pub lower_swap_passes : (tiling : Tiling) → IsMatched tiling → (q next l above : ℕ) → q + 1 ≡ next → above + 1 ≡ l → tiling q l ≡ Lower (Tile kind.WestSwap)
    → PassesOn tiling (Beside next above) (Beside q l)
lower_swap_passes tiling m q next l above e f h = record {
  step = λ lit. step_west tiling m lit q l (ap (λ s. is_left s 0 8) h) ∙ ap (λ s. slot_answers lit q l s 0 8) h
      ∙ lower_west (lit (Beside (q + 1) (l - 1 + 1))) (lit (Beside (q + 1) (l - 1 + 0))) ∙ beside_is lit (q + 1) (l - 1 + 0) next above e (omega arith);
  back = back_west tiling q l (ap (λ s. is_left s 0 8) h) ∙ ap (way_in q l) h ∙ beside_same (q + 1) next (l - 1 + 0) above e (omega arith);
}
