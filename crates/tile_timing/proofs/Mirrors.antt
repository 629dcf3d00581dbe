-- A mirrored drawing keeps the timing law of the mirrored tile.
use Rattle.std.proofs.Common.{ℤ, pos, negsuc, ◌-ℤ◌, ℕ, ◌+◌, ◌-◌, ◌*◌, ◌<◌, ◌≡◌, refl, sym, ap, ap₂, ◌∙◌, Bool, true, false, ◌||◌, ◌&&◌, ◌==◌, ltb, cond, List, [], ◌∷◌, ◌++◌, map, arith, int_eq}
use Rattle.std.proofs.lemmas.Int.{ints}
use Rattle.std.proofs.lemmas.Bool.{and_parts, and_from, true≢false, ltb-true, lt-ltb, eq-eqb as is_of}
use Rattle.std.proofs.lemmas.Bool.Decides.{Decides-int_eq, Decides-eqb, same_from_decides, Decides-like}
use Rattle.std.proofs.lemmas.List.{map-append}
use Rattle.std.proofs.Math.IntN.{+ℤ-neg_ℤ_cancel}
use Rattle.std.proofs.Math.Path.{fun_ext}
use Rattle.ww_rule.specs.declared.pattern.State.TheVariants.{Empty, Head, Tail, Conductor}
use Rattle.ww_rule.specs.Wireworld.{evolve}
use Rattle.ww_rule.specs.Laws.{mirrored as mirrored_plane}
use Rattle.ww_rule.proofs.Moves.{evolve_mirrored}
use Rattle.tile_core.specs.Drawing.{Cell, is_cell_of, Drawing, picture}
use Rattle.tile_core.specs.Interface.{Interface, chosen, entry_cells, exit_cells, lit_entries, lit_exits, is_in_box, is_on_border}
use Rattle.tile_core.specs.TimingLaw.{started, KeepsTime, HasPorts, MeetsTimingLaw}
use Rattle.tile_timing.specs.Mirror.{mirrored_drawing, mirrored_cell, IsMirrorOf}

back : (x : ℤ) → pos 31 -ℤ (pos 31 -ℤ x) ≡ x
back x = omega (arith, ints)

eq_mirrored : (x a : ℤ) → int_eq x (pos 31 -ℤ a) ≡ int_eq (pos 31 -ℤ x) a
eq_mirrored x a =
    same_from_decides _ _ (Decides-int_eq x (pos 31 -ℤ a))
    (Decides-like _ (λ e. sym (back x) ∙ ap (λ z. pos 31 -ℤ z) e) (λ e. ap (λ z. pos 31 -ℤ z) e ∙ back a) (Decides-int_eq (pos 31 -ℤ x) a))

among_mirrored : (x y : ℤ) (cs : List Cell) → is_cell_of x y (map mirrored_cell cs) ≡ is_cell_of (pos 31 -ℤ x) y cs
among_mirrored x y [] = refl
among_mirrored x y (c ∷ cs) =
    ap₂ (λ here later. (here && int_eq y c.y) || later) (eq_mirrored x c.x) (among_mirrored x y cs)

chosen_mirrored : (cs : List Cell) (bits : List Bool) → chosen (map mirrored_cell cs) bits ≡ map mirrored_cell (chosen cs bits)
chosen_mirrored [] bits = refl
chosen_mirrored (c ∷ cs) [] = refl
chosen_mirrored (c ∷ cs) (false ∷ bits) = chosen_mirrored cs bits
chosen_mirrored (c ∷ cs) (true ∷ bits) = ap (λ ds. mirrored_cell c ∷ ds) (chosen_mirrored cs bits)

picture_mirrored : (drawing : Drawing) (hs ts : List Cell) → picture (mirrored_drawing drawing) (map mirrored_cell hs) (map mirrored_cell ts) ≡ mirrored_plane (pos 31) (picture drawing hs ts)
picture_mirrored drawing hs ts =
    fun_ext (λ x. fun_ext (λ y. ap₂ (λ h t. cond (drawing (pos 31 -ℤ x) y) (cond h Head (cond t Tail Conductor)) Empty) (among_mirrored x y hs) (among_mirrored x y ts)))

lit_mirrored : (tile mirror : Interface) (m : IsMirrorOf tile mirror) (a b : Bool) → lit_exits mirror a b ≡ map mirrored_cell (lit_exits tile a b)
lit_mirrored tile mirror m a b = ap₂ chosen m.exits (m.answer a b) ∙ chosen_mirrored (exit_cells tile) (tile.answer a b)

run_mirrored : (tile mirror : Interface) (m : IsMirrorOf tile mirror) (drawing : Drawing) (a b : Bool) (n : ℕ) (x y : ℤ) → evolve n (started mirror (mirrored_drawing drawing) a b) x y ≡ evolve n (started tile drawing a b) (pos 31 -ℤ x) y
run_mirrored tile mirror m drawing a b n x y =
    let bits = a ∷ b ∷ [] in
    ap (λ p. p x y) (ap (evolve n) (ap (λ hs. picture (mirrored_drawing drawing) hs []) (ap (λ cs. chosen cs bits) m.entries ∙ chosen_mirrored (entry_cells tile) bits) ∙ picture_mirrored drawing (lit_entries tile a b) []) ∙ evolve_mirrored (pos 31) n (started tile drawing a b))

port_mirrored : (x y : ℤ) (cells mirror : List Cell) → mirror ≡ map mirrored_cell cells → is_cell_of x y mirror ≡ is_cell_of (pos 31 -ℤ x) y cells
port_mirrored x y cells mirror e = ap (is_cell_of x y) e ∙ among_mirrored x y cells

keeps_time_mirrored : (tile mirror : Interface) (m : IsMirrorOf tile mirror) (drawing : Drawing) (a b : Bool) → KeepsTime tile drawing a b → KeepsTime mirror (mirrored_drawing drawing) a b
keeps_time_mirrored tile mirror m drawing a b law =
    let run = run_mirrored tile mirror m drawing a b in
    let entry = λ (x y : ℤ). port_mirrored x y (entry_cells tile) (entry_cells mirror) m.entries in
    let exit = λ (x y : ℤ). port_mirrored x y (exit_cells tile) (exit_cells mirror) m.exits in
    let lit = λ (x y : ℤ). port_mirrored x y (lit_exits tile a b) (lit_exits mirror a b) (lit_mirrored tile mirror m a b) in
    record {
      entries_stay_dark = λ g x y lo hi e h. law.entries_stay_dark g (pos 31 -ℤ x) y lo hi (sym (entry x y) ∙ e) (sym (run g x y) ∙ h);
      exits_answer = λ x y e. (
        λ h. lit x y ∙ (law.exits_answer (pos 31 -ℤ x) y (sym (exit x y) ∙ e)).0 (sym (run 31 x y) ∙ h),
        λ h. run 31 x y ∙ (law.exits_answer (pos 31 -ℤ x) y (sym (exit x y) ∙ e)).1 (sym (lit x y) ∙ h),
      );
      exits_stay_dark = λ g x y hi ne e h. law.exits_stay_dark g (pos 31 -ℤ x) y hi ne (sym (exit x y) ∙ e) (sym (run g x y) ∙ h);
      ends_at_rest = λ x y. run 32 x y ∙ law.ends_at_rest (pos 31 -ℤ x) y ∙ ap (λ t. cond (drawing (pos 31 -ℤ x) y) (cond t Tail Conductor) Empty) (sym (lit x y));
    }

-- a cell of the box, by its column and row
pub record InBox (tile : Interface) (x y : ℤ) : Type 0 where
  pub column : ℕ
  pub row : ℕ
  pub x_is : x ≡ pos column
  pub y_is : y ≡ pos row
  pub narrow : column < 32
  pub low : row < 16 * tile.lanes

in_box : (tile : Interface) (x y : ℤ) → is_in_box tile x y ≡ true → InBox tile x y
in_box tile (pos x) (pos y) e =
    let parts = and_parts _ _ e in
    record { column = x; row = y; x_is = refl; y_is = refl; narrow = ltb-true x 32 parts.0; low = ltb-true y (16 * tile.lanes) parts.1 }
in_box tile (pos x) (negsuc y) e = absurd (true≢false (sym e))
in_box tile (negsuc x) y e = absurd (true≢false (sym e))

column_mirrored : (x : ℤ) (column : ℕ) → x ≡ pos column → column < 32 → pos 31 -ℤ x ≡ pos (31 - column)
column_mirrored x column e lt =
    let sum : 31 ≡ (31 - column) + column = omega arith in
    ap (λ z. pos 31 -ℤ z) e ∙ ap (λ n. pos n -ℤ pos column) sum ∙ +ℤ-neg_ℤ_cancel (pos (31 - column)) (pos column)

box_mirrored : (tile : Interface) (x y : ℤ) → is_in_box tile x y ≡ true → is_in_box tile (pos 31 -ℤ x) y ≡ true
box_mirrored tile x y e =
    let at = in_box tile x y e in
    let narrow : 31 - at.column < 32 = omega arith in
    ap₂ (λ u v. is_in_box tile u v) (column_mirrored x at.column at.x_is at.narrow) at.y_is
    ∙ and_from _ _ (lt-ltb (31 - at.column) 32 narrow) (lt-ltb at.row (16 * tile.lanes) at.low)

sides : (a b c d a' b' : Bool) → (a ≡ true → b' ≡ true) → (b ≡ true → a' ≡ true) → (a || b || c || d) ≡ true → (a' || b' || c || d) ≡ true
sides true b c d a' b' p q e = rw (p refl) (any a' c d)
  where
    any : (a c d : Bool) → (a || true || c || d) ≡ true
    any true c d = refl
    any false c d = refl
sides false true c d a' b' p q e = rw (q refl) refl
sides false false true d true b' p q e = refl
sides false false true d false true p q e = refl
sides false false true d false false p q e = refl
sides false false false d true b' p q e = refl
sides false false false d false true p q e = refl
sides false false false d false false p q e = e

border_mirrored : (tile : Interface) (x y : ℤ) → is_on_border tile x y ≡ true → is_on_border tile (pos 31 -ℤ x) y ≡ true
border_mirrored tile (pos x) (pos y) e =
    let parts = and_parts _ _ e in
    let at = in_box tile (pos x) (pos y) parts.0 in
    let narrow : x < 32 = ltb-true x 32 (and_parts _ _ parts.0).0 in
    let m : pos 31 -ℤ pos x ≡ pos (31 - x) = column_mirrored (pos x) x refl narrow in
    ap (λ u. is_on_border tile u (pos y)) m
    ∙ and_from _ _ (sym (ap (λ u. is_in_box tile u (pos y)) m) ∙ box_mirrored tile (pos x) (pos y) parts.0)
    (sides (x == 0) (x == 31) (y == 0) (y + 1 == 16 * tile.lanes) (31 - x == 0) (31 - x == 31) (λ z. let z' = (Decides-eqb x 0).0 z in is_of (31 - x) 31 (omega (arith, z'))) (λ z. let z' = (Decides-eqb x 31).0 z in is_of (31 - x) 0 (omega (arith, z'))) parts.1)
border_mirrored tile (pos x) (negsuc y) e = absurd (true≢false (sym e))
border_mirrored tile (negsuc x) y e = absurd (true≢false (sym e))

box_of_lanes : (tile mirror : Interface) (x y : ℤ) → mirror.lanes ≡ tile.lanes → is_in_box tile x y ≡ true → is_in_box mirror x y ≡ true
box_of_lanes tile mirror (pos x) (pos y) e h = ap (λ n. ltb x 32 && ltb y (16 * n)) e ∙ h
box_of_lanes tile mirror (pos x) (negsuc y) e h = absurd (true≢false (sym h))
box_of_lanes tile mirror (negsuc x) y e h = absurd (true≢false (sym h))

border_of_lanes : (tile mirror : Interface) (x y : ℤ) → mirror.lanes ≡ tile.lanes → is_on_border mirror x y ≡ true → is_on_border tile x y ≡ true
border_of_lanes tile mirror (pos x) (pos y) e h =
    ap (λ n. ltb x 32 && ltb y (16 * n) && (x == 0 || x == 31 || y == 0 || y + 1 == 16 * n)) (sym e) ∙ h
border_of_lanes tile mirror (pos x) (negsuc y) e h = absurd (true≢false (sym h))
border_of_lanes tile mirror (negsuc x) y e h = absurd (true≢false (sym h))

has_ports_mirrored : (tile mirror : Interface) (m : IsMirrorOf tile mirror) (drawing : Drawing) → HasPorts tile drawing → HasPorts mirror (mirrored_drawing drawing)
has_ports_mirrored tile mirror m drawing ports =
    record {
      in_box = λ x y e. box_of_lanes tile mirror x y m.lanes (ap (λ u. is_in_box tile u y) (sym (back x)) ∙ box_mirrored tile (pos 31 -ℤ x) y (ports.in_box (pos 31 -ℤ x) y e));
      has_entries = λ x y e. ports.has_entries (pos 31 -ℤ x) y (sym (port_mirrored x y (entry_cells tile) (entry_cells mirror) m.entries) ∙ e);
      has_exits = λ x y e. ports.has_exits (pos 31 -ℤ x) y (sym (port_mirrored x y (exit_cells tile) (exit_cells mirror) m.exits) ∙ e);
      border = λ x y on e. port_mirrored x y (entry_cells tile ++ exit_cells tile) (entry_cells mirror ++ exit_cells mirror) (ap₂ (λ cs ds. cs ++ ds) m.entries m.exits ∙ sym (map-append mirrored_cell (entry_cells tile) (exit_cells tile))) ∙ ports.border (pos 31 -ℤ x) y (border_mirrored tile x y (border_of_lanes tile mirror x y m.lanes on)) e;
    }

-- a mirrored drawing keeps the law of the mirrored tile
pub law_mirrored : (tile mirror : Interface) (drawing : Drawing) → IsMirrorOf tile mirror → MeetsTimingLaw tile drawing → MeetsTimingLaw mirror (mirrored_drawing drawing)
law_mirrored tile mirror drawing m law =
    record {
      keeps_time = λ a b. keeps_time_mirrored tile mirror m drawing a b (law.keeps_time a b);
      has_ports = has_ports_mirrored tile mirror m drawing law.has_ports;
    }
