-- Planes that are moved with their signals, and parts.
use Rattle.std.proofs.Common.{ℤ, [], ◌∷◌, Bool, pos, ◌+ℤ◌, ◌-ℤ◌, ℕ, suc, ◌+◌, ◌≡◌, refl, sym, ap, ap₂, ◌∙◌, subst, inl, inr, true, List, ◌++◌, map, arith}
use Rattle.std.specs.Prelude.{Contains, ◌≢◌, ◌↔◌}
use Rattle.std.specs.Cmp.{both_ways}
use Rattle.std.proofs.lemmas.Int.{ints}
use Rattle.std.proofs.Math.Path.{fun_ext}
use Rattle.lists.proofs.Members.{in_from, contains_from, in_left, in_right, in_parts, in_map, in_mapped}
use Rattle.ww_rule.specs.declared.pattern.State.TheVariants.{Empty, Head}
use Rattle.ww_rule.specs.Wireworld.{Plane, Due, heads_around, count_head, driven}
use Rattle.ww_rule.specs.Laws.{moved, mirrored}
use Rattle.ww_rule.specs.DrivenLaws.{upside_down, due_moved, due_mirrored, due_upside_down}
use Rattle.ww_rule.specs.Turns.{turned, due_turned}
use Rattle.ww_rule.proofs.Cells.{sum_same}
use Rattle.ww_rule.proofs.DrivenPlanes.{drives_anywhere}
use Rattle.ww_rule.proofs.Turns.{drives_turned_too}
use Rattle.gate_laws.specs.Signals.{Signal, cell_state, is_lit, due_of_signals, IsReady, CarriesSignals}
use Rattle.gate_laws.specs.Rows.{Port, signal_of, signals_at}
use Rattle.gate_laws.specs.Moved.{signal_at, CarriesAlso, CarriesAnywhere}
use Rattle.gate_laws.specs.PartLaws.{moved_port, IsPartAlso, PartsMove}
use Rattle.gate_laws.proofs.Dues.{due_by_signal, signal_is_due, same_cell}

-- a way to move cells, with its way back, and how planes and what is due go with it
record IsMove (place back : ℤ × ℤ → ℤ × ℤ) (turn : Plane → Plane) (turn_due : Due → Due) : Type 0 where
  goes_back : (c : ℤ × ℤ) → back (place c) ≡ c
  comes_again : (c : ℤ × ℤ) → place (back c) ≡ c
  plane : (p : Plane) (c : ℤ × ℤ) → cell_state (turn p) c ≡ cell_state p (back c)
  dues : (due : Due) (g : ℕ) (c : ℤ × ℤ) → turn_due due g c.0 c.1 ≡ due g (back c).0 (back c).1
  around : (p : Plane) (c : ℤ × ℤ) → heads_around (turn p) c.0 c.1 ≡ heads_around p (back c).0 (back c).1
  drives : (due : Due) (p : Plane) (g : ℕ) → driven (turn_due due) (turn p) g ≡ turn (driven due p g)

module _ (place back : ℤ × ℤ → ℤ × ℤ) (turn : Plane → Plane) (turn_due : Due → Due) (h : IsMove place back turn turn_due) (p : Plane) (period : ℕ) (ins outs : List Signal) (run : CarriesSignals period p ins outs) where
  abbrev new_ins : List Signal
  new_ins = map (signal_at place) ins

  abbrev new_outs : List Signal
  new_outs = map (signal_at place) outs

  to_old : (g : ℕ) (c : ℤ × ℤ) → due_of_signals period new_ins g c.0 c.1 ≡ true → turn_due (due_of_signals period ins) g c.0 c.1 ≡ true
  to_old g c e =
      let by = due_by_signal period new_ins g c e in
      let old = in_mapped (signal_at place) ins by.0 (in_from new_ins by.0 by.1) in
      let lit : is_lit period old.0 g ≡ true = ap (λ s. is_lit period s g) (sym old.2) ∙ by.2 in
      let cell : old.0.cell ≡ back c = sym (h.goes_back old.0.cell) ∙ ap back (ap (λ s. s.cell) (sym old.2) ∙ by.3) in
      h.dues (due_of_signals period ins) g c ∙ signal_is_due period ins g (back c) old.0 (contains_from ins old.0 old.1) lit cell

  from_old : (g : ℕ) (c : ℤ × ℤ) → turn_due (due_of_signals period ins) g c.0 c.1 ≡ true → due_of_signals period new_ins g c.0 c.1 ≡ true
  from_old g c e =
      let by = due_by_signal period ins g (back c) (sym (h.dues (due_of_signals period ins) g c) ∙ e) in
      let new = signal_at place by.0 in
      signal_is_due period new_ins g c new (contains_from new_ins new (in_map (signal_at place) ins by.0 (in_from ins by.0 by.1))) by.2 (ap place by.3 ∙ h.comes_again c)

  same_due : due_of_signals period new_ins ≡ turn_due (due_of_signals period ins)
  same_due = fun_ext (λ g. fun_ext (λ x. fun_ext (λ y. both_ways _ _ (to_old g (x, y)) (from_old g (x, y)))))

  same_run : (g : ℕ) → driven (due_of_signals period new_ins) (turn p) g ≡ turn (driven (due_of_signals period ins) p g)
  same_run g = ap (λ due. driven due (turn p) g) same_due ∙ h.drives (due_of_signals period ins) p g

  seen : (g : ℕ) (c : ℤ × ℤ) → cell_state (driven (due_of_signals period new_ins) (turn p) g) (place c) ≡ cell_state (driven (due_of_signals period ins) p g) c
  seen g c =
      ap (λ q. cell_state q (place c)) (same_run g)
      ∙ h.plane (driven (due_of_signals period ins) p g) (place c)
      ∙ ap (cell_state (driven (due_of_signals period ins) p g)) (h.goes_back c)

  seen_around : (g : ℕ) (c : ℤ × ℤ) → heads_around (driven (due_of_signals period new_ins) (turn p) g) (place c).0 (place c).1 ≡ heads_around (driven (due_of_signals period ins) p g) c.0 c.1
  seen_around g c =
      ap (λ q. heads_around q (place c).0 (place c).1) (same_run g)
      ∙ h.around (driven (due_of_signals period ins) p g) (place c)
      ∙ ap (λ d. heads_around (driven (due_of_signals period ins) p g) d.0 d.1) (h.goes_back c)

  old_port : (s : Signal) → Contains (new_ins ++ new_outs) s → (r : Signal) × Contains (ins ++ outs) r × (s ≡ signal_at place r)
  old_port s among =
      elim (in_parts new_ins new_outs s (in_from (new_ins ++ new_outs) s among)) [
        | inl i ↦ let r = in_mapped (signal_at place) ins s i in (r.0, contains_from (ins ++ outs) r.0 (in_left ins outs r.0 r.1), r.2)
        | inr o ↦ let r = in_mapped (signal_at place) outs s o in (r.0, contains_from (ins ++ outs) r.0 (in_right ins outs r.0 r.1), r.2)
      ]

  is_drawn : (r : Signal) → Contains (ins ++ outs) r → cell_state (turn p) (place r.cell) ≢ Empty
  is_drawn r among e = run.drawn r among (sym (h.plane p (place r.cell) ∙ ap (cell_state p) (h.goes_back r.cell)) ∙ e)

  shows : (r : Signal) → Contains (ins ++ outs) r → (g : ℕ) → (cell_state (driven (due_of_signals period new_ins) (turn p) g) (place r.cell) ≡ Head) ↔ (is_lit period r g ≡ true)
  shows r among g = subst (λ t. (t ≡ Head) ↔ (is_lit period r g ≡ true)) (sym (seen g r.cell)) (run.shows r among g)

  ready : (r : Signal) → Contains ins r → (g : ℕ) → is_lit period r (suc g) ≡ true → IsReady (driven (due_of_signals period new_ins) (turn p) g) (place r.cell)
  ready r among g lit =
      let is = run.ready r among g lit in
      record { conductor = seen g r.cell ∙ is.conductor; alone = seen_around g r.cell ∙ is.alone }

  carried_also : CarriesSignals period (turn p) new_ins new_outs
  carried_also =
      record {
        drawn = λ s among. (let r = old_port s among in subst (λ s. cell_state (turn p) s.cell ≢ Empty) (sym r.2) (is_drawn r.0 r.1));
        shows = λ s among g. (let r = old_port s among in subst (λ s. (cell_state (driven (due_of_signals period new_ins) (turn p) g) s.cell ≡ Head) ↔ (is_lit period s g ≡ true)) (sym r.2) (shows r.0 r.1 g));
        ready = λ s among g lit. (let r = in_mapped (signal_at place) ins s (in_from new_ins s among) in subst (λ s. IsReady (driven (due_of_signals period new_ins) (turn p) g) s.cell) (sym r.2) (ready r.0 (contains_from ins r.0 r.1) g (ap (λ s. is_lit period s (suc g)) (sym r.2) ∙ lit)));
      }

add_sub : (x a : ℤ) → (x +ℤ a) -ℤ a ≡ x
add_sub x a = omega (arith, ints)

sub_add : (x a : ℤ) → (x -ℤ a) +ℤ a ≡ x
sub_add x a = omega (arith, ints)

sub_sub : (x a : ℤ) → a -ℤ (a -ℤ x) ≡ x
sub_sub x a = omega (arith, ints)

down_moved : (x a : ℤ) → (x -ℤ pos 1) -ℤ a ≡ (x -ℤ a) -ℤ pos 1
down_moved x a = omega (arith, ints)

up_moved : (x a : ℤ) → (x +ℤ pos 1) -ℤ a ≡ (x -ℤ a) +ℤ pos 1
up_moved x a = omega (arith, ints)

down_mirrored : (x a : ℤ) → a -ℤ (x -ℤ pos 1) ≡ (a -ℤ x) +ℤ pos 1
down_mirrored x a = omega (arith, ints)

up_mirrored : (x a : ℤ) → a -ℤ (x +ℤ pos 1) ≡ (a -ℤ x) -ℤ pos 1
up_mirrored x a = omega (arith, ints)

-- the eight cells around a cell in another order: from east to west, from south to north, and by columns
from_east : (a b c d e f g h a' b' c' d' e' f' g' h' : ℕ) → a ≡ c' → b ≡ b' → c ≡ a' → d ≡ e' → e ≡ d' → f ≡ h' → g ≡ g' → h ≡ f' → a + b + c + d + e + f + g + h ≡ a' + b' + c' + d' + e' + f' + g' + h'
from_east a b c d e f g h a' b' c' d' e' f' g' h' p1 p2 p3 p4 p5 p6 p7 p8 = omega arith

from_south : (a b c d e f g h a' b' c' d' e' f' g' h' : ℕ) → a ≡ f' → b ≡ g' → c ≡ h' → d ≡ d' → e ≡ e' → f ≡ a' → g ≡ b' → h ≡ c' → a + b + c + d + e + f + g + h ≡ a' + b' + c' + d' + e' + f' + g' + h'
from_south a b c d e f g h a' b' c' d' e' f' g' h' p1 p2 p3 p4 p5 p6 p7 p8 = omega arith

by_columns : (a b c d e f g h : ℕ) → a + b + c + d + e + f + g + h ≡ a + d + f + b + g + c + e + h
by_columns a b c d e f g h = omega arith

moved_around : (a b : ℤ) (p : Plane) (x y : ℤ) → heads_around (moved a b p) x y ≡ heads_around p (x -ℤ a) (y -ℤ b)
moved_around a b p x y =
    let at = λ (u v : ℤ) (e : u ≡ v) (s t : ℤ) (f : s ≡ t). ap₂ (λ u s. count_head (p u s)) e f in
    sum_same _ _ _ _ _ _ _ _ _ _ _ _ _ _ _ _ (at _ _ (down_moved x a) _ _ (down_moved y b)) (at _ _ refl _ _ (down_moved y b)) (at _ _ (up_moved x a) _ _ (down_moved y b)) (at _ _ (down_moved x a) _ _ refl) (at _ _ (up_moved x a) _ _ refl) (at _ _ (down_moved x a) _ _ (up_moved y b)) (at _ _ refl _ _ (up_moved y b)) (at _ _ (up_moved x a) _ _ (up_moved y b))

mirrored_around : (a : ℤ) (p : Plane) (x y : ℤ) → heads_around (mirrored a p) x y ≡ heads_around p (a -ℤ x) y
mirrored_around a p x y =
    let at = λ (u v : ℤ) (e : u ≡ v) (z : ℤ). ap (λ u. count_head (p u z)) e in
    from_east _ _ _ _ _ _ _ _ _ _ _ _ _ _ _ _ (at _ _ (down_mirrored x a) (y -ℤ pos 1)) refl (at _ _ (up_mirrored x a) (y -ℤ pos 1)) (at _ _ (down_mirrored x a) y) (at _ _ (up_mirrored x a) y) (at _ _ (down_mirrored x a) (y +ℤ pos 1)) refl (at _ _ (up_mirrored x a) (y +ℤ pos 1))

upside_down_around : (b : ℤ) (p : Plane) (x y : ℤ) → heads_around (upside_down b p) x y ≡ heads_around p x (b -ℤ y)
upside_down_around b p x y =
    let at = λ (u v : ℤ) (e : u ≡ v) (z : ℤ). ap (λ u. count_head (p z u)) e in
    let up = at _ _ (down_mirrored y b) in
    let down = at _ _ (up_mirrored y b) in
    from_south _ _ _ _ _ _ _ _ _ _ _ _ _ _ _ _ (up (x -ℤ pos 1)) (up x) (up (x +ℤ pos 1)) refl refl (down (x -ℤ pos 1)) (down x) (down (x +ℤ pos 1))

turned_around : (p : Plane) (x y : ℤ) → heads_around (turned p) x y ≡ heads_around p y x
turned_around p x y =
    let at = λ (u v : ℤ). count_head (p v u) in
    by_columns (at (x -ℤ pos 1) (y -ℤ pos 1)) (at x (y -ℤ pos 1)) (at (x +ℤ pos 1) (y -ℤ pos 1)) (at (x -ℤ pos 1) y) (at (x +ℤ pos 1) y) (at (x -ℤ pos 1) (y +ℤ pos 1)) (at x (y +ℤ pos 1)) (at (x +ℤ pos 1) (y +ℤ pos 1))

is_moved : (a b : ℤ) → IsMove (λ c. (c.0 +ℤ a, c.1 +ℤ b)) (λ c. (c.0 -ℤ a, c.1 -ℤ b)) (moved a b) (due_moved a b)
is_moved a b =
    record {
      goes_back = λ c. same_cell ((c.0 +ℤ a) -ℤ a, (c.1 +ℤ b) -ℤ b) c (add_sub c.0 a) (add_sub c.1 b);
      comes_again = λ c. same_cell ((c.0 -ℤ a) +ℤ a, (c.1 -ℤ b) +ℤ b) c (sub_add c.0 a) (sub_add c.1 b);
      plane = λ p c. refl;
      dues = λ due g c. refl;
      around = λ p c. moved_around a b p c.0 c.1;
      drives = drives_anywhere.moves a b;
    }

is_mirrored : (a : ℤ) → IsMove (λ c. (a -ℤ c.0, c.1)) (λ c. (a -ℤ c.0, c.1)) (mirrored a) (due_mirrored a)
is_mirrored a =
    record {
      goes_back = λ c. same_cell (a -ℤ (a -ℤ c.0), c.1) c (sub_sub c.0 a) refl;
      comes_again = λ c. same_cell (a -ℤ (a -ℤ c.0), c.1) c (sub_sub c.0 a) refl;
      plane = λ p c. refl;
      dues = λ due g c. refl;
      around = λ p c. mirrored_around a p c.0 c.1;
      drives = drives_anywhere.mirrors a;
    }

is_upside_down : (b : ℤ) → IsMove (λ c. (c.0, b -ℤ c.1)) (λ c. (c.0, b -ℤ c.1)) (upside_down b) (due_upside_down b)
is_upside_down b =
    record {
      goes_back = λ c. same_cell (c.0, b -ℤ (b -ℤ c.1)) c refl (sub_sub c.1 b);
      comes_again = λ c. same_cell (c.0, b -ℤ (b -ℤ c.1)) c refl (sub_sub c.1 b);
      plane = λ p c. refl;
      dues = λ due g c. refl;
      around = λ p c. upside_down_around b p c.0 c.1;
      drives = drives_anywhere.mirrors_down b;
    }

is_turned : IsMove (λ c. (c.1, c.0)) (λ c. (c.1, c.0)) turned due_turned
is_turned =
    record {
      goes_back = λ c. refl;
      comes_again = λ c. refl;
      plane = λ p c. refl;
      dues = λ due g c. refl;
      around = λ p c. turned_around p c.0 c.1;
      drives = drives_turned_too.turns;
    }

pub carries_anywhere : (p : Plane) → CarriesAnywhere p
carries_anywhere p =
    record {
      moves = λ a b period ins outs run. carried_also (λ c. (c.0 +ℤ a, c.1 +ℤ b)) (λ c. (c.0 -ℤ a, c.1 -ℤ b)) (moved a b) (due_moved a b) (is_moved a b) p period ins outs run;
      mirrors = λ a period ins outs run. carried_also (λ c. (a -ℤ c.0, c.1)) (λ c. (a -ℤ c.0, c.1)) (mirrored a) (due_mirrored a) (is_mirrored a) p period ins outs run;
      mirrors_down = λ b period ins outs run. carried_also (λ c. (c.0, b -ℤ c.1)) (λ c. (c.0, b -ℤ c.1)) (upside_down b) (due_upside_down b) (is_upside_down b) p period ins outs run;
      turns = λ period ins outs run. carried_also (λ c. (c.1, c.0)) (λ c. (c.1, c.0)) turned due_turned is_turned p period ins outs run;
    }

ports_moved : (place : ℤ × ℤ → ℤ × ℤ) (ports : List Port) (bits : ℕ → ℕ → Bool) → signals_at (map (moved_port place) ports) bits ≡ map (signal_at place) (signals_at ports bits)
ports_moved place [] bits = refl
ports_moved place (port ∷ ports) bits =
    ap (λ rest. signal_of (moved_port place port) (λ t. bits t 0) ∷ rest) (ports_moved place ports (λ t i. bits t (suc i)))

part_also : (place : ℤ × ℤ → ℤ × ℤ) (p q : Plane) → CarriesAlso place p q → IsPartAlso place p q
part_also place p q also period ins outs meaning part bits =
    subst (λ signals. CarriesSignals period q signals (signals_at (map (moved_port place) outs) (meaning bits))) (sym (ports_moved place ins bits)) (subst (CarriesSignals period q (map (signal_at place) (signals_at ins bits))) (sym (ports_moved place outs (meaning bits))) (also period (signals_at ins bits) (signals_at outs (meaning bits)) (part bits)))

pub parts_move : (p : Plane) → PartsMove p
parts_move p =
    let carries = carries_anywhere p in
    record {
      moves = λ a b. part_also (λ cell. (cell.0 +ℤ a, cell.1 +ℤ b)) p (moved a b p) (carries.moves a b);
      mirrors = λ a. part_also (λ cell. (a -ℤ cell.0, cell.1)) p (mirrored a p) (carries.mirrors a);
      mirrors_down = λ b. part_also (λ cell. (cell.0, b -ℤ cell.1)) p (upside_down b p) (carries.mirrors_down b);
      turns = part_also (λ cell. (cell.1, cell.0)) p (turned p) carries.turns;
    }
