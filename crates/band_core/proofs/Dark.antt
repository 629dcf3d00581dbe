-- A plane without a lit cell stays as it is until an injection is due.
use Rattle.std.proofs.Common.{ℤ, pos, negsuc, ◌+ℤ◌, ◌-ℤ◌, ℕ, zero, suc, ◌+◌, ◌<◌, ◌≤◌, ◌≡◌, refl, sym, ap, ◌∙◌, inl, inr, Bool, false, ◌&&◌, cond, nat_lt, List, [], ◌∷◌, take, arith}
use Rattle.std.specs.Prelude.{◌≢◌}
use Rattle.std.proofs.Math.Path.{fun_ext}
use Rattle.std.proofs.Math.Bool.{and-false}
use Rattle.std.proofs.lemmas.Bool.{cases_lt, le-ltb, ne_eqb}
use Rattle.ww_rule.specs.declared.pattern.State.{State}
use Rattle.ww_rule.specs.declared.pattern.State.TheVariants.{Empty, Head, Tail, Conductor}
use Rattle.ww_rule.specs.declared.pattern.Injection.{Injection}
use Rattle.ww_rule.specs.Wireworld.{Plane, Due, heads_around, next_state, next_plane, injected}
use Rattle.ww_rule.specs.Grid.{in_box}
use Rattle.ww_rule.specs.Injections.{due_of_list, has_cell}
use Rattle.ww_rule.specs.Due.{AreInOrderFrom, AreLeftAt, due_count}
use Rattle.ww_rule.proofs.Cells.{not_counted}
use Rattle.ww_rule.proofs.Due.{front_cells, from_earlier}
use Rattle.band_core.specs.Band.{IsEvolution}

-- no head and no tail
abbrev pub IsDark : Plane → Type 0
IsDark p = (x y : ℤ) → (p x y ≢ Head) × (p x y ≢ Tail)

stays : (s : State) (n : ℕ) → s ≢ Head → s ≢ Tail → n ≡ 0 → next_state s n ≡ s
stays Empty n no_head no_tail e = refl
stays Head n no_head no_tail e = absurd (no_head refl)
stays Tail n no_head no_tail e = absurd (no_tail refl)
stays Conductor n no_head no_tail e = ap (next_state Conductor) e

dark_around : (p : Plane) (x y : ℤ) → IsDark p → heads_around p x y ≡ 0
dark_around p x y dark =
    let none = λ (u v : ℤ). not_counted (p u v) (dark u v).0 in
    let a = none (x -ℤ pos 1) (y -ℤ pos 1) in
    let b = none x (y -ℤ pos 1) in
    let c = none (x +ℤ pos 1) (y -ℤ pos 1) in
    let d = none (x -ℤ pos 1) y in
    let e = none (x +ℤ pos 1) y in
    let f = none (x -ℤ pos 1) (y +ℤ pos 1) in
    let g = none x (y +ℤ pos 1) in
    let h = none (x +ℤ pos 1) (y +ℤ pos 1) in
    omega (arith, a, b, c, d, e, f, g, h)

dark_stays : (p : Plane) → IsDark p → next_plane p ≡ p
dark_stays p dark = fun_ext (λ x. fun_ext (λ y. stays (p x y) (heads_around p x y) (dark x y).0 (dark x y).1 (dark_around p x y dark)))

-- below the rows there is nothing
pub below : (width rows x y : ℕ) → rows ≤ y → in_box width rows (pos x) (pos y) ≡ false
below width rows x y le = ap (λ (t : Bool). nat_lt x width && t) (le-ltb y rows le) ∙ and-false (nat_lt x width)

module _ (e : ℕ → Plane) (due : Due) (width rows g : ℕ) (evo : IsEvolution e due width rows) (dark : IsDark (e g)) where
  -- the plane stays once more, if none is due in the rows
  stays_once : (k : ℕ) → e (g + k) ≡ e g → ((x y : ℕ) → y < rows → due (g + k + 1) (pos x) (pos y) ≡ false) → (x y : ℤ) → e (g + suc k) x y ≡ e g x y
  stays_once k before none x y = go x y
    where
      next : e (g + suc k) ≡ injected (due (g + k + 1)) (e g)
      next =
          ap e (let q : g + suc k ≡ g + k + 1 = omega arith in q)
          ∙ evo.next (g + k)
          ∙ ap (λ p. injected (due (g + k + 1)) (next_plane p)) before
          ∙ ap (injected (due (g + k + 1))) (dark_stays (e g) dark)

      outside : (x y : ℤ) → in_box width rows x y ≡ false → e (g + suc k) x y ≡ e g x y
      outside x y out = evo.empty (g + suc k) x y out ∙ sym (evo.empty g x y out)

      go : (x y : ℤ) → e (g + suc k) x y ≡ e g x y
      go (pos x) (pos y) =
          elim (cases_lt y rows) [
            | inl lt ↦ ap (λ p. p (pos x) (pos y)) next ∙ ap (λ (t : Bool). cond t Head (e g (pos x) (pos y))) (none x y lt)
            | inr ge ↦ outside (pos x) (pos y) (below width rows x y ge)
          ]
      go (pos x) (negsuc y) = outside (pos x) (negsuc y) refl
      go (negsuc x) y = outside (negsuc x) y refl

  -- and for n generations
  pub stays_dark : (n : ℕ) → ((h x y : ℕ) → g < h → h ≤ g + n → y < rows → due h (pos x) (pos y) ≡ false) → (k : ℕ) → k ≤ n → e (g + k) ≡ e g
  stays_dark n none zero le = ap e (let q : g + 0 ≡ g = omega arith in q)
  stays_dark n none (suc k) le =
      fun_ext (λ x. fun_ext (λ y. stays_once k (stays_dark n none k (omega (arith, le))) (λ u v lt. none (g + k + 1) u v (omega arith) (omega (arith, le)) lt) x y))

none_first : (g : ℕ) (left : List Injection) → AreInOrderFrom (g + 1) left → due_count g left ≡ 0
none_first g [] order = refl
none_first g (i ∷ later) order =
    let first = order.0 in
    ap (λ (t : Bool). cond t (1 + due_count g later) 0) (ne_eqb i.generation g (λ e. omega (arith, e, first)))

-- if those that are left are due later, none is due
pub none_due : (g h : ℕ) (own left : List Injection) → AreLeftAt (g + 1) own left → AreInOrderFrom (h + 1) left → g < h → (x y : ℤ) → due_of_list own h x y ≡ false
none_due g h own left are order lt x y =
    let at : AreLeftAt h own left = record {
      used = are.used;
      parts = are.parts;
      earlier = λ j d l. let i = are.earlier j d l in omega (arith, i, lt);
      in_order = from_earlier h (h + 1) left (omega arith) order;
    } in
    let front : [] ≡ take _ left = sym (ap (λ n. take n left) (none_first h left order)) in
    sym (ap (λ cells. has_cell cells x y) (front_cells h own left at [] front))
