-- Cells that keep a band awake.
use Rattle.std.proofs.Common.{pos, ◌+ℤ◌, ◌-ℤ◌, ℕ, ◌+◌, ◌-◌, ◌/◌, ◌<◌, ◌≤◌, ◌≡◌, refl, sym, ap, subst, ◌∙◌, inl, inr, true, false, List, [], ◌∷◌, ◌++◌, length, take, drop, arith}
use Rattle.std.specs.Prelude.{◌⊎◌}
use Rattle.std.proofs.lemmas.Int.{ints}
use Rattle.std.proofs.lemmas.List.{take-append-drop}
use Rattle.std.proofs.lemmas.List.Elements.{All-contains, Contains-get_or, Contains-append_right}
use Rattle.std.specs.List.{Contains}
use Rattle.ww_rule.specs.declared.pattern.State.{State}
use Rattle.ww_rule.specs.declared.pattern.State.TheVariants.{Empty, Head, Tail, Conductor}
use Rattle.ww_rule.specs.declared.pattern.Injection.{Injection}
use Rattle.ww_rule.specs.Wireworld.{Plane, Due, count_head}
use Rattle.ww_rule.specs.Injections.{has_cell, due_of_list}
use Rattle.ww_rule.proofs.Lists.{lists_are_injected}
use Rattle.lane_kernel.specs.Rows.{is_set, state_of}
use Rattle.band_rows.specs.Fields.{IsLitInField}
use Rattle.lane_kernel.specs.PlaneRows.{ShowsHeads}
use Rattle.band_core.specs.declared.band.Band.{Band}
use Rattle.band_core.specs.Band.{HasNoneDue, IsBand, IsNextDue, IsWaking, ShowsBand}
use Rattle.band_core.specs.Band.IsWaking.{head, tail, above, below, due}
use Rattle.ww_rule.proofs.Due.{front_cells}

one_is_head : (s : State) → 1 ≡ count_head s → s ≡ Head
one_is_head Empty e = absurd (omega (arith, e))
one_is_head Head e = refl
one_is_head Tail e = absurd (omega (arith, e))
one_is_head Conductor e = absurd (omega (arith, e))

module _ (e : ℕ → Plane) (test : Due) (columns y many : ℕ) (band : Band) (is : IsBand columns y many band) (shows : ShowsBand e test y many band) where
  pub lit_wakes : (x k : ℕ) → IsLitInField band.field x k → IsWaking e test band.generation y many x (y + k)
  lit_wakes x k lit =
      let high = is.high in
      let row = lit.row in
      let place : pos (y + k) ≡ pos y +ℤ pos k = omega (arith, ints) in
      let here = ap (e band.generation (pos x)) place ∙ sym (shows.cells k x row) in
      elim lit.lit [
        | inl h ↦ head (omega arith) (omega (arith, high, row)) (here ∙ h)
        | inr t ↦ tail (omega arith) (omega (arith, high, row)) (here ∙ t)
      ]

  pub faced_wakes : (up down : List ℕ) (x z : ℕ) → ShowsHeads up (e band.generation) (pos y -ℤ pos 1) → ShowsHeads down (e band.generation) (pos y +ℤ pos many) → ((z + 1 ≡ y) × (is_set up x ≡ true)) ⊎ ((z ≡ y + band.field.rows) × (is_set down x ≡ true)) → IsWaking e test band.generation y many x z
  faced_wakes up down x z over under (inl (q, s)) =
      let place : pos y -ℤ pos 1 ≡ pos z = omega (arith, ints, q) in
      above q (ap (e band.generation (pos x)) (sym place) ∙ one_is_head _ (sym (ap (λ h. count_head (state_of h false false)) s) ∙ over x))
  faced_wakes up down x z over under (inr (q, s)) =
      let high = is.high in
      let place : pos y +ℤ pos many ≡ pos z = omega (arith, ints, q, high) in
      below (omega (arith, q, high)) (ap (e band.generation (pos x)) (sym place) ∙ one_is_head _ (sym (ap (λ h. count_head (state_of h false false)) s) ∙ under x))

  pub due_wakes : (x z : ℕ) → IsNextDue band x z → IsWaking e test band.generation y many x z
  due_wakes x z next =
      let own = band.injections.items in
      let i = next.injection in
      let zero_lt : 0 < length (i ∷ next.rest) = omega arith in
      let inner : Contains (take band.done own ++ (i ∷ next.rest)) i = Contains-append_right (take band.done own) (i ∷ next.rest) i (Contains-get_or (i ∷ next.rest) 0 i zero_lt) in
      let parts : take band.done own ++ (i ∷ next.rest) ≡ own = ap (λ l. take band.done own ++ l) (sym next.first) ∙ take-append-drop band.done own in
      let is_in : Contains own i = subst (λ l. Contains l i) parts inner in
      let fits = All-contains (λ (i : Injection). (y ≤ i.y) × (i.y < y + many) × (i.x / 64 < columns)) own i is.inside is_in in
      let from = fits.0 in
      let to = fits.1 in
      let row = next.row in
      let k = z - y in
      let place : pos y +ℤ pos k ≡ pos z = omega (arith, ints, from, row) in
      let told : due_of_list own (band.generation + 1) (pos x) (pos z) ≡ true =
      (lists_are_injected.exactly own (band.generation + 1) (pos x) (pos z)).1 (record { injection = i; is_in = is_in; in_time = next.in_time; column = ap pos next.column; row = ap pos row }) in
      due (omega (arith, from, row)) (omega (arith, to, row))
      (ap (test (band.generation + 1) (pos x)) (sym place) ∙ sym (shows.own (band.generation + 1) x k (omega (arith, from, to, row))) ∙ ap (due_of_list own (band.generation + 1) (pos x)) place ∙ told)

  pub none_wakes : HasNoneDue band → (x k : ℕ) → k < many → test (band.generation + 1) (pos x) (pos y +ℤ pos k) ≡ false
  none_wakes none x k lt =
      let own = band.injections.items in
      let left = drop band.done own in
      let front : [] ≡ take _ left = sym (ap (λ n. take n left) none) in
      sym (shows.own (band.generation + 1) x k lt)
      ∙ sym (ap (λ cells. has_cell cells (pos x) (pos y +ℤ pos k)) (front_cells (band.generation + 1) own left shows.left [] front))
