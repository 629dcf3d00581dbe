-- Cells that keep a band awake, as callers see them.
use Rattle.std.proofs.Common.{pos, ◌+ℤ◌, ◌-ℤ◌, ℕ, ◌+◌, ◌-◌, ◌*◌, min, ◌<◌, ◌≤◌, ◌≡◌, sym, ap, subst, ◌∙◌, inl, inr, true, false, ◌&&◌, nat_lt, length, arith}
use Rattle.std.specs.Prelude.{◌≢◌}
use Rattle.std.proofs.lemmas.Bool.{cases_lt, le-ltb, true≢false}
use Rattle.std.proofs.lemmas.Int.{ints}
use Rattle.std.proofs.Math.Bool.{and-false}
use Rattle.ww_rule.specs.declared.pattern.State.{State}
use Rattle.ww_rule.specs.declared.pattern.State.TheVariants.{Empty, Head, Tail, Conductor}
use Rattle.ww_rule.specs.Wireworld.{Plane, Due, count_head, heads_around, next_plane, next_state, driven}
use Rattle.ww_rule.specs.Grid.{IsGrid, in_box, plane_of}
use Rattle.ww_rule.specs.Injections.{due_of_list, AreInside}
use Rattle.band_core.specs.Bands.{BandedPattern, IsAwake, IsCellOf, generation_of}
use Rattle.band_core.specs.Bands.IsAwake.{head, tail, faced, due}
use Rattle.band_core.specs.Band.{IsQuiet, IsWaking}
use Rattle.band_core.specs.Band.IsWaking.{head as w_head, tail as w_tail, above as w_above, below as w_below, due as w_due}
use Rattle.band_core.proofs.Evolution.{evolution, due_outside}

module _ (p : BandedPattern) (grid : IsGrid p.grid.width p.grid.height p.grid.rows) (inside : AreInside p.grid.width p.grid.height p.injections) (b : ℕ) where
  abbrev test : Due
  test = due_of_list p.injections

  abbrev plane : ℕ → Plane
  plane = driven test (plane_of p.grid.rows)

  abbrev g : ℕ
  g = generation_of p b

  abbrev y : ℕ
  y = b * p.height

  abbrev many : ℕ
  many = min p.height (length p.grid.rows - b * p.height)

  -- what is not empty lies in the box
  out : (x z : ℕ) → p.grid.width ≤ x → in_box p.grid.width (length p.grid.rows) (pos x) (pos z) ≡ false
  out x z le = ap (λ t. t && nat_lt z (length p.grid.rows)) (le-ltb x p.grid.width le)

  below_and : (x z : ℕ) → length p.grid.rows ≤ z → in_box p.grid.width (length p.grid.rows) (pos x) (pos z) ≡ false
  below_and x z le = ap (λ t. nat_lt x p.grid.width && t) (le-ltb z (length p.grid.rows) le) ∙ and-false (nat_lt x p.grid.width)

  pub lit_column : (x z : ℕ) (s : State) → s ≢ Empty → plane g (pos x) (pos z) ≡ s → x < p.grid.width
  lit_column x z s ne e =
      elim (cases_lt x p.grid.width) [
        | inl lt ↦ lt
        | inr ge ↦ absurd (ne (sym e ∙ (evolution p.grid.width p.grid.height p.grid.rows p.injections grid inside).empty g (pos x) (pos z) (out x z ge)))
      ]

  lit_row : (x z : ℕ) (s : State) → s ≢ Empty → plane g (pos x) (pos z) ≡ s → z < length p.grid.rows
  lit_row x z s ne e =
      elim (cases_lt z (length p.grid.rows)) [
        | inl lt ↦ lt
        | inr ge ↦ absurd (ne (sym e ∙ (evolution p.grid.width p.grid.height p.grid.rows p.injections grid inside).empty g (pos x) (pos z) (below_and x z ge)))
      ]

  due_column : (x z : ℕ) → test (g + 1) (pos x) (pos z) ≡ true → x < p.grid.width
  due_column x z e =
      elim (cases_lt x p.grid.width) [
        | inl lt ↦ lt
        | inr ge ↦ absurd (true≢false (sym e ∙ due_outside p.grid.width p.grid.height p.grid.rows p.injections grid inside (g + 1) (pos x) (pos z) (out x z ge)))
      ]

  head_ne : Head ≢ Empty
  head_ne e = cc

  tail_ne : Tail ≢ Empty
  tail_ne e = cc

  cell_of : (x z : ℕ) → x < p.grid.width → y ≤ z → z < y + many → IsCellOf p b x z
  cell_of x z column from to = record { column = column; from = from; below = omega (arith, to); within = omega (arith, to, from) }

  pub is_awake : (x z : ℕ) → IsWaking plane test g y many x z → IsAwake p b x z
  is_awake x z (w_head from to e) = head (cell_of x z (lit_column x z Head head_ne e) from to) e
  is_awake x z (w_tail from to e) = tail (cell_of x z (lit_column x z Tail tail_ne e) from to) e
  is_awake x z (w_above q e) = faced (record { column = lit_column x z Head head_ne e; beside = inl q; within = lit_row x z Head head_ne e }) e
  is_awake x z (w_below q e) =
      let row = lit_row x z Head head_ne e in
      faced (record { column = lit_column x z Head head_ne e; beside = inr (omega (arith, q, row)); within = row }) e
  is_awake x z (w_due from to e) = due (cell_of x z (due_column x z e) from to) e

  head_counts : (s : State) → s ≡ Head → count_head s ≡ 0 → ⊥
  head_counts Empty e c = cc
  head_counts Head e c = omega (arith, c)
  head_counts Tail e c = cc
  head_counts Conductor e c = cc

  tail_moves : (s : State) (n : ℕ) → s ≡ Tail → next_state s n ≡ s → ⊥
  tail_moves Empty n e c = cc
  tail_moves Head n e c = cc
  tail_moves Tail n e c = cc
  tail_moves Conductor n e c = cc

  pub never_awake : 0 < many → IsQuiet plane test g y many → (x z : ℕ) → IsAwake p b x z → ⊥
  never_awake some quiet x z (head cell e) =
      let from = cell.from in
      let below = cell.below in
      let within = cell.within in
      let place : pos y +ℤ pos (z - y) ≡ pos z = omega (arith, ints, from) in
      head_counts (plane g (pos x) (pos z)) e (subst (λ z. count_head (plane g (pos x) z) ≡ 0) place (quiet.dark x (z - y) (omega (arith, from, below, within))))
  never_awake some quiet x z (tail cell e) =
      let from = cell.from in
      let below = cell.below in
      let within = cell.within in
      let place : pos y +ℤ pos (z - y) ≡ pos z = omega (arith, ints, from) in
      tail_moves (plane g (pos x) (pos z)) (heads_around (plane g) (pos x) (pos z)) e (subst (λ z. next_plane (plane g) (pos x) z ≡ plane g (pos x) z) place (quiet.still x (z - y) (omega (arith, from, below, within))))
  never_awake some quiet x z (faced facing e) =
      let within = facing.within in
      elim facing.beside [
        | inl q ↦ let place : pos y -ℤ pos 1 ≡ pos z = omega (arith, ints, q) in head_counts (plane g (pos x) (pos z)) e (subst (λ z. count_head (plane g (pos x) z) ≡ 0) place (quiet.above x))
        | inr q ↦ let place : pos y +ℤ pos many ≡ pos z = omega (arith, ints, q, within) in head_counts (plane g (pos x) (pos z)) e (subst (λ z. count_head (plane g (pos x) z) ≡ 0) place (quiet.below x))
      ]
  never_awake some quiet x z (due cell e) =
      let from = cell.from in
      let below = cell.below in
      let within = cell.within in
      let place : pos y +ℤ pos (z - y) ≡ pos z = omega (arith, ints, from) in
      true≢false (sym e ∙ subst (λ z. test (g + 1) (pos x) z ≡ false) place (quiet.none x (z - y) (omega (arith, from, below, within))))
