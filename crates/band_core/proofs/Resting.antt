-- A band in which nothing can change shows the next plane as it is.
use Rattle.ww_rule.specs.Due.{AreLeftAt}
use Rattle.std.proofs.Common.{ℤ, pos, negsuc, ◌+ℤ◌, ◌-ℤ◌, ℕ, zero, suc, ◌+◌, ◌-◌, ◌<◌, ◌≡◌, refl, sym, ap, subst, ◌∙◌, inl, inr, Bool, true, false, cond, List, length, drop, arith}
use Rattle.std.specs.Prelude.{◌≢◌}
use Rattle.std.proofs.lemmas.Int.{ints}
use Rattle.std.proofs.lemmas.Bool.{cases_lt}
use Rattle.ww_rule.specs.declared.pattern.State.{State}
use Rattle.ww_rule.specs.declared.pattern.State.TheVariants.{Empty, Head, Tail, Conductor}
use Rattle.ww_rule.specs.Wireworld.{Plane, Due, count_head, heads_around, next_plane, next_state}
use Rattle.ww_rule.specs.Grid.{in_box}
use Rattle.lane_kernel.specs.Rows.{is_set, state_of}
use Rattle.lane_kernel.proofs.Counting.{count_is}
use Rattle.band_rows.specs.declared.field.Field.{Field}
use Rattle.band_rows.specs.Fields.{IsClosedField, ShowsField, TailsShow, field_heads, field_tails}
use Rattle.lane_kernel.specs.PlaneRows.{ShowsHeads}
use Rattle.band_core.specs.declared.band.Band.{Band}
use Rattle.band_core.specs.Band.{AreUnlit, AreDueIn, AreInRows, HasNoneDue, IsBand, IsEvolution, IsQuiet, ShowsBand}
use Rattle.band_core.proofs.BandFields.{cell_set, dark_state}
use Rattle.ww_rule.proofs.Due.{left_after}

pub rests : (columns y many : ℕ) (band next : Band) → next.field ≡ band.field → next.injections ≡ band.injections → next.done ≡ band.done → IsBand columns y many band → IsBand columns y many next
rests columns y many band next ef ei ed is =
    let done = is.done in
    let li = ap (λ v. length v.items) ei in
    record {
      closed = subst IsClosedField (sym ef) is.closed;
      wide = ap (λ (field : Field). field.columns) ef ∙ is.wide;
      high = ap (λ (field : Field). field.rows) ef ∙ is.high;
      some = is.some;
      inside = subst (λ v. AreInRows columns y many v.items) (sym ei) is.inside;
      done = omega (arith, done, li, ed);
    }

-- the tails of a dark field show a plane that has no heads there
pub nothing_shown : (field : Field) (p : Plane) (y : ℤ) → ((k x : ℕ) → k < field.rows → is_set (field_tails field (k + 1)) x ≡ false) → ((x k : ℕ) → k < field.rows → count_head (p (pos x) (y +ℤ pos k)) ≡ 0) → TailsShow field p y
nothing_shown field p y none dark k lt x = ap (λ h. count_head (state_of h false false)) (none k x lt) ∙ sym (dark x k lt)

-- a cell that is no head and stays as it is has no tail
no_tail_stays : (h t w : Bool) (n : ℕ) → count_head (state_of h t w) ≡ 0 → next_state (state_of h t w) n ≡ state_of h t w → t ≡ false
no_tail_stays true t w n c e = absurd (omega (arith, c))
no_tail_stays false true w n c e = absurd (tail_moves n e)
  where
    tail_moves : (n : ℕ) → next_state Tail n ≡ Tail → ⊥
    tail_moves n e = cc
no_tail_stays false false w n c e = refl

quiet_tails : (e : ℕ → Plane) (due : Due) (g y : ℕ) (field : Field) → ShowsField field (e g) (pos y) → IsQuiet e due g y field.rows → (k x : ℕ) → k < field.rows → is_set (field_tails field (k + 1)) x ≡ false
quiet_tails e due g y field shows quiet k x lt =
    let z = pos y +ℤ pos k in
    let here = sym (shows k x lt) in
    no_tail_stays (is_set (field_heads field (k + 1)) x) (is_set (field_tails field (k + 1)) x) (cell_set field x k) (heads_around (e g) (pos x) z)
    (sym (ap count_head here) ∙ quiet.dark x k lt)
    (sym (ap (λ s. next_state s (heads_around (e g) (pos x) z)) here) ∙ quiet.still x k lt ∙ here)

pub rest_shows : (e : ℕ → Plane) (due : Due) (width height columns y many : ℕ) (band next : Band) → IsEvolution e due width height → IsBand columns y many band → ShowsBand e due y many band → IsQuiet e due band.generation y many → HasNoneDue band → next.generation ≡ band.generation + 1 → next.field ≡ band.field → next.injections ≡ band.injections → next.done ≡ band.done → ShowsBand e due y many next
rest_shows e due width height columns y many band next evo is shows quiet none eg ef ei ed =
    let g = band.generation in
    let field = band.field in
    let high = is.high in
    let calm : IsQuiet e due g y field.rows = subst (IsQuiet e due g y) (sym high) quiet in
    let stay : ShowsField field (e (g + 1)) (pos y) = λ k x lt.
    let z = pos y +ℤ pos k in
    shows.cells k x lt
    ∙ sym (calm.still x k lt)
    ∙ sym (ap (λ t. cond t Head (next_plane (e g) (pos x) z)) (calm.none x k lt))
    ∙ sym (ap (λ p. p (pos x) z) (evo.next g)) in
    let own = band.injections.items in
    let left = drop band.done own in
    let after : AreLeftAt (g + 1 + 1) own left = left_after (g + 1) own left shows.left left (sym (ap (λ n. drop n left) none)) in
    record {
      cells = subst (λ field. ShowsField field (e next.generation) (pos y)) (sym ef) (subst (λ g. ShowsField field (e g) (pos y)) (sym eg) stay);
      before = λ h q.
          let r : g ≡ h = omega (arith, q, eg) in
          subst (λ field. TailsShow field (e h) (pos y)) (sym ef)
          (subst (λ g. TailsShow field (e g) (pos y)) r (nothing_shown field (e g) (pos y) (quiet_tails e due g y field shows.cells calm) calm.dark));
      own = subst (λ v. AreDueIn v.items due y many) (sym ei) shows.own;
      left = subst (λ v. AreLeftAt (next.generation + 1) v.items (drop next.done v.items)) (sym ei)
          (subst (λ d. AreLeftAt (next.generation + 1) own (drop d own)) (sym ed) (subst (λ g. AreLeftAt (g + 1) own left) (sym eg) after));
    }

-- ---- rows without a bit

settled : (s : State) → count_head s ≡ 0 → s ≢ Tail → (n : ℕ) → n ≡ 0 → next_state s n ≡ s
settled Empty c t n e = refl
settled Head c t n e = absurd (omega (arith, c))
settled Tail c t n e = absurd (t refl)
settled Conductor c t n e = ap (λ n. next_state Conductor n) e

-- a row of a plane that has no head
abbrev HasNoHead : Plane → ℤ → Type 0
HasNoHead p z = (u : ℤ) → count_head (p u z) ≡ 0

alone : (p : Plane) (x z : ℤ) → HasNoHead p (z -ℤ pos 1) → HasNoHead p z → HasNoHead p (z +ℤ pos 1) → heads_around p x z ≡ 0
alone p x z a h b =
    let w = x -ℤ pos 1 in
    let e = x +ℤ pos 1 in
    let p1 = a w in
    let p2 = a x in
    let p3 = a e in
    let p4 = h w in
    let p5 = h e in
    let p6 = b w in
    let p7 = b x in
    let p8 = b e in
    omega (arith, p1, p2, p3, p4, p5, p6, p7, p8)

headless : (p : Plane) (z : ℤ) → ((x : ℕ) → p (negsuc x) z ≡ Empty) → ((x : ℕ) → count_head (p (pos x) z) ≡ 0) → HasNoHead p z
headless p z west none (pos x) = none x
headless p z west none (negsuc x) = ap count_head (west x)

unlit : (w : Bool) → (state_of false false w ≡ Tail → ⊥)
unlit true e = cc
unlit false e = cc

pub is_quiet : (e : ℕ → Plane) (due : Due) (width height columns y many : ℕ) (band : Band) (up down : List ℕ) → IsEvolution e due width height → IsBand columns y many band → ShowsBand e due y many band → ShowsHeads up (e band.generation) (pos y -ℤ pos 1) → ShowsHeads down (e band.generation) (pos y +ℤ pos many) → AreUnlit band.field y up down → ((x k : ℕ) → k < many → due (band.generation + 1) (pos x) (pos y +ℤ pos k) ≡ false) → IsQuiet e due band.generation y many
is_quiet e due width height columns y many band up down evo is shows above below dark none =
    let g = band.generation in
    let p = e g in
    let field = band.field in
    let high = is.high in
    let state : (x k : ℕ) → k < many → p (pos x) (pos y +ℤ pos k) ≡ state_of false false (cell_set field x k) = λ x k lt.
    let l : k < field.rows = omega (arith, lt, high) in
    sym (shows.cells k x l) ∙ dark_state field x k l dark.cells in
    let heads : (x k : ℕ) → k < many → count_head (p (pos x) (pos y +ℤ pos k)) ≡ 0 = λ x k lt. ap count_head (state x k lt) ∙ count_is false false (cell_set field x k) in
    let over : (x : ℕ) → count_head (p (pos x) (pos y -ℤ pos 1)) ≡ 0 = λ x. upper y refl p x above dark.above (λ z. evo.empty g (pos x) z) in
    let under : (x : ℕ) → count_head (p (pos x) (pos y +ℤ pos many)) ≡ 0 = λ x. sym (below x) ∙ ap (λ h. count_head (state_of h false false)) (dark.below x) in
    let west = λ (z : ℤ) (x : ℕ). evo.empty g (negsuc x) z refl in
    let row : (k : ℕ) → k < many → HasNoHead p (pos y +ℤ pos k) = λ k lt. headless p (pos y +ℤ pos k) (west (pos y +ℤ pos k)) (λ x. heads x k lt) in
    let row_over = headless p (pos y -ℤ pos 1) (west (pos y -ℤ pos 1)) over in
    let row_under = headless p (pos y +ℤ pos many) (west (pos y +ℤ pos many)) under in
    record {
      still = λ x k lt.
          let z = pos y +ℤ pos k in
          let before : HasNoHead p (z -ℤ pos 1) =
          elim (cases_lt 0 k) [
            | inl l ↦ let q : pos y +ℤ pos (k - 1) ≡ z -ℤ pos 1 = omega (arith, ints, l) in subst (HasNoHead p) q (row (k - 1) (omega (arith, lt)))
            | inr ge ↦ let q : pos y -ℤ pos 1 ≡ z -ℤ pos 1 = omega (arith, ints, ge) in subst (HasNoHead p) q row_over
          ] in
          let after : HasNoHead p (z +ℤ pos 1) =
          elim (cases_lt (k + 1) many) [
            | inl l ↦ let q : pos y +ℤ pos (k + 1) ≡ z +ℤ pos 1 = omega (arith, ints) in subst (HasNoHead p) q (row (k + 1) l)
            | inr ge ↦ let q : pos y +ℤ pos many ≡ z +ℤ pos 1 = omega (arith, ints, ge, lt) in subst (HasNoHead p) q row_under
          ] in
          settled (p (pos x) z) (heads x k lt) (λ q. unlit (cell_set field x k) (sym (state x k lt) ∙ q)) (heads_around p (pos x) z) (alone p (pos x) z before (row k lt) after);
      dark = heads;
      above = over;
      below = under;
      none = none;
    }
  where
    upper : (n : ℕ) → y ≡ n → (p : Plane) (x : ℕ) → ShowsHeads up p (pos y -ℤ pos 1) → ((x : ℕ) → 0 < y → is_set up x ≡ false) → ((z : ℤ) → in_box width height (pos x) z ≡ false → p (pos x) z ≡ Empty) → count_head (p (pos x) (pos y -ℤ pos 1)) ≡ 0
    upper zero q p x shown none out =
        let z : negsuc 0 ≡ pos y -ℤ pos 1 = omega (arith, ints, q) in
        subst (λ z. count_head (p (pos x) z) ≡ 0) z (ap count_head (out (negsuc 0) refl))
    upper (suc n) q p x shown none out = sym (shown x) ∙ ap (λ h. count_head (state_of h false false)) (none x (omega (arith, q)))
