-- Crossings are gates for each difference of the generations of their inputs.
use Rattle.std.proofs.Common.{ℤ, ℕ, zero, suc, ◌+◌, ◌-◌, ◌*◌, ◌/◌, ◌%◌, ◌<◌, ◌≤◌, ◌≡◌, refl, sym, ap, ap₂, ◌∙◌, subst, inl, inr, Bool, true, false, ◌||◌, ◌&&◌, ◌==◌, cond, int_eq, List, [], ◌∷◌, length, arith}
use Rattle.std.specs.Prelude.{Contains, ◌↔◌, ◌⊎◌, Some, slice_get}
use Rattle.std.specs.Cmp.{both_ways}
use Rattle.std.proofs.lemmas.Bool.{cases_eq, cases_lt, and_parts, and_from, eqb-true, eq-eqb, true≢false, false_from_ne_true}
use Rattle.std.proofs.lemmas.Nat.{div-add-mod'}
use Rattle.std.proofs.lemmas.Option.{get_or_from_slice_get, slice_get_within}
use Rattle.std.proofs.Math.Path.{fun_ext}
use Rattle.lists.specs.Items.{flag_at}
use Rattle.lists.proofs.Members.{In, in_from, contains_from, in_got, got_from}
use Rattle.ww_rule.specs.declared.pattern.State.TheVariants.{Head, Conductor}
use Rattle.ww_rule.specs.Wireworld.{Plane, next_plane, injected}
use Rattle.gate_laws.specs.Signals.{cell_state, IsReady, CarriesSignals}
use Rattle.gate_laws.specs.Wires.{IsNear}
use Rattle.gate_laws.specs.Rows.{Port, signals_at, PartMeaning, IsPart}
use Rattle.gate_laws.specs.PartTimes.{cycles_later, held_back, meaning_later}
use Rattle.gate_laws.proofs.Early.{both_first, both_rest}
use Rattle.gate_laws.proofs.Rows.{same_signals}
use Rattle.gate_laws.proofs.PartTimes.{parts_begin_later}
use Rattle.gate_laws.specs.Gates.{is_lit_input, used, ShowsOnce, IsBesideInput, IsCalmCell, AnswersInTime, IsGateDrawn, gate_answer}
use Rattle.gate_laws.proofs.Calm.{calm_dark, same_head, head_same, calm_next, unlit_late, calm_after, ready_calm}
use Rattle.gate_laws.proofs.Gates.{gates_answer_each_row}
use Rattle.gate_laws.specs.Crossings.{Crossing, alone, is_of_second, KeepsCrossingLaw, spread_outs, spread_answer, spread, SpreadCrossingsAreLawful, CrossingsAnswerEachRow, CrossingsAreGates, CrossingsCopy}

-- of two ways to be lit one alone, if the other's bit is 0
left_only : (X A B : Type 0) (v : Bool) → v ≡ false → X ↔ (A ⊎ (B × (v ≡ true))) → X ↔ A
left_only X A B v dark both = (
  λ x. elim (both.0 x) [ inl a ↦ a | inr b ↦ absurd (true≢false (sym b.1 ∙ dark)) ],
  λ a. both.1 (inl a),
)

right_only : (X A B : Type 0) (u : Bool) → u ≡ false → X ↔ ((A × (u ≡ true)) ⊎ B) → X ↔ B
right_only X A B u dark both = (
  λ x. elim (both.0 x) [ inl a ↦ absurd (true≢false (sym a.1 ∙ dark)) | inr b ↦ b ],
  λ b. both.1 (inr b),
)

record IsSpread (is_second : ℕ → Bool) (d : ℕ) (ports : List Port) (o : ℕ) (port : Port) : Type 0 where
  from : Port
  has : slice_get ports o ≡ Some from
  is : (from.0, cond (is_second o) d 0 + from.1) ≡ port

spread_at : (is_second : ℕ → Bool) (d : ℕ) (ports : List Port) (o : ℕ) (port : Port) → slice_get (spread_outs is_second d ports) o ≡ Some port → IsSpread is_second d ports o port
spread_at is_second d [] o port has = absurd (let low = slice_get_within (spread_outs is_second d []) o port has in omega (arith, low))
spread_at is_second d (x ∷ xs) zero port has =
    record { from = x; has = refl; is = get_or_from_slice_get (spread_outs is_second d (x ∷ xs)) 0 port port has }
spread_at is_second d (x ∷ xs) (suc o) port has =
    let rest = spread_at (λ o. is_second (suc o)) d xs o port has in
    record { from = rest.from; has = rest.has; is = rest.is }

module _ (c : Crossing) (law : KeepsCrossingLaw c) (d : ℕ) (far : c.time ≤ d) where
  long : 3 ≤ c.time
  long = law.drawn.long

  among_first : Contains (alone c).ins (c.first, 0)
  among_first = contains_from (alone c).ins (c.first, 0) (inl refl)

  among_second : Contains (alone c).ins (c.second, 0)
  among_second = contains_from (alone c).ins (c.second, 0) (inr (inl refl))

  -- a port of the gate is one of the two
  data IsOf (port : Port) : Type 0 where
    of_first : port ≡ (c.first, 0) → IsOf port
    of_second : port ≡ (c.second, d) → IsOf port

  is_of : (port : Port) → Contains (spread c d).ins port → IsOf port
  is_of port among = at (in_from (spread c d).ins port among)
    where
      at : In port (spread c d).ins → IsOf port
      at (inl e) = of_first e
      at (inr (inl e)) = of_second e
      at (inr (inr none)) = absurd none

  module _ (p q : Bool) where
    abbrev now : ℕ → Plane
    now g = used (spread c d) (p ∷ q ∷ []) g

    -- the first input alone, and the second
    abbrev one : ℕ → Plane
    one g = used (alone c) (p ∷ false ∷ []) g

    abbrev two : ℕ → Plane
    two g = used (alone c) (false ∷ q ∷ []) g

    abbrev lit : ℕ → ℤ → ℤ → Bool
    lit g = is_lit_input (spread c d).ins (p ∷ q ∷ []) g

    lit_early : (g : ℕ) → g < d → lit g ≡ is_lit_input (alone c).ins (p ∷ false ∷ []) g
    lit_early g low =
        let other : (q && g == d) ≡ false = false_from_ne_true _ (λ t. let same : g ≡ d = eqb-true g d (and_parts q (g == d) t).1 in omega (arith, low, same)) in
        fun_ext (λ x. fun_ext (λ y. ap (λ b. (p && g == 0 && int_eq c.first.0 x && int_eq c.first.1 y) || ((b && int_eq c.second.0 x && int_eq c.second.1 y) || false)) other))

    lit_late : (r g : ℕ) → g ≡ d + r → lit g ≡ is_lit_input (alone c).ins (false ∷ q ∷ []) r
    lit_late r g e =
        let first : (p && g == 0) ≡ false = false_from_ne_true _ (λ t. let same : g ≡ 0 = eqb-true g 0 (and_parts p (g == 0) t).1 in let more = long in omega (arith, e, far, more, same)) in
        let second : (q && g == d) ≡ (q && r == 0) = both_ways _ _
        (λ t. let parts = and_parts q (g == d) t in let same : g ≡ d = eqb-true g d parts.1 in and_from q (r == 0) parts.0 (eq-eqb r 0 (omega (arith, e, same))))
        (λ t. let parts = and_parts q (r == 0) t in let same : r ≡ 0 = eqb-true r 0 parts.1 in and_from q (g == d) parts.0 (eq-eqb g d (omega (arith, e, same)))) in
        fun_ext (λ x. fun_ext (λ y. ap₂ (λ a b. (a && int_eq c.first.0 x && int_eq c.first.1 y) || ((b && int_eq c.second.0 x && int_eq c.second.1 y) || false)) first second))

    -- before the second input is lit only the first is
    early : (g : ℕ) → g < d → now g ≡ one g
    early zero low = ap (λ l. injected l c.plane) (lit_early zero low)
    early (suc g) low = ap₂ injected (lit_early (suc g) low) (ap next_plane (early g (omega (arith, low))))

    calm_one : (g : ℕ) → c.time ≤ g → (x : ℤ × ℤ) → IsCalmCell (alone c) (one g) x
    calm_one g low x = calm_after (alone c) law.drawn (p ∷ false ∷ []) (law.by_first p).calm g low x

    one_more : (n : ℕ) → suc n ≡ d → next_plane (one n) ≡ one d
    one_more n e =
        sym (ap (λ l. injected l (next_plane (one n))) (unlit_late (alone c) law.drawn (p ∷ false ∷ []) (suc n) (omega (arith, e, far)))) ∙ ap one e

    -- then the second is lit in a calm plane
    start : (g : ℕ) → g ≡ d → now g ≡ injected (is_lit_input (alone c).ins (false ∷ q ∷ []) 0) (one d)
    start zero e = let more = long in absurd (omega (arith, e, far, more))
    start (suc n) e =
        ap₂ injected (lit_late 0 (suc n) (omega (arith, e))) (ap next_plane (early n (omega (arith, e))) ∙ one_more n e)

    -- and the plane goes on as with the second alone
    late : (r g : ℕ) → g ≡ d + suc r → now g ≡ two (suc r)
    late r zero e = absurd (omega (arith, e))
    late zero (suc g) e =
        ap₂ injected (lit_late 1 (suc g) e) (ap next_plane (start g (omega (arith, e))) ∙ calm_next (alone c) law.drawn (false ∷ q ∷ []) (one d) (calm_one d far))
    late (suc r) (suc g) e =
        ap₂ injected (lit_late (suc (suc r)) (suc g) e) (ap next_plane (late r g (omega (arith, e))))

    module _ (cell : ℤ × ℤ) (delay : ℕ) (u v : Bool) (soon : delay < c.time) (shows_one : ShowsOnce (alone c) (p ∷ false ∷ []) (cell, delay) u) (shows_two : ShowsOnce (alone c) (false ∷ q ∷ []) (cell, delay) v) where
      abbrev IsLit : ℕ → Type 0
      IsLit g = (cell_state (now g) cell ≡ Head) ↔ (((g ≡ delay) × (u ≡ true)) ⊎ ((g ≡ d + delay) × (v ≡ true)))

      lit_first : (g : ℕ) → g < d → IsLit g
      lit_first g low =
          let is = ap (λ x. cell_state x cell) (early g low) in
          elim (cases_lt g c.time) [
            | inl within ↦ (
              λ head. inl ((shows_one g within).0 (sym is ∙ head)),
              λ s. elim s [ inl at ↦ is ∙ (shows_one g within).1 at | inr at ↦ (let same : g ≡ d + delay = at.0 in absurd (omega (arith, low, same))) ],
            )
            | inr after ↦ (
              λ head. absurd (calm_dark (alone c) law.drawn (one g) cell (calm_one g after cell) (sym is ∙ head)),
              λ s. elim s [ inl at ↦ (let same : g ≡ delay = at.0 in absurd (omega (arith, after, soon, same))) | inr at ↦ (let same : g ≡ d + delay = at.0 in absurd (omega (arith, low, same))) ],
            )
          ]

      lit_then : (r g : ℕ) → g ≡ d + r → r < c.time → IsLit g
      lit_then zero g e low =
          let is = ap (λ x. cell_state x cell) (start g (omega (arith, e))) in (
            λ head. (let at = (shows_two 0 low).0 (same_head (alone c) law.drawn (false ∷ q ∷ []) (one d) (calm_one d far) cell (sym is ∙ head)) in let same : 0 ≡ delay = at.0 in inr (omega (arith, e, same), at.1)),
            λ s. elim s [
              | inl at ↦ (let same : g ≡ delay = at.0 in absurd (omega (arith, e, soon, far, same)))
              | inr at ↦ (let same : g ≡ d + delay = at.0 in is ∙ head_same (alone c) law.drawn (false ∷ q ∷ []) (one d) (calm_one d far) cell ((shows_two 0 low).1 (omega (arith, e, same), at.1)))
            ],
          )
      lit_then (suc r) g e low =
          let is = ap (λ x. cell_state x cell) (late r g e) in (
            λ head. (let at = (shows_two (suc r) low).0 (sym is ∙ head) in let same : suc r ≡ delay = at.0 in inr (omega (arith, e, same), at.1)),
            λ s. elim s [
              | inl at ↦ (let same : g ≡ delay = at.0 in absurd (omega (arith, e, soon, far, same)))
              | inr at ↦ (let same : g ≡ d + delay = at.0 in is ∙ (shows_two (suc r) low).1 (omega (arith, e, same), at.1))
            ],
          )

      shows_both : (g : ℕ) → g < d + c.time → IsLit g
      shows_both g low =
          elim (cases_lt g d) [
            | inl lt ↦ lit_first g lt
            | inr ge ↦ lit_then (g - d) g (omega (arith, ge)) (omega (arith, low, ge))
          ]

    abbrev Shows : Port → Bool → Type 0
    Shows port bit = ShowsOnce (spread c d) (p ∷ q ∷ []) port bit

    some : 0 < c.time
    some = let more = long in omega (arith, more)

    first_shows : Shows (c.first, 0) p
    first_shows g low =
        left_only (cell_state (now g) c.first ≡ Head) ((g ≡ 0) × (p ≡ true)) (g ≡ d + 0) false refl (shows_both c.first 0 p false some ((law.by_first p).ins 0 (c.first, 0) p refl refl) ((law.by_second q).ins 0 (c.first, 0) false refl refl) g low)

    second_shows : Shows (c.second, d) q
    second_shows g low =
        let end : d + 0 ≡ d = omega arith in
        subst (λ n. (cell_state (now g) c.second ≡ Head) ↔ ((g ≡ n) × (q ≡ true))) end
        (right_only (cell_state (now g) c.second ≡ Head) (g ≡ 0) ((g ≡ d + 0) × (q ≡ true)) false refl (shows_both c.second 0 false q some ((law.by_first p).ins 1 (c.second, 0) false refl refl) ((law.by_second q).ins 1 (c.second, 0) q refl refl) g low))

    ins_show : (i : ℕ) (port : Port) (bit : Bool) → slice_get (spread c d).ins i ≡ Some port → slice_get (p ∷ q ∷ []) i ≡ Some bit → Shows port bit
    ins_show zero port bit has is =
        subst (λ port. Shows port bit) (get_or_from_slice_get (spread c d).ins 0 port port has) (subst (Shows (c.first, 0)) (get_or_from_slice_get (p ∷ q ∷ []) 0 bit false is) first_shows)
    ins_show (suc zero) port bit has is =
        subst (λ port. Shows port bit) (get_or_from_slice_get (spread c d).ins 1 port port has) (subst (Shows (c.second, d)) (get_or_from_slice_get (p ∷ q ∷ []) 1 bit false is) second_shows)
    ins_show (suc (suc i)) port bit has is =
        absurd (let low : suc (suc i) < 2 = slice_get_within (p ∷ q ∷ []) (suc (suc i)) bit is in omega (arith, low))

    -- an output shows nothing of the other input
    by_first_dark : (o : ℕ) → o < length c.outs → is_of_second c o ≡ true → (bit : Bool) → c.answer (bit ∷ false ∷ []) o ≡ false
    by_first_dark o low second false = law.by_none o low
    by_first_dark o low second true = law.by_one o low second

    by_second_dark : (o : ℕ) → o < length c.outs → is_of_second c o ≡ false → (bit : Bool) → c.answer (false ∷ bit ∷ []) o ≡ false
    by_second_dark o low first false = law.by_none o low
    by_second_dark o low first true = first

    out_shows : (o : ℕ) (from : Port) → slice_get c.outs o ≡ Some from → (b : Bool) → is_of_second c o ≡ b → Shows (from.0, cond b d 0 + from.1) (cond b (c.answer (false ∷ q ∷ []) o) (c.answer (p ∷ false ∷ []) o))
    out_shows o from has b is g low =
        let within = slice_get_within c.outs o from has in
        let soon : from.1 < c.time = (law.drawn.outs from (contains_from c.outs from (in_got c.outs o from has))).1 in
        at b is within (shows_both from.0 from.1 (c.answer (p ∷ false ∷ []) o) (c.answer (false ∷ q ∷ []) o) soon ((law.by_first p).outs o from has) ((law.by_second q).outs o from has) g low)
      where
        at : (b : Bool) → is_of_second c o ≡ b → o < length c.outs → (cell_state (now g) from.0 ≡ Head) ↔ (((g ≡ from.1) × (c.answer (p ∷ false ∷ []) o ≡ true)) ⊎ ((g ≡ d + from.1) × (c.answer (false ∷ q ∷ []) o ≡ true))) → (cell_state (now g) from.0 ≡ Head) ↔ ((g ≡ cond b d 0 + from.1) × (cond b (c.answer (false ∷ q ∷ []) o) (c.answer (p ∷ false ∷ []) o) ≡ true))
        at true is within both =
            right_only (cell_state (now g) from.0 ≡ Head) (g ≡ from.1) ((g ≡ d + from.1) × (c.answer (false ∷ q ∷ []) o ≡ true)) (c.answer (p ∷ false ∷ []) o) (by_first_dark o within is p) both
        at false is within both =
            let none : from.1 ≡ 0 + from.1 = omega arith in
            subst (λ n. (cell_state (now g) from.0 ≡ Head) ↔ ((g ≡ n) × (c.answer (p ∷ false ∷ []) o ≡ true))) none
            (left_only (cell_state (now g) from.0 ≡ Head) ((g ≡ from.1) × (c.answer (p ∷ false ∷ []) o ≡ true)) (g ≡ d + from.1) (c.answer (false ∷ q ∷ []) o) (by_second_dark o within is q) both)

    outs_show : (o : ℕ) (port : Port) → slice_get (spread c d).outs o ≡ Some port → Shows port (spread_answer c (p ∷ q ∷ []) o)
    outs_show o port has =
        let s = spread_at (is_of_second c) d c.outs o port has in
        subst (λ port. Shows port (spread_answer c (p ∷ q ∷ []) o)) s.is (out_shows o s.from s.has (is_of_second c o) refl)

    ready_second : (g : ℕ) → d ≡ suc g → IsReady (now g) c.second
    ready_second g e =
        subst (λ x. IsReady x c.second) (sym (early g (omega (arith, e))))
        (elim (cases_eq d c.time) [
          | inl same ↦ let last : c.time - 1 ≡ g = omega (arith, same, e) in subst (λ n. IsReady (one n) c.second) last ((law.by_first p).ready_again (c.second, 0) among_second refl)
          | inr other ↦ ready_calm (alone c) law.drawn (one g) (λ x. calm_one g (omega (arith, other, far, e)) x) (c.second, 0) among_second
        ])

    ready : (port : Port) → Contains (spread c d).ins port → (g : ℕ) → port.1 ≡ suc g → IsReady (now g) port.0
    ready port among g at =
        elim (is_of port among) [
          | of_first e ↦ let none : port.1 ≡ 0 = ap (λ (x : Port). x.1) e in absurd (omega (arith, none, at))
          | of_second e ↦ let same : port.1 ≡ d = ap (λ (x : Port). x.1) e in subst (λ (x : Port). IsReady (now g) x.0) (sym e) (ready_second g (omega (arith, same, at)))
        ]

    ready_first : IsReady (now (d + c.time - 1)) c.first
    ready_first =
        let more = long in
        let r = c.time - 2 in
        let last : d + c.time - 1 ≡ d + suc r = omega (arith, more) in
        let stop : c.time - 1 ≡ suc r = omega (arith, more) in
        subst (λ x. IsReady x c.first) (sym (late r (d + c.time - 1) last)) (subst (λ n. IsReady (two n) c.first) stop ((law.by_second q).ready_again (c.first, 0) among_first refl))

    ready_again : (port : Port) → Contains (spread c d).ins port → port.1 ≡ 0 → IsReady (now (d + c.time - 1)) port.0
    ready_again port among at =
        elim (is_of port among) [
          | of_first e ↦ subst (λ (x : Port). IsReady (now (d + c.time - 1)) x.0) (sym e) ready_first
          | of_second e ↦ let same : port.1 ≡ d = ap (λ (x : Port). x.1) e in let more = long in absurd (omega (arith, same, at, far, more))
        ]

    beside_alone : (x : ℤ × ℤ) → IsBesideInput (spread c d) x → IsBesideInput (alone c) x
    beside_alone x b =
        elim (is_of b.0 b.1) [
          | of_first e ↦ ((c.first, 0), among_first, subst (λ (y : Port). IsNear y.0 x) e b.2)
          | of_second e ↦ ((c.second, 0), among_second, subst (λ (y : Port). IsNear y.0 x) e b.2)
        ]

    calm_spread : (y : Plane) (x : ℤ × ℤ) → IsCalmCell (alone c) y x → IsCalmCell (spread c d) y x
    calm_spread y x (inl e) = inl e
    calm_spread y x (inr (tail, there, none)) = inr (tail, there, λ b. none (beside_alone x b))

    calm : (x : ℤ × ℤ) → IsCalmCell (spread c d) (now (d + c.time)) x
    calm x =
        let more = long in
        let r = c.time - 1 in
        let last : d + c.time ≡ d + suc r = omega (arith, more) in
        let stop : c.time ≡ suc r = omega (arith, more) in
        let is : now (d + c.time) ≡ two c.time = late r (d + c.time) last ∙ sym (ap two stop) in
        subst (λ y. IsCalmCell (spread c d) y x) (sym is) (calm_spread (two c.time) x ((law.by_second q).calm x))

    answers : AnswersInTime (spread c d) (p ∷ q ∷ [])
    answers = record { ins = ins_show; outs = outs_show; ready = ready; ready_again = ready_again; calm = calm }

  all_answers : (bits : List Bool) → length bits ≡ 2 → AnswersInTime (spread c d) bits
  all_answers [] e = absurd (omega (arith, e))
  all_answers (p ∷ []) e = absurd (omega (arith, e))
  all_answers (p ∷ q ∷ []) e = answers p q
  all_answers (p ∷ q ∷ r ∷ bits) e = absurd (omega (arith, e))

  below : (b : Bool) (n : ℕ) → n < c.time → cond b d 0 + n < d + c.time
  below true n low = omega (arith, low)
  below false n low = omega (arith, low)

  drawn : IsGateDrawn (spread c d)
  drawn = record {
    long = (let more = long in omega (arith, more));
    cells = law.drawn.cells;
    ins = λ port among. elim (is_of port among) [
      | of_first e ↦ subst (λ (x : Port). (cell_state c.plane x.0 ≡ Conductor) × (x.1 < d + c.time)) (sym e) ((law.drawn.ins (c.first, 0) among_first).0, (let more = long in omega (arith, more)))
      | of_second e ↦ subst (λ (x : Port). (cell_state c.plane x.0 ≡ Conductor) × (x.1 < d + c.time)) (sym e) ((law.drawn.ins (c.second, 0) among_second).0, (let more = long in omega (arith, more)))
    ];
    outs = λ port among. (
        let place = got_from (spread c d).outs port (in_from (spread c d).outs port among) in
        let s = spread_at (is_of_second c) d c.outs place.0 port place.1 in
        let at = law.drawn.outs s.from (contains_from c.outs s.from (in_got c.outs place.0 s.from s.has)) in
        subst (λ (x : Port). (cell_state c.plane x.0 ≡ Conductor) × (x.1 < d + c.time)) s.is (at.0, below (is_of_second c place.0) s.from.1 at.1));
  }

pub spread_crossings_are_lawful : SpreadCrossingsAreLawful
spread_crossings_are_lawful c law d far = record { drawn = drawn c law d far; answers = all_answers c law d far }

-- the second input comes so many cycles later, and the first as it did
abbrev later_in : ℕ → ℕ → ℕ
later_in k zero = 0
later_in k (suc i) = k

outs_same : (period k e d : ℕ) → k * period + e ≡ d → (is_second : ℕ → Bool) (ports : List Port) → cycles_later period (λ o. cond (is_second o) k 0) (spread_outs is_second e ports) ≡ spread_outs is_second d ports
outs_same period k e d is is_second [] = refl
outs_same period k e d is is_second (port ∷ ports) =
    ap₂ (λ n rest. (port.0, n) ∷ rest) (at (is_second 0)) (outs_same period k e d is (λ o. is_second (suc o)) ports)
  where
    at : (b : Bool) → cond b e 0 + port.1 + cond b k 0 * period ≡ cond b d 0 + port.1
    at true = let times : k * period + e ≡ d = is in omega (arith, times)
    at false = omega arith

module _ (c : Crossing) (law : KeepsCrossingLaw c) (period k e : ℕ) (bits : ℕ → ℕ → Bool) (o : ℕ) where
  held_same : (t : ℕ) (b : Bool) → cond b (c.answer (false ∷ held_back (later_in k) bits (cond b k 0 + t) 1 ∷ []) o) (c.answer (held_back (later_in k) bits (cond b k 0 + t) 0 ∷ false ∷ []) o) ≡ cond b (c.answer (false ∷ bits t 1 ∷ []) o) (c.answer (bits t 0 ∷ false ∷ []) o)
  held_same t true = ap (λ x. c.answer (false ∷ x ∷ []) o) (both_rest k (λ u. false) (λ u. bits u 1) t)
  held_same t false = let none : 0 + t ≡ t = omega arith in ap (λ n. c.answer (bits n 0 ∷ false ∷ []) o) none

  held_dark : (t : ℕ) → o < length c.outs → (b : Bool) → t < cond b k 0 → cond b (c.answer (false ∷ held_back (later_in k) bits t 1 ∷ []) o) (c.answer (held_back (later_in k) bits t 0 ∷ false ∷ []) o) ≡ false
  held_dark t low true soon = ap (λ x. c.answer (false ∷ x ∷ []) o) (both_first k (λ u. false) (λ u. bits u 1) t soon) ∙ law.by_none o low
  held_dark t low false soon = absurd (omega (arith, soon))

length_spread : (is_second : ℕ → Bool) (d : ℕ) (ports : List Port) → length (spread_outs is_second d ports) ≡ length ports
length_spread is_second d [] = refl
length_spread is_second d (port ∷ ports) = ap suc (length_spread (λ o. is_second (suc o)) d ports)

pub crossings_answer_each_row : CrossingsAnswerEachRow
crossings_answer_each_row c law period d low high bits =
    let more : 3 ≤ c.time = law.drawn.long in
    let k = d / period in
    let e = d % period in
    let is : k * period + e ≡ d = div-add-mod' d period in
    let near = spread c e in
    let meaning : PartMeaning = λ bits t. gate_answer near (bits t) in
    let outs_later : ℕ → ℕ = λ o. cond (is_of_second c o) k 0 in
    let part : IsPart period c.plane near.ins near.outs meaning = gates_answer_each_row near (spread_crossings_are_lawful c law e low) period (omega (arith, high)) in
    let begun = (parts_begin_later period (omega (arith, high, low, more)) c.plane near.ins near.outs meaning (later_in k) outs_later (λ bits t o inside early. (let many : length near.outs ≡ length c.outs = length_spread (is_of_second c) e c.outs in held_dark c law period k e bits o t (omega (arith, inside, many)) (is_of_second c o) early)) part).0 bits in
    let ins : cycles_later period (later_in k) near.ins ≡ (spread c d).ins = ap₂ (λ m n. (c.first, m) ∷ (c.second, n) ∷ []) (omega arith) (omega (arith, is)) in
    let outs : cycles_later period outs_later near.outs ≡ (spread c d).outs = outs_same period k e d is (is_of_second c) c.outs in
    let signals : signals_at (spread c d).outs (meaning_later (later_in k) outs_later meaning bits) ≡ signals_at (spread c d).outs (λ t. gate_answer (spread c d) (bits t)) = same_signals (spread c d).outs (meaning_later (later_in k) outs_later meaning bits) (λ t. gate_answer (spread c d) (bits t)) (λ t o inside. held_same c law period k e bits o t (is_of_second c o)) in
    subst (λ s. CarriesSignals period c.plane (signals_at (spread c d).ins bits) s) signals
    (subst (λ ports. CarriesSignals period c.plane (signals_at (spread c d).ins bits) (signals_at ports (meaning_later (later_in k) outs_later meaning bits))) outs
    (subst (λ ports. CarriesSignals period c.plane (signals_at ports bits) (signals_at (cycles_later period outs_later near.outs) (meaning_later (later_in k) outs_later meaning bits))) ins begun))

pub crossings_are_gates : CrossingsAreGates
crossings_are_gates c law period d low high = record { cells = law.drawn.cells; answers = crossings_answer_each_row c law period d low high }

pub crossings_copy : CrossingsCopy
crossings_copy c law d bits o low = (
  λ lit. ap (λ s. cond s (c.answer (false ∷ flag_at bits 1 ∷ []) o) (c.answer (flag_at bits 0 ∷ false ∷ []) o)) lit ∙ by_second lit (flag_at bits 1),
  λ lit. ap (λ s. cond s (c.answer (false ∷ flag_at bits 1 ∷ []) o) (c.answer (flag_at bits 0 ∷ false ∷ []) o)) (not_second lit) ∙ by_first lit (flag_at bits 0),
)
  where
    by_second : is_of_second c o ≡ true → (bit : Bool) → c.answer (false ∷ bit ∷ []) o ≡ bit
    by_second lit true = lit
    by_second lit false = law.by_none o low

    by_first : c.answer (true ∷ false ∷ []) o ≡ true → (bit : Bool) → c.answer (bit ∷ false ∷ []) o ≡ bit
    by_first lit true = lit
    by_first lit false = law.by_none o low

    not_second : c.answer (true ∷ false ∷ []) o ≡ true → is_of_second c o ≡ false
    not_second lit = false_from_ne_true _ (λ e. true≢false (sym lit ∙ law.by_one o low e))
