-- A lone cell carries each signal.
use Rattle.std.proofs.Common.{ℤ, ℕ, zero, suc, ◌+◌, ◌≤◌, ◌≡◌, refl, sym, ap, ap₂, ◌∙◌, subst, inl, inr, Bool, true, false, ◌||◌, ◌==◌, cond, List, [], ◌∷◌, ◌++◌, arith}
use Rattle.std.specs.Prelude.{Contains, ◌≢◌, ◌↔◌}
use Rattle.std.proofs.lemmas.Bool.{cases_Bool, true≢false, false_from_ne_true}
use Rattle.lists.proofs.Members.{In, in_from, contains_from}
use Rattle.ww_rule.specs.declared.pattern.State.{State}
use Rattle.ww_rule.specs.declared.pattern.State.TheVariants.{Empty, Head, Tail, Conductor}
use Rattle.ww_rule.specs.Wireworld.{Plane, next_state, heads_around, count_head, driven}
use Rattle.gate_laws.specs.Signals.{Signal, cell_state, is_lit, due_of_signals, IsReady, CarriesSignals}
use Rattle.gate_laws.specs.Laws.{IsLoneCell, LoneCellsCarry}
use Rattle.gate_laws.proofs.WireLit.{not_soon}
use Rattle.gate_laws.proofs.Dues.{due_by_signal, signal_is_due, never_due, cases_cell}
use Rattle.gate_laws.proofs.Around.{as_many}
use Rattle.gate_laws.proofs.Wire.{state_by, count_by}

abbrev is_tail : State → Bool
is_tail Tail = true
is_tail _ = false

abbrev is_conductor : State → Bool
is_conductor Conductor = true
is_conductor _ = false

module _ (period : ℕ) (long : 3 ≤ period) (p : Plane) (s : Signal) (lone : IsLoneCell p s.cell) where
  abbrev signals : List Signal
  signals = s ∷ []

  abbrev plane : ℕ → Plane
  plane g = driven (due_of_signals period signals) p g

  abbrev lit : ℕ → Bool
  lit g = is_lit period s g

  only : (t : Signal) → Contains signals t → t ≡ s
  only t among = at (in_from signals t among)
    where
      at : In t signals → t ≡ s
      at (inl e) = e
      at (inr i) = absurd i

  -- no other cell is ever drawn
  others : (g : ℕ) (c : ℤ × ℤ) → c ≢ s.cell → cell_state (plane g) c ≡ Empty
  others g c away = never_due period p signals c (lone.others c away) (λ t among e. away (sym e ∙ ap (λ t. t.cell) (only t among))) g

  due_when_lit : (g : ℕ) → due_of_signals period signals g s.cell.0 s.cell.1 ≡ lit g
  due_when_lit g =
      elim (cases_Bool (lit g)) [
        | inl bright ↦ signal_is_due period signals g s.cell s (contains_from signals s (inl refl)) bright refl ∙ sym bright
        | inr dark ↦ false_from_ne_true _ (λ e. (let by = due_by_signal period signals g s.cell e in true≢false (sym by.2 ∙ ap (λ t. is_lit period t g) (only by.0 by.1) ∙ dark))) ∙ sym dark
      ]

  abbrev just_lit : ℕ → Bool
  just_lit zero = false
  just_lit (suc g) = lit g

  dark_around : (g : ℕ) → lit g ≡ false → cell_state (plane g) s.cell ≡ state_by (lit g) (just_lit g) → heads_around (plane g) s.cell.0 s.cell.1 ≡ 0
  dark_around g dark is =
      as_many (plane g) (λ x y. Empty) s.cell (λ c near. elim (cases_cell c s.cell) [
        | inl e ↦ ap (λ d. count_head (cell_state (plane g) d)) e ∙ ap count_head is ∙ count_by (lit g) (just_lit g) ∙ ap (λ b. cond b 1 0) dark
        | inr d ↦ ap count_head (others g c d)
      ])

  rule : (due now was : Bool) (n : ℕ) → (now ≡ false → n ≡ 0) → cond due Head (next_state (state_by now was) n) ≡ state_by due now
  rule true now was n e = refl
  rule false true was n e = refl
  rule false false true n e = refl
  rule false false false n e = ap (λ k. cond (k == 1 || k == 2) Head Conductor) (e refl)

  state_is : (g : ℕ) → cell_state (plane g) s.cell ≡ state_by (lit g) (just_lit g)
  state_is zero = ap₂ (λ b t. cond b Head t) (due_when_lit 0) lone.conductor ∙ first (lit 0)
    where
      first : (b : Bool) → cond b Head Conductor ≡ state_by b false
      first true = refl
      first false = refl
  state_is (suc g) =
      ap₂ (λ b t. cond b Head (next_state t (heads_around (plane g) s.cell.0 s.cell.1))) (due_when_lit (suc g)) (state_is g)
      ∙ rule (lit (suc g)) (lit g) (just_lit g) (heads_around (plane g) s.cell.0 s.cell.1) (λ dark. dark_around g dark (state_is g))

  shows : (g : ℕ) → (cell_state (plane g) s.cell ≡ Head) ↔ (lit g ≡ true)
  shows g = (
    λ head. either (lit g) (just_lit g) (sym (state_is g) ∙ head),
    λ bright. state_is g ∙ ap (λ b. state_by b (just_lit g)) bright,
  )
    where
      either : (now was : Bool) → state_by now was ≡ Head → now ≡ true
      either true was e = refl
      either false true e = absurd (true≢false (ap is_tail e))
      either false false e = absurd (true≢false (ap is_conductor e))

  ready : (g : ℕ) → lit (suc g) ≡ true → IsReady (plane g) s.cell
  ready g bright =
      let soon : g + 1 ≡ suc g = omega arith in
      let dark : lit g ≡ false = false_from_ne_true _ (λ now. not_soon period s g 1 now (ap lit soon ∙ bright) (omega arith) (omega (arith, long))) in
      record {
        conductor = state_is g ∙ ap₂ state_by dark (not_just g bright);
        alone = dark_around g dark (state_is g);
      }
    where
      not_just : (g : ℕ) → lit (suc g) ≡ true → just_lit g ≡ false
      not_just zero bright = refl
      not_just (suc g) bright =
          let two : g + 2 ≡ suc (suc g) = omega arith in
          false_from_ne_true _ (λ was. not_soon period s g 2 was (ap lit two ∙ bright) (omega arith) (omega (arith, long)))

  both : (t : Signal) → Contains (signals ++ signals) t → t ≡ s
  both t among = at (in_from (signals ++ signals) t among)
    where
      at : In t (signals ++ signals) → t ≡ s
      at (inl e) = e
      at (inr (inl e)) = e
      at (inr (inr i)) = absurd i

  carried_alone : CarriesSignals period p signals signals
  carried_alone =
      record {
        drawn = λ t among e. true≢false (ap is_conductor (sym (ap (λ t. cell_state p t.cell) (both t among) ∙ lone.conductor) ∙ e));
        shows = λ t among g. subst (λ t. (cell_state (plane g) t.cell ≡ Head) ↔ (is_lit period t g ≡ true)) (sym (both t among)) (shows g);
        ready = λ t among g bright. subst (λ t. IsReady (plane g) t.cell) (sym (only t among)) (ready g (ap (λ t. is_lit period t (suc g)) (sym (only t among)) ∙ bright));
      }

pub lone_cells_carry : LoneCellsCarry
lone_cells_carry period long p s lone = carried_alone period long p s lone
