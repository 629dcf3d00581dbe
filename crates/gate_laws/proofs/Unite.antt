-- Two planes that stand apart, side by side.
use Rattle.std.proofs.Common.{ℤ, ℕ, zero, suc, ◌≡◌, refl, sym, ap, ap₂, ◌∙◌, subst, inl, inr, true, false, ◌||◌, cond, List, ◌++◌}
use Rattle.std.specs.Prelude.{Contains, ◌≢◌, ◌⊎◌, ◌↔◌}
use Rattle.std.proofs.lemmas.List.Elements.{Contains-append_cases, Contains-append_left, Contains-append_right}
use Rattle.std.proofs.lemmas.List.Folds.{list_any-append}
use Rattle.std.proofs.Math.Bool.{or-false}
use Rattle.ww_rule.specs.declared.pattern.State.{State}
use Rattle.ww_rule.specs.declared.pattern.State.TheVariants.{Empty, Head, Tail, Conductor}
use Rattle.ww_rule.specs.Wireworld.{Plane, next_plane, next_state, heads_around, count_head, driven}
use Rattle.gate_laws.specs.Signals.{Signal, cell_state, is_lit, due_of_signals, IsReady, CarriesSignals}
use Rattle.gate_laws.specs.Wires.{IsNear}
use Rattle.gate_laws.specs.Laws.{StandApart, or_state, side_by_side, PlanesUnite}
use Rattle.gate_laws.proofs.Dues.{lights, empty_not_due, stays_empty, cases_Empty}
use Rattle.gate_laws.proofs.Around.{near_itself, near_back, as_many}

or_Empty : (s : State) → or_state s Empty ≡ s
or_Empty Empty = refl
or_Empty Head = refl
or_Empty Tail = refl
or_Empty Conductor = refl

-- what is known of one of the planes beside the other
record Beside (period : ℕ) (p q : Plane) (ins inputs : List Signal) : Type 0 where
  apart : (cell other : ℤ × ℤ) → cell_state p cell ≢ Empty → IsNear other cell → cell_state q other ≡ Empty
  drawn : (s : Signal) → Contains ins s → cell_state p s.cell ≢ Empty
  others_drawn : (s : Signal) → Contains inputs s → cell_state q s.cell ≢ Empty

module _ (period : ℕ) (p q : Plane) (ins inputs : List Signal) (h : Beside period p q ins inputs) where
  -- near a cell of the one plane the other is empty for ever
  alone : (cell other : ℤ × ℤ) → cell_state p cell ≢ Empty → IsNear other cell → (g : ℕ) → cell_state (driven (due_of_signals period inputs) q g) other ≡ Empty
  alone cell other full near g = stays_empty period q inputs other h.others_drawn (h.apart cell other full near) g

  alone_not_due : (cell : ℤ × ℤ) → cell_state p cell ≢ Empty → (g : ℕ) → due_of_signals period inputs g cell.0 cell.1 ≡ false
  alone_not_due cell full g = empty_not_due period q inputs g cell h.others_drawn (h.apart cell cell full (near_itself cell))

  as_one : (cell other : ℤ × ℤ) → cell_state p cell ≢ Empty → IsNear other cell → (g : ℕ) → cell_state (side_by_side (driven (due_of_signals period ins) p g) (driven (due_of_signals period inputs) q g)) other ≡ cell_state (driven (due_of_signals period ins) p g) other
  as_one cell other full near g =
      ap (or_state (cell_state (driven (due_of_signals period ins) p g) other)) (alone cell other full near g)
      ∙ or_Empty (cell_state (driven (due_of_signals period ins) p g) other)

  as_one_next : (cell : ℤ × ℤ) → cell_state p cell ≢ Empty → (g : ℕ) → next_plane (side_by_side (driven (due_of_signals period ins) p g) (driven (due_of_signals period inputs) q g)) cell.0 cell.1 ≡ next_plane (driven (due_of_signals period ins) p g) cell.0 cell.1
  as_one_next cell full g =
      ap₂ next_state (as_one cell cell full (near_itself cell) g) (as_many _ _ cell (λ other near. ap count_head (as_one cell other full near g)))

or_state-sym : (s t : State) → (s ≡ Empty) ⊎ (t ≡ Empty) → or_state s t ≡ or_state t s
or_state-sym s t (inl e) = ap (λ u. or_state u t) e ∙ sym (or_Empty t) ∙ ap (or_state t) (sym e)
or_state-sym s t (inr e) = ap (or_state s) e ∙ or_Empty s ∙ ap (λ u. or_state u s) (sym e)

module _ (period : ℕ) (p q : Plane) (ins outs inputs outputs : List Signal) (apart : StandApart p q) (run : CarriesSignals period p ins outs) (beside : CarriesSignals period q inputs outputs) where
  abbrev one : ℕ → Plane
  one g = driven (due_of_signals period ins) p g

  abbrev other_one : ℕ → Plane
  other_one g = driven (due_of_signals period inputs) q g

  abbrev whole : ℕ → Plane
  whole g = driven (due_of_signals period (ins ++ inputs)) (side_by_side p q) g

  first : Beside period p q ins inputs
  first =
      record {
        apart = apart;
        drawn = λ s among. run.drawn s (Contains-append_left ins outs s among);
        others_drawn = λ s among. beside.drawn s (Contains-append_left inputs outputs s among);
      }

  apart_back : (cell other : ℤ × ℤ) → cell_state q cell ≢ Empty → IsNear other cell → cell_state p other ≡ Empty
  apart_back cell other full near =
      elim (cases_Empty (cell_state p other)) [
        | inl e ↦ e
        | inr n ↦ absurd (full (apart other cell n (near_back other cell near)))
      ]

  second : Beside period q p inputs ins
  second = record { apart = apart_back; drawn = first.others_drawn; others_drawn = first.drawn }

  dues : (g : ℕ) (c : ℤ × ℤ) → due_of_signals period (ins ++ inputs) g c.0 c.1 ≡ (due_of_signals period ins g c.0 c.1 || due_of_signals period inputs g c.0 c.1)
  dues g c = list_any-append (lights period g c.0 c.1) ins inputs

  -- a cell that is drawn in the one plane
  at_one : (g : ℕ) (c : ℤ × ℤ) → cell_state p c ≢ Empty → due_of_signals period (ins ++ inputs) g c.0 c.1 ≡ due_of_signals period ins g c.0 c.1
  at_one g c full =
      dues g c ∙ ap (λ b. due_of_signals period ins g c.0 c.1 || b) (alone_not_due period p q ins inputs first c full g) ∙ or-false _

  at_other : (g : ℕ) (c : ℤ × ℤ) → cell_state q c ≢ Empty → due_of_signals period (ins ++ inputs) g c.0 c.1 ≡ due_of_signals period inputs g c.0 c.1
  at_other g c full =
      dues g c ∙ ap (λ b. b || due_of_signals period inputs g c.0 c.1) (alone_not_due period q p inputs ins second c full g)

  at_none : (g : ℕ) (c : ℤ × ℤ) → cell_state p c ≡ Empty → cell_state q c ≡ Empty → due_of_signals period (ins ++ inputs) g c.0 c.1 ≡ false
  at_none g c e f =
      dues g c
      ∙ ap₂ (λ a b. a || b) (empty_not_due period p ins g c first.drawn e) (empty_not_due period q inputs g c first.others_drawn f)

  -- one of the two is empty wherever the other is not
  swapped : (g : ℕ) (c : ℤ × ℤ) → cell_state q c ≢ Empty → cell_state (side_by_side (one g) (other_one g)) c ≡ cell_state (side_by_side (other_one g) (one g)) c
  swapped g c full = or_state-sym _ _ (inl (alone period q p inputs ins second c c full (near_itself c) g))

  swapped_near : (g : ℕ) (c d : ℤ × ℤ) → cell_state q c ≢ Empty → IsNear d c → cell_state (side_by_side (one g) (other_one g)) d ≡ cell_state (other_one g) d
  swapped_near g c d full near =
      or_state-sym _ _ (inl (alone period q p inputs ins second c d full near g)) ∙ as_one period q p inputs ins second c d full near g

  other_next : (g : ℕ) (c : ℤ × ℤ) → cell_state q c ≢ Empty → next_plane (side_by_side (one g) (other_one g)) c.0 c.1 ≡ next_plane (other_one g) c.0 c.1
  other_next g c full =
      ap₂ next_state (swapped_near g c c full (near_itself c)) (as_many _ _ c (λ d near. ap count_head (swapped_near g c d full near)))

  -- the driven evolution of both is both driven evolutions
  united : (g : ℕ) (c : ℤ × ℤ) → cell_state (whole g) c ≡ cell_state (side_by_side (one g) (other_one g)) c
  united zero c =
      elim (cases_Empty (cell_state p c)) [
        | inr full ↦ ap₂ (λ b s. cond b Head s) (at_one zero c full) (ap (or_state (cell_state p c)) (apart c c full (near_itself c)) ∙ or_Empty _) ∙ sym (as_one period p q ins inputs first c c full (near_itself c) zero)
        | inl none ↦
            elim (cases_Empty (cell_state q c)) [
              | inr full ↦ ap₂ (λ b s. cond b Head s) (at_other zero c full) (ap (λ s. or_state s (cell_state q c)) none) ∙ sym (swapped_near zero c c full (near_itself c))
              | inl void ↦ ap₂ (λ b s. cond b Head s) (at_none zero c none void) (ap₂ or_state none void) ∙ sym (ap₂ or_state (stays_empty period p ins c first.drawn none zero) (stays_empty period q inputs c first.others_drawn void zero))
            ]
      ]
  united (suc g) c =
      let step : next_plane (whole g) c.0 c.1 ≡ next_plane (side_by_side (one g) (other_one g)) c.0 c.1 = ap₂ next_state (united g c) (as_many _ _ c (λ d near. ap count_head (united g d))) in
      elim (cases_Empty (cell_state p c)) [
        | inr full ↦ ap₂ (λ b s. cond b Head s) (at_one (suc g) c full) (step ∙ as_one_next period p q ins inputs first c full g) ∙ sym (as_one period p q ins inputs first c c full (near_itself c) (suc g))
        | inl none ↦
            elim (cases_Empty (cell_state q c)) [
              | inr full ↦ ap₂ (λ b s. cond b Head s) (at_other (suc g) c full) (step ∙ other_next g c full) ∙ sym (swapped_near (suc g) c c full (near_itself c))
              | inl void ↦
                  let gone : cell_state (side_by_side (one g) (other_one g)) c ≡ Empty = ap₂ or_state (stays_empty period p ins c first.drawn none g) (stays_empty period q inputs c first.others_drawn void g) in
                  ap₂ (λ b s. cond b Head s) (at_none (suc g) c none void) (step ∙ ap (λ s. next_state s (heads_around (side_by_side (one g) (other_one g)) c.0 c.1)) gone) ∙ sym (ap₂ or_state (stays_empty period p ins c first.drawn none (suc g)) (stays_empty period q inputs c first.others_drawn void (suc g)))
            ]
      ]

  -- what one of the two shows stands in the evolution of both
  seen_in_one : (g : ℕ) (c d : ℤ × ℤ) → cell_state p c ≢ Empty → IsNear d c → cell_state (whole g) d ≡ cell_state (one g) d
  seen_in_one g c d full near = united g d ∙ as_one period p q ins inputs first c d full near g

  seen_in_other : (g : ℕ) (c d : ℤ × ℤ) → cell_state q c ≢ Empty → IsNear d c → cell_state (whole g) d ≡ cell_state (other_one g) d
  seen_in_other g c d full near = united g d ∙ swapped_near g c d full near

  which : (s : Signal) → Contains ((ins ++ inputs) ++ (outs ++ outputs)) s → Contains (ins ++ outs) s ⊎ Contains (inputs ++ outputs) s
  which s among =
      elim (Contains-append_cases (ins ++ inputs) (outs ++ outputs) s among) [
        | inl i ↦ elim (Contains-append_cases ins inputs s i) [ inl a ↦ inl (Contains-append_left ins outs s a) | inr b ↦ inr (Contains-append_left inputs outputs s b) ]
        | inr o ↦ elim (Contains-append_cases outs outputs s o) [ inl a ↦ inl (Contains-append_right ins outs s a) | inr b ↦ inr (Contains-append_right inputs outputs s b) ]
      ]

  is_drawn : (s : Signal) → Contains ((ins ++ inputs) ++ (outs ++ outputs)) s → cell_state (side_by_side p q) s.cell ≢ Empty
  is_drawn s among =
      elim (which s among) [
        | inl a ↦ λ e. run.drawn s a (sym (ap (or_state (cell_state p s.cell)) (apart s.cell s.cell (run.drawn s a) (near_itself s.cell)) ∙ or_Empty _) ∙ e)
        | inr b ↦ λ e. beside.drawn s b (sym (ap (λ t. or_state t (cell_state q s.cell)) (apart_back s.cell s.cell (beside.drawn s b) (near_itself s.cell))) ∙ e)
      ]

  shows : (s : Signal) → Contains ((ins ++ inputs) ++ (outs ++ outputs)) s → (g : ℕ) → (cell_state (whole g) s.cell ≡ Head) ↔ (is_lit period s g ≡ true)
  shows s among g =
      elim (which s among) [
        | inl a ↦ subst (λ t. (t ≡ Head) ↔ (is_lit period s g ≡ true)) (sym (seen_in_one g s.cell s.cell (run.drawn s a) (near_itself s.cell))) (run.shows s a g)
        | inr b ↦ subst (λ t. (t ≡ Head) ↔ (is_lit period s g ≡ true)) (sym (seen_in_other g s.cell s.cell (beside.drawn s b) (near_itself s.cell))) (beside.shows s b g)
      ]

  ready : (s : Signal) → Contains (ins ++ inputs) s → (g : ℕ) → is_lit period s (suc g) ≡ true → IsReady (whole g) s.cell
  ready s among g lit =
      elim (Contains-append_cases ins inputs s among) [
        | inl a ↦
            let full = run.drawn s (Contains-append_left ins outs s a) in
            let is = run.ready s a g lit in
            record { conductor = seen_in_one g s.cell s.cell full (near_itself s.cell) ∙ is.conductor; alone = as_many _ _ s.cell (λ d near. ap count_head (seen_in_one g s.cell d full near)) ∙ is.alone }
        | inr b ↦
            let full = beside.drawn s (Contains-append_left inputs outputs s b) in
            let is = beside.ready s b g lit in
            record { conductor = seen_in_other g s.cell s.cell full (near_itself s.cell) ∙ is.conductor; alone = as_many _ _ s.cell (λ d near. ap count_head (seen_in_other g s.cell d full near)) ∙ is.alone }
      ]

pub planes_unite : PlanesUnite
planes_unite period p q ins outs inputs outputs apart run beside =
    record {
      drawn = is_drawn period p q ins outs inputs outputs apart run beside;
      shows = shows period p q ins outs inputs outputs apart run beside;
      ready = ready period p q ins outs inputs outputs apart run beside;
    }
