-- Calm planes of a gate: what they become if inputs are lit.
use Rattle.std.proofs.Common.{ℤ, ℕ, zero, suc, ◌+◌, ◌-◌, ◌≤◌, ◌≡◌, refl, sym, ap, ap₂, ◌∙◌, subst, inl, inr, Bool, true, false, ◌&&◌, ◌==◌, ◌<◌, cond, int_eq, List, [], ◌∷◌, arith}
use Rattle.std.specs.Prelude.{Contains, ◌≢◌, ◌⊎◌}
use Rattle.std.proofs.lemmas.Bool.{and_parts, or_cases, cases_eq, true≢false, false_from_ne_true, eqb-true}
use Rattle.std.proofs.lemmas.Bool.Decides.{Decides-int_eq}
use Rattle.std.proofs.Math.Path.{fun_ext}
use Rattle.lists.proofs.Members.{In, contains_from}
use Rattle.ww_rule.specs.declared.pattern.State.{State}
use Rattle.ww_rule.specs.declared.pattern.State.TheVariants.{Empty, Head, Tail, Conductor}
use Rattle.ww_rule.specs.Wireworld.{Plane, next_plane, next_state, heads_around, count_head, injected}
use Rattle.ww_rule.proofs.Cells.{not_counted}
use Rattle.gate_laws.specs.Signals.{cell_state, IsReady}
use Rattle.gate_laws.specs.Wires.{IsNear}
use Rattle.gate_laws.specs.Rows.{Port}
use Rattle.gate_laws.proofs.Around.{near_itself, as_many}
use Rattle.gate_laws.proofs.Dues.{same_cell}
use Rattle.gate_laws.specs.Gates.{Gate, is_lit_input, used, IsBesideInput, IsCalmCell, IsGateDrawn}

-- a lit cell is an input's, at its generation
pub lit_in : (ports : List Port) (bits : List Bool) (g : ℕ) (c : ℤ × ℤ) → is_lit_input ports bits g c.0 c.1 ≡ true → (port : Port) × In port ports × (port.0 ≡ c) × (g ≡ port.1)
lit_in [] bits g c e = absurd (true≢false (sym e))
lit_in (port ∷ ports) [] g c e = absurd (true≢false (sym e))
lit_in (port ∷ ports) (bit ∷ bits) g c e =
    elim (or_cases (bit && g == port.1 && int_eq port.0.0 c.0 && int_eq port.0.1 c.1) (is_lit_input ports bits g c.0 c.1) e) [
      | inl here ↦
          let parts = and_parts (bit && g == port.1 && int_eq port.0.0 c.0) (int_eq port.0.1 c.1) here in
          let more = and_parts (bit && g == port.1) (int_eq port.0.0 c.0) parts.0 in
          let at = and_parts bit (g == port.1) more.0 in
          (port, inl refl, same_cell port.0 c ((Decides-int_eq port.0.0 c.0).0 more.1) ((Decides-int_eq port.0.1 c.1).0 parts.1), eqb-true g port.1 at.1)
      | inr later ↦ let found = lit_in ports bits g c later in (found.0, inr found.1, found.2, found.3)
    ]

-- at a generation that is no input's nothing is lit
pub none_lit : (ports : List Port) (bits : List Bool) (g : ℕ) → ((port : Port) → In port ports → ¬ (g ≡ port.1)) → is_lit_input ports bits g ≡ (λ x y. false)
none_lit ports bits g other =
    fun_ext (λ x. fun_ext (λ y. false_from_ne_true _ (λ e. let found = lit_in ports bits g (x, y) e in other found.0 found.1 found.3)))

count_one : (s : State) → count_head s ≡ 1 → s ≡ Head
count_one Empty e = absurd (omega arith)
count_one Head e = refl
count_one Tail e = absurd (omega arith)
count_one Conductor e = absurd (omega arith)

Head≢Tail : Head ≢ Tail
Head≢Tail e = let n : count_head Head ≡ count_head Tail = ap count_head e in absurd (omega arith)

Head≢Conductor : Head ≢ Conductor
Head≢Conductor e = let n : count_head Head ≡ count_head Conductor = ap count_head e in absurd (omega arith)

Head≢Empty : Head ≢ Empty
Head≢Empty e = let n : count_head Head ≡ count_head Empty = ap count_head e in absurd (omega arith)

module _ (gate : Gate) (law : IsGateDrawn gate) where
  -- the drawing has no heads
  no_head : (c : ℤ × ℤ) → cell_state gate.plane c ≢ Head
  no_head c e =
      elim (law.cells c) [ inl none ↦ Head≢Empty (sym e ∙ none) | inr there ↦ Head≢Conductor (sym e ∙ there) ]

  -- and neither has a calm plane
  pub calm_dark : (p : Plane) (c : ℤ × ℤ) → IsCalmCell gate p c → cell_state p c ≢ Head
  calm_dark p c (inl e) h = no_head c (sym e ∙ h)
  calm_dark p c (inr (tail, there, none)) h = Head≢Tail (sym h ∙ tail)

  not_beside : (bits : List Bool) (g : ℕ) (c d : ℤ × ℤ) → ¬ IsBesideInput gate c → IsNear d c → is_lit_input gate.ins bits g d.0 d.1 ≡ false
  not_beside bits g c d none near =
      false_from_ne_true _ (λ e. let found = lit_in gate.ins bits g d e in none (found.0, contains_from gate.ins found.0 found.1, subst (λ x. IsNear x c) (sym found.2) near))

  module _ (bits : List Bool) (p : Plane) (calm : (c : ℤ × ℤ) → IsCalmCell gate p c) where
    abbrev lit : ℤ × ℤ → Bool
    lit c = is_lit_input gate.ins bits 0 c.0 c.1

    abbrev with_lit : Plane
    with_lit = injected (is_lit_input gate.ins bits 0) p

    counts : (b : Bool) (c : ℤ × ℤ) → IsCalmCell gate p c → count_head (cond b Head (cell_state p c)) ≡ count_head (cond b Head (cell_state gate.plane c))
    counts true c k = refl
    counts false c (inl e) = ap count_head e
    counts false c (inr (tail, there, none)) = ap count_head tail ∙ sym (ap count_head there)

    pub same_count : (c : ℤ × ℤ) → count_head (cell_state with_lit c) ≡ count_head (cell_state (used gate bits 0) c)
    same_count c = counts (lit c) c (calm c)

    pub same_head : (c : ℤ × ℤ) → cell_state with_lit c ≡ Head → cell_state (used gate bits 0) c ≡ Head
    same_head c e = count_one (cell_state (used gate bits 0) c) (sym (same_count c) ∙ ap count_head e)

    pub head_same : (c : ℤ × ℤ) → cell_state (used gate bits 0) c ≡ Head → cell_state with_lit c ≡ Head
    head_same c e = count_one (cell_state with_lit c) (same_count c ∙ ap count_head e)

    dark_near : (c d : ℤ × ℤ) → ¬ IsBesideInput gate c → IsNear d c → count_head (cell_state (used gate bits 0) d) ≡ 0
    dark_near c d none near =
        ap (λ b. count_head (cond b Head (cell_state gate.plane d))) (not_beside bits 0 c d none near)
        ∙ not_counted (cell_state gate.plane d) (no_head d)

    next_at : (c : ℤ × ℤ) → IsCalmCell gate p c → next_plane with_lit c.0 c.1 ≡ next_plane (used gate bits 0) c.0 c.1
    next_at c (inl e) =
        ap₂ next_state (ap (λ s. cond (lit c) Head s) e) (as_many with_lit (used gate bits 0) c (λ d near. same_count d))
    next_at c (inr (tail, there, none)) =
        let unlit = not_beside bits 0 c c none (near_itself c) in
        let now : cell_state with_lit c ≡ Tail = ap₂ (λ b s. cond b Head s) unlit tail in
        let then : cell_state (used gate bits 0) c ≡ Conductor = ap₂ (λ b s. cond b Head s) unlit there in
        let around : heads_around (used gate bits 0) c.0 c.1 ≡ 0 = as_many (used gate bits 0) (λ x y. Empty) c (λ d near. dark_near c d none near) in
        ap (λ s. next_state s (heads_around with_lit c.0 c.1)) now
        ∙ sym (ap₂ next_state then around)

    -- a calm plane with inputs lit goes on as the drawing does
    pub calm_next : next_plane with_lit ≡ next_plane (used gate bits 0)
    calm_next = fun_ext (λ x. fun_ext (λ y. next_at (x, y) (calm (x, y))))

  stays : (c : ℤ × ℤ) → (cell_state gate.plane c ≡ Empty) ⊎ (cell_state gate.plane c ≡ Conductor) → next_plane gate.plane c.0 c.1 ≡ cell_state gate.plane c
  stays c (inl none) =
      ap (λ s. next_state s (heads_around gate.plane c.0 c.1)) none ∙ sym none
  stays c (inr there) =
      let around : heads_around gate.plane c.0 c.1 ≡ 0 = as_many gate.plane (λ x y. Empty) c (λ d near. not_counted (cell_state gate.plane d) (no_head d)) in
      ap₂ next_state there around ∙ sym there

  plane_stays : next_plane gate.plane ≡ gate.plane
  plane_stays = fun_ext (λ x. fun_ext (λ y. stays (x, y) (law.cells (x, y))))

  -- one generation later a calm plane is the drawing
  rests_at : (p : Plane) → ((c : ℤ × ℤ) → IsCalmCell gate p c) → (c : ℤ × ℤ) → IsCalmCell gate p c → next_plane p c.0 c.1 ≡ cell_state gate.plane c
  rests_at p calm c (inl e) =
      let dark = as_many p gate.plane c (λ d near. not_counted (cell_state p d) (calm_dark p d (calm d)) ∙ sym (not_counted (cell_state gate.plane d) (no_head d))) in
      ap₂ next_state e dark ∙ stays c (law.cells c)
  rests_at p calm c (inr (tail, there, none)) = ap (λ s. next_state s (heads_around p c.0 c.1)) tail ∙ sym there

  calm_rests : (p : Plane) → ((c : ℤ × ℤ) → IsCalmCell gate p c) → next_plane p ≡ gate.plane
  calm_rests p calm = fun_ext (λ x. fun_ext (λ y. rests_at p calm (x, y) (calm (x, y))))

  -- from its time on no input is lit
  pub unlit_late : (bits : List Bool) (g : ℕ) → gate.time ≤ g → is_lit_input gate.ins bits g ≡ (λ x y. false)
  unlit_late bits g low =
      none_lit gate.ins bits g (λ port among e. let early : port.1 < gate.time = (law.ins port (contains_from gate.ins port among)).1 in omega (arith, low, early, e))

  module _ (bits : List Bool) (calm : (c : ℤ × ℤ) → IsCalmCell gate (used gate bits gate.time) c) where
    late : (k g : ℕ) → g ≡ gate.time + suc k → used gate bits g ≡ gate.plane
    late k zero e = absurd (omega arith)
    late zero (suc g) e =
        let same : g ≡ gate.time = omega arith in
        ap (λ d. injected d (next_plane (used gate bits g))) (unlit_late bits (suc g) (omega (arith, e)))
        ∙ ap (λ n. next_plane (used gate bits n)) same
        ∙ calm_rests (used gate bits gate.time) calm
    late (suc k) (suc g) e =
        ap (λ d. injected d (next_plane (used gate bits g))) (unlit_late bits (suc g) (omega (arith, e)))
        ∙ ap next_plane (late k g (omega arith))
        ∙ plane_stays

    -- from its time on the gate is calm
    pub calm_after : (g : ℕ) → gate.time ≤ g → (c : ℤ × ℤ) → IsCalmCell gate (used gate bits g) c
    calm_after g low c =
        elim (cases_eq g gate.time) [
          | inl same ↦ subst (λ n. IsCalmCell gate (used gate bits n) c) (sym same) (calm c)
          | inr other ↦ inl (ap (λ p. cell_state p c) (late (g - gate.time - 1) g (omega (arith, low, other))))
        ]

  -- the inputs of a calm plane are conductors
  calm_input : (p : Plane) (port : Port) → Contains gate.ins port → IsCalmCell gate p port.0 → cell_state p port.0 ≡ Conductor
  calm_input p port among (inl e) = e ∙ (law.ins port among).0
  calm_input p port among (inr (tail, there, none)) = absurd (none (port, among, near_itself port.0))

  -- and they are ready
  pub ready_calm : (p : Plane) → ((c : ℤ × ℤ) → IsCalmCell gate p c) → (port : Port) → Contains gate.ins port → IsReady p port.0
  ready_calm p calm port among =
      record {
        conductor = calm_input p port among (calm port.0);
        alone = as_many p (λ x y. Empty) port.0 (λ d near. not_counted (cell_state p d) (calm_dark p d (calm d)));
      }

  -- what is ready in the drawing with inputs lit is so in a calm plane with these lit
  pub ready_same : (bits : List Bool) (p : Plane) (calm : (c : ℤ × ℤ) → IsCalmCell gate p c) (port : Port) → Contains gate.ins port → IsReady (used gate bits 0) port.0 → IsReady (injected (is_lit_input gate.ins bits 0) p) port.0
  ready_same bits p calm port among ready =
      let same : cell_state p port.0 ≡ cell_state gate.plane port.0 = calm_input p port among (calm port.0) ∙ sym (law.ins port among).0 in
      record {
        conductor = ap (λ s. cond (is_lit_input gate.ins bits 0 port.0.0 port.0.1) Head s) same ∙ ready.conductor;
        alone = as_many (injected (is_lit_input gate.ins bits 0) p) (used gate bits 0) port.0 (λ d near. same_count bits p calm d) ∙ ready.alone;
      }
