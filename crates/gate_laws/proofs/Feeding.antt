-- The bits that wires feed back: they exist, there are no others, and they depend on no later cycle.
use Rattle.std.proofs.Common.{ℤ, ℕ, zero, suc, ◌+◌, ◌-◌, ◌*◌, ◌<◌, ◌≤◌, ◌≡◌, refl, sym, ap, ap₂, ◌∙◌, inl, inr, Bool, false, ◌||◌, List, [], ◌∷◌, ◌++◌, length, map, get_or, arith}
use Rattle.std.specs.Prelude.{Contains, Option, Some, None, slice_get}
use Rattle.std.proofs.Math.Path.{fun_ext}
use Rattle.std.proofs.lemmas.Bool.{cases_lt}
use Rattle.std.proofs.lemmas.Option.{none-some, same_Some}
use Rattle.std.proofs.lemmas.List.{length-map}
use Rattle.std.proofs.lemmas.List.Folds.{list_any-append}
use Rattle.lists.specs.Items.{flag_at}
use Rattle.lists.proofs.Members.{contains_from, in_got}
use Rattle.ww_rule.specs.Wireworld.{Plane}
use Rattle.gate_laws.specs.Signals.{due_of_signals}
use Rattle.gate_laws.specs.Rows.{Port, signals_at, PartMeaning, IsPart, IsCausalMeaning, row_of_both}
use Rattle.gate_laws.specs.PortWires.{PortWire, ComesInTime, all_inputs, with_fed, FeedsBack}
use Rattle.gate_laws.proofs.Dues.{lights}
use Rattle.gate_laws.proofs.Rows.{no_port}
use Rattle.gate_laws.proofs.Early.{both_first, both_rest, signals_both, lit_same, due_same, shown_early}

pub got_within : {X : Type 0} (xs : List X) (i : ℕ) (x : X) → slice_get xs i ≡ Some x → i < length xs
got_within [] i x e = absurd (none-some x e)
got_within (y ∷ ys) zero x e = omega arith
got_within (y ∷ ys) (suc i) x e = let l : i < length ys = got_within ys i x e in omega arith

pub not_none : {X : Type 0} (xs : List X) (i : ℕ) → i < length xs → slice_get xs i ≡ None → ⊥
not_none [] i l e = omega arith
not_none (y ∷ ys) zero l e = none-some y (sym e)
not_none (y ∷ ys) (suc i) l e = not_none ys i (omega arith) e

abbrev pub inputs_of : List PortWire → List Port
inputs_of wires = map (λ wire. wire.input) wires

input_is : (wires : List PortWire) (i : ℕ) (wire : PortWire) → slice_get wires i ≡ Some wire → get_or (inputs_of wires) i no_port ≡ wire.input
input_is [] i wire e = absurd (none-some wire e)
input_is (first ∷ wires) zero wire e = ap (λ w. w.input) (same_Some _ _ e)
input_is (first ∷ wires) (suc i) wire e = input_is wires i wire e

-- the signals of all inputs are those of the inputs that are fed, and those of the others
pub signals_joined : (wires : List PortWire) (ins : List Port) (fed bits : ℕ → ℕ → Bool) → signals_at (all_inputs wires ins) (with_fed wires fed bits) ≡ signals_at (inputs_of wires) fed ++ signals_at ins bits
signals_joined wires ins fed bits =
    ap (λ n. signals_at (all_inputs wires ins) (λ t. row_of_both n (fed t) (bits t))) (sym (length-map wires (λ wire. wire.input)))
    ∙ signals_both (inputs_of wires) ins fed bits

module _ (period : ℕ) (some : 0 < period) (wires : List PortWire) (ins outs : List Port) (before : Plane) (meaning : PartMeaning) (part : IsPart period before (all_inputs wires ins) outs meaning) (fits : (wire : PortWire) → Contains wires wire → ComesInTime period outs wire) where
  -- the generation at which the bit of a cycle comes by a wire
  abbrev time : ℕ → ℕ → ℕ
  time t i = (get_or (inputs_of wires) i no_port).1 + t * period

  abbrev comes : Option PortWire → (bits fed : ℕ → ℕ → Bool) → ℕ → Bool
  comes None bits fed t = false
  comes (Some wire) bits fed t = row_of_both (length wire.starts) (flag_at wire.starts) (λ s. meaning (with_fed wires fed bits) s wire.output) t

  -- the bits that come by the wires if these were fed
  abbrev next : (bits fed : ℕ → ℕ → Bool) → ℕ → ℕ → Bool
  next bits fed t i = comes (slice_get wires i) bits fed t

  module _ (bits fed other : ℕ → ℕ → Bool) (t i : ℕ) (same : (u j : ℕ) → j < length wires → time u j < time t i → fed u j ≡ other u j) (wire : PortWire) (at : slice_get wires i ≡ Some wire) where
    its : ComesInTime period outs wire
    its = fits wire (contains_from wires wire (in_got wires i wire at))

    sooner : (s h u j : ℕ) → t ≡ length wire.starts + s → h ≤ (get_or outs wire.output no_port).1 + s * period → h ≡ time u j → time u j < time t i
    sooner s h u j cycle le when =
        let whole : (get_or outs wire.output no_port).1 + suc wire.size ≡ wire.input.1 + length wire.starts * period = its.time in
        let here : time t i ≡ wire.input.1 + (length wire.starts + s) * period = ap₂ (λ port n. port.1 + n * period) (input_is wires i wire at) cycle in
        omega (arith, when, le, whole, here)

    due_early : (s : ℕ) → t ≡ length wire.starts + s → (h : ℕ) (x y : ℤ) → h ≤ (get_or outs wire.output no_port).1 + s * period → due_of_signals period (signals_at (all_inputs wires ins) (with_fed wires fed bits)) h x y ≡ due_of_signals period (signals_at (all_inputs wires ins) (with_fed wires other bits)) h x y
    due_early s cycle h x y le =
        ap (λ signals. due_of_signals period signals h x y) (signals_joined wires ins fed bits)
        ∙ list_any-append (lights period h x y) (signals_at (inputs_of wires) fed) (signals_at ins bits)
        ∙ ap (λ b. b || due_of_signals period (signals_at ins bits) h x y) (due_same period (inputs_of wires) fed other h x y (λ j k. lit_same period (get_or (inputs_of wires) j no_port) (λ u. fed u j) (λ u. other u j) h some (λ u when. same u j (omega (arith, k, length-map wires (λ wire. wire.input))) (sooner s h u j cycle le when))))
        ∙ sym (ap (λ signals. due_of_signals period signals h x y) (signals_joined wires ins other bits) ∙ list_any-append (lights period h x y) (signals_at (inputs_of wires) other) (signals_at ins bits))

    step : comes (Some wire) bits fed t ≡ comes (Some wire) bits other t
    step =
        elim (cases_lt t (length wire.starts)) [
          | inl lt ↦ both_first (length wire.starts) (flag_at wire.starts) _ t lt ∙ sym (both_first (length wire.starts) (flag_at wire.starts) _ t lt)
          | inr ge ↦
              let s = t - length wire.starts in
              let cycle : t ≡ length wire.starts + s = omega arith in
              ap (comes (Some wire) bits fed) cycle
              ∙ both_rest (length wire.starts) (flag_at wire.starts) (λ s. meaning (with_fed wires fed bits) s wire.output) s
              ∙ shown_early period some before (all_inputs wires ins) outs meaning part wire.output s its.source (with_fed wires fed bits) (with_fed wires other bits) (due_early s cycle)
              ∙ sym (ap (comes (Some wire) bits other) cycle ∙ both_rest (length wire.starts) (flag_at wire.starts) (λ s. meaning (with_fed wires other bits) s wire.output) s)
        ]

  -- they depend on those alone that came earlier
  strict : (bits fed other : ℕ → ℕ → Bool) (t i : ℕ) → i < length wires → ((u j : ℕ) → j < length wires → time u j < time t i → fed u j ≡ other u j) → next bits fed t i ≡ next bits other t i
  strict bits fed other t i l same = go (slice_get wires i) refl
    where
      go : (found : Option PortWire) → slice_get wires i ≡ found → comes found bits fed t ≡ comes found bits other t
      go None e = refl
      go (Some wire) e = step bits fed other t i same wire e

  -- the bits, right at all generations below n
  abbrev approx : (ℕ → ℕ → Bool) → ℕ → ℕ → ℕ → Bool
  approx bits zero t i = false
  approx bits (suc n) t i = next bits (approx bits n) t i

  agree : (bits : ℕ → ℕ → Bool) (n k t i : ℕ) → i < length wires → time t i < n → time t i < k → approx bits n t i ≡ approx bits k t i
  agree bits zero k t i l a b = absurd (omega arith)
  agree bits (suc n) zero t i l a b = absurd (omega arith)
  agree bits (suc n) (suc k) t i l a b =
      strict bits (approx bits n) (approx bits k) t i l (λ u j lj early. agree bits n k u j lj (omega (arith, a, early)) (omega (arith, b, early)))

  abbrev pub fed_of : PartMeaning
  fed_of bits t i = approx bits (suc (time t i)) t i

  is_fixed : (bits : ℕ → ℕ → Bool) (t i : ℕ) → i < length wires → fed_of bits t i ≡ next bits (fed_of bits) t i
  is_fixed bits t i l =
      strict bits (approx bits (time t i)) (fed_of bits) t i l (λ u j lj early. agree bits (time t i) (suc (time u j)) u j lj early (omega arith))

  pub feeds : (bits : ℕ → ℕ → Bool) → FeedsBack wires meaning bits (fed_of bits)
  feeds bits =
      record {
        starts = λ i wire at t lt. is_fixed bits t i (got_within wires i wire at) ∙ ap (λ found. comes found bits (fed_of bits) t) at ∙ both_first (length wire.starts) (flag_at wire.starts) (λ s. meaning (with_fed wires (fed_of bits) bits) s wire.output) t lt;
        later = λ i wire at t. is_fixed bits (length wire.starts + t) i (got_within wires i wire at) ∙ ap (λ found. comes found bits (fed_of bits) (length wire.starts + t)) at ∙ both_rest (length wire.starts) (flag_at wire.starts) (λ s. meaning (with_fed wires (fed_of bits) bits) s wire.output) t;
      }

  -- whatever is fed back comes by the wires
  module _ (bits other : ℕ → ℕ → Bool) (h : FeedsBack wires meaning bits other) where
    also_fixed : (t i : ℕ) → i < length wires → other t i ≡ next bits other t i
    also_fixed t i l = go (slice_get wires i) refl
      where
        step : (wire : PortWire) → slice_get wires i ≡ Some wire → other t i ≡ comes (Some wire) bits other t
        step wire at =
            elim (cases_lt t (length wire.starts)) [
              | inl lt ↦ h.starts i wire at t lt ∙ sym (both_first (length wire.starts) (flag_at wire.starts) (λ s. meaning (with_fed wires other bits) s wire.output) t lt)
              | inr ge ↦
                  let s = t - length wire.starts in
                  let cycle : t ≡ length wire.starts + s = omega arith in
                  ap (λ n. other n i) cycle
                  ∙ h.later i wire at s
                  ∙ sym (ap (comes (Some wire) bits other) cycle ∙ both_rest (length wire.starts) (flag_at wire.starts) (λ s. meaning (with_fed wires other bits) s wire.output) s)
            ]

        go : (found : Option PortWire) → slice_get wires i ≡ found → other t i ≡ comes found bits other t
        go None e = absurd (not_none wires i l e)
        go (Some wire) e = step wire e

    below : (n t i : ℕ) → i < length wires → time t i < n → other t i ≡ fed_of bits t i
    below zero t i l a = absurd (omega arith)
    below (suc n) t i l a =
        also_fixed t i l ∙ strict bits other (fed_of bits) t i l (λ u j lj early. below n u j lj (omega (arith, a, early))) ∙ sym (is_fixed bits t i l)

    pub only_these : (t i : ℕ) → i < length wires → other t i ≡ fed_of bits t i
    only_these t i l = below (suc (time t i)) t i l (omega arith)

  module _ (causal : IsCausalMeaning meaning) (bits others : ℕ → ℕ → Bool) (t : ℕ) (same : (u : ℕ) → u ≤ t → bits u ≡ others u) where
    -- one step more of the approximation
    module _ (n u : ℕ) (le : u ≤ t) (before_same : (v j : ℕ) → v ≤ t → approx bits n v j ≡ approx others n v j) where
      rows : (v : ℕ) → v ≤ t → with_fed wires (approx bits n) bits v ≡ with_fed wires (approx others n) others v
      rows v l = ap₂ (row_of_both (length wires)) (fun_ext (λ j. before_same v j l)) (same v l)

      wire_same : (wire : PortWire) → comes (Some wire) bits (approx bits n) u ≡ comes (Some wire) others (approx others n) u
      wire_same wire =
          elim (cases_lt u (length wire.starts)) [
            | inl lt ↦ both_first (length wire.starts) (flag_at wire.starts) _ u lt ∙ sym (both_first (length wire.starts) (flag_at wire.starts) _ u lt)
            | inr ge ↦
                let s = u - length wire.starts in
                let cycle : u ≡ length wire.starts + s = omega arith in
                ap (comes (Some wire) bits (approx bits n)) cycle
                ∙ both_rest (length wire.starts) (flag_at wire.starts) (λ s. meaning (with_fed wires (approx bits n) bits) s wire.output) s
                ∙ ap (λ row. row wire.output) (causal (with_fed wires (approx bits n) bits) (with_fed wires (approx others n) others) s (λ v l. rows v (omega (arith, l, le))))
                ∙ sym (ap (comes (Some wire) others (approx others n)) cycle ∙ both_rest (length wire.starts) (flag_at wire.starts) (λ s. meaning (with_fed wires (approx others n) others) s wire.output) s)
          ]

      found_same : (found : Option PortWire) → comes found bits (approx bits n) u ≡ comes found others (approx others n) u
      found_same None = refl
      found_same (Some wire) = wire_same wire

    approx_same : (n u i : ℕ) → u ≤ t → approx bits n u i ≡ approx others n u i
    approx_same zero u i le = refl
    approx_same (suc n) u i le = found_same n u le (λ v j l. approx_same n v j l) (slice_get wires i)

    pub causal_again : meaning (with_fed wires (fed_of bits) bits) t ≡ meaning (with_fed wires (fed_of others) others) t
    causal_again =
        causal (with_fed wires (fed_of bits) bits) (with_fed wires (fed_of others) others) t (λ u l. ap₂ (row_of_both (length wires)) (fun_ext (λ i. approx_same (suc (time u i)) u i l)) (same u l))
