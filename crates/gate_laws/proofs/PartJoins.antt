-- Two parts that wires join one way are a part.
use Rattle.std.proofs.Common.{ℕ, zero, suc, ◌+◌, ◌<◌, ◌≤◌, ◌≡◌, refl, sym, ap, ap₂, ◌∙◌, subst, inl, inr, Bool, false, List, [], ◌∷◌, ◌++◌, length, map, arith}
use Rattle.std.specs.Prelude.{Contains, Option, Some, None, slice_get}
use Rattle.std.proofs.Math.Path.{fun_ext}
use Rattle.std.proofs.lemmas.Option.{none-some, same_Some}
use Rattle.std.proofs.lemmas.List.{length-map, length-append, append-nil, get_or_append_left}
use Rattle.lists.specs.Items.{flag_at}
use Rattle.lists.proofs.Members.{in_from, contains_from, in_left, in_right, in_parts, in_got}
use Rattle.ww_rule.specs.Wireworld.{Plane}
use Rattle.gate_laws.specs.Signals.{Signal, CarriesSignals}
use Rattle.gate_laws.specs.Wires.{Wire, AreWiresDrawn}
use Rattle.gate_laws.specs.Rows.{Port, signal_of, signals_at, PartMeaning, IsPart, IsCausalMeaning, row_of_both}
use Rattle.gate_laws.specs.Laws.{StandApart, side_by_side}
use Rattle.gate_laws.specs.PortWires.{PortWire, nth_port, drawn_wire, HasPortWires, all_inputs, with_fed, IsFedPart}
use Rattle.gate_laws.specs.PartJoins.{comes_by_wires, joined_meaning, PartsJoin, LoneCellsAreParts, meaning_along, LoneCellsEndWires}
use Rattle.gate_laws.proofs.Rows.{no_port}
use Rattle.gate_laws.proofs.Lone.{lone_cells_carry}
use Rattle.gate_laws.proofs.Unite.{planes_unite}
use Rattle.gate_laws.proofs.Order.{order_is_free}
use Rattle.gate_laws.proofs.Beside.{signals_after}
use Rattle.gate_laws.proofs.Early.{both_first, both_rest, signals_both}
use Rattle.gate_laws.proofs.Feeding.{not_none, inputs_of, signals_joined}
use Rattle.gate_laws.proofs.PartWires.{parts_feed}
use Rattle.gate_laws.proofs.PartTimes.{by_parts, both_same}

-- rows are the same if both of their parts are
rows_same : (count : ℕ) (first other rest more : ℕ → Bool) (i : ℕ) → ((j : ℕ) → j < count → first j ≡ other j) → ((j : ℕ) → rest j ≡ more j) → row_of_both count first rest i ≡ row_of_both count other more i
rows_same zero first other rest more i same also = also i
rows_same (suc count) first other rest more zero same also = same 0 (omega arith)
rows_same (suc count) first other rest more (suc i) same also =
    rows_same count (λ j. first (suc j)) (λ j. other (suc j)) rest more i (λ j l. same (suc j) (omega (arith, l))) also

-- what comes by one of the wires
comes_at : (wires : List PortWire) (shown : ℕ → ℕ → Bool) (t i : ℕ) (wire : PortWire) → slice_get wires i ≡ Some wire → comes_by_wires wires shown t i ≡ row_of_both (length wire.starts) (flag_at wire.starts) (λ u. shown u wire.output) t
comes_at [] shown t i wire e = absurd (none-some wire e)
comes_at (first ∷ wires) shown t zero wire e =
    ap (λ w. row_of_both (length w.starts) (flag_at w.starts) (λ u. shown u w.output) t) (same_Some _ _ e)
comes_at (first ∷ wires) shown t (suc i) wire e = comes_at wires shown t i wire e

-- nothing comes before it is shown
comes_same : (wires : List PortWire) (shown more : ℕ → ℕ → Bool) (t i : ℕ) → ((s o : ℕ) → s ≤ t → shown s o ≡ more s o) → comes_by_wires wires shown t i ≡ comes_by_wires wires more t i
comes_same [] shown more t i same = refl
comes_same (wire ∷ wires) shown more t zero same =
    both_same (length wire.starts) (flag_at wire.starts) (λ u. shown u wire.output) (λ u. more u wire.output) t (λ s le. same s wire.output (omega (arith, le)))
comes_same (wire ∷ wires) shown more t (suc i) same = comes_same wires shown more t i same

module _ (outs outputs : List Port) where
  port_kept : (o : ℕ) → o < length outs → nth_port (outs ++ outputs) o ≡ nth_port outs o
  port_kept o l = get_or_append_left outs outputs no_port o l

  drawn_kept : (wires : List PortWire) → ((wire : PortWire) → Contains wires wire → wire.output < length outs) → map (drawn_wire outs) wires ≡ map (drawn_wire (outs ++ outputs)) wires
  drawn_kept [] sources = refl
  drawn_kept (wire ∷ wires) sources =
      ap₂ (λ w ws. w ∷ ws) (ap (λ port. drawn port) (sym (port_kept wire.output (sources wire (contains_from (wire ∷ wires) wire (inl refl)))))) (drawn_kept wires (λ w among. sources w (contains_from (wire ∷ wires) w (inr (in_from wires w among)))))
    where
      drawn : Port → Wire
      drawn port = record { size = wire.size; path = wire.path; from = signal_of port (λ t. false); to = signal_of wire.input (flag_at wire.starts) }

-- the wires may be said to begin at the outputs of both parts
wires_kept : (period : ℕ) (wires : List PortWire) (ins outs outputs : List Port) (before after : Plane) → HasPortWires period wires ins outs before after → HasPortWires period wires ins (outs ++ outputs) before after
wires_kept period wires ins outs outputs before after h =
    record {
      in_time = λ wire among. (let its = h.in_time wire among in
          record {
            source = omega (arith, its.source, length-append outs outputs);
            time = ap (λ port. port.1 + suc wire.size) (port_kept outs outputs wire.output its.source) ∙ its.time;
            clear = its.clear;
          });
      drawn = subst (λ ws. AreWiresDrawn period ws (signals_at ins (λ t i. false)) before after) (drawn_kept outs outputs wires (λ wire among. (h.in_time wire among).source)) h.drawn;
    }

-- the first two rows change places
changed : (x y z : List Signal) (s : Signal) → Contains (x ++ (y ++ z)) s → Contains (y ++ (x ++ z)) s
changed x y z s among =
    contains_from (y ++ (x ++ z)) s (elim (in_parts x (y ++ z) s (in_from (x ++ (y ++ z)) s among)) [
      | inl a ↦ in_right y (x ++ z) s (in_left x z s a)
      | inr r ↦
          elim (in_parts y z s r) [
            | inl b ↦ in_left y (x ++ z) s b
            | inr c ↦ in_right y (x ++ z) s (in_right x z s c)
          ]
    ])

module _ (period : ℕ) (wires : List PortWire) (p q : Plane) (ins outs inputs outputs : List Port) (meaning second : PartMeaning) where
  abbrev fed_count : ℕ
  fed_count = length wires

  -- the inputs of the wires come before those of the first part
  abbrev firsts : (ℕ → ℕ → Bool) → ℕ → ℕ → Bool
  firsts bits u i = bits u (fed_count + i)

  abbrev seconds : (ℕ → ℕ → Bool) → ℕ → ℕ → Bool
  seconds bits = with_fed wires bits (λ u i. bits u (fed_count + (length ins + i)))

  abbrev united_meaning : PartMeaning
  united_meaning bits t = row_of_both (length outs) (meaning (firsts bits) t) (second (seconds bits) t)

  module _ (bits : ℕ → ℕ → Bool) where
    abbrev fed : List Signal
    fed = signals_at (inputs_of wires) bits

    abbrev one : List Signal
    one = signals_at ins (firsts bits)

    abbrev other : List Signal
    other = signals_at inputs (λ u i. bits u (fed_count + (length ins + i)))

    abbrev shown : List Signal
    shown = signals_at outs (meaning (firsts bits)) ++ signals_at outputs (second (seconds bits))

    all : signals_at (all_inputs wires (ins ++ inputs)) bits ≡ fed ++ (one ++ other)
    all =
        signals_after (inputs_of wires) (ins ++ inputs) bits
        ∙ ap (λ n. fed ++ signals_at (ins ++ inputs) (λ u i. bits u (n + i))) (length-map wires (λ wire. wire.input))
        ∙ ap (λ signals. fed ++ signals) (signals_after ins inputs (firsts bits))

    in_order : CarriesSignals period (side_by_side p q) (one ++ (fed ++ other)) shown → CarriesSignals period (side_by_side p q) (fed ++ (one ++ other)) shown
    in_order run =
        order_is_free period (side_by_side p q) (one ++ (fed ++ other)) shown (fed ++ (one ++ other)) shown (λ s. (changed one fed other s, changed fed one other s)) (λ s among. contains_from ((one ++ (fed ++ other)) ++ shown) s (in_right (one ++ (fed ++ other)) shown s (in_from shown s among))) run

  united : StandApart p q → IsPart period p ins outs meaning → IsPart period q (all_inputs wires inputs) outputs second → IsPart period (side_by_side p q) (all_inputs wires (ins ++ inputs)) (outs ++ outputs) united_meaning
  united apart part beside bits =
      let seen = second (seconds bits) in
      let its = subst (λ signals. CarriesSignals period q signals (signals_at outputs seen)) (signals_joined wires inputs bits (λ u i. bits u (fed_count + (length ins + i)))) (beside (seconds bits)) in
      let both = planes_unite period p q (one bits) (signals_at outs (meaning (firsts bits))) (fed bits ++ other bits) (signals_at outputs seen) apart (part (firsts bits)) its in
      subst (λ signals. CarriesSignals period (side_by_side p q) signals (signals_at (outs ++ outputs) (united_meaning bits))) (sym (all bits)) (subst (CarriesSignals period (side_by_side p q) (fed bits ++ (one bits ++ other bits))) (sym (signals_both outs outputs (meaning (firsts bits)) seen)) (in_order bits both))

  module _ (long : 3 ≤ period) (after : Plane) (h : HasPortWires period wires (ins ++ inputs) outs (side_by_side p q) after) (whole : IsPart period (side_by_side p q) (all_inputs wires (ins ++ inputs)) (outs ++ outputs) united_meaning) (bits : ℕ → ℕ → Bool) where
    made : IsFedPart period wires (ins ++ inputs) (outs ++ outputs) united_meaning after
    made = parts_feed period long wires (ins ++ inputs) (outs ++ outputs) (side_by_side p q) after united_meaning (wires_kept period wires (ins ++ inputs) outs outputs (side_by_side p q) after h) whole

    abbrev come : ℕ → ℕ → Bool
    come = made.fed bits

    abbrev row : ℕ → ℕ → Bool
    row = with_fed wires come bits

    unfed : firsts row ≡ bits
    unfed = fun_ext (λ u. fun_ext (λ i. both_rest fed_count (come u) (bits u) i))

    first_shown : (t o : ℕ) → o < length outs → united_meaning row t o ≡ meaning bits t o
    first_shown t o l =
        both_first (length outs) (meaning (firsts row) t) (second (seconds row) t) o l ∙ ap (λ bits. meaning bits t o) unfed

    come_so : (t i : ℕ) (wire : PortWire) → slice_get wires i ≡ Some wire → come t i ≡ comes_by_wires wires (meaning bits) t i
    come_so t i wire at =
        let back = made.feeds bits in
        by_parts (length wire.starts) (λ u. come u i) (flag_at wire.starts) t (back.starts i wire at t)
        ∙ both_same (length wire.starts) (flag_at wire.starts) (λ u. come (length wire.starts + u) i) (λ u. meaning bits u wire.output) t (λ s le. back.later i wire at s ∙ first_shown s wire.output (h.in_time wire (contains_from wires wire (in_got wires i wire at))).source)
        ∙ sym (comes_at wires (meaning bits) t i wire at)

    come_same : (t i : ℕ) → i < fed_count → come t i ≡ comes_by_wires wires (meaning bits) t i
    come_same t i l = go (slice_get wires i) refl
      where
        go : (found : Option PortWire) → slice_get wires i ≡ found → come t i ≡ comes_by_wires wires (meaning bits) t i
        go None e = absurd (not_none wires i l e)
        go (Some wire) e = come_so t i wire e

    to_second : seconds row ≡ with_fed wires (comes_by_wires wires (meaning bits)) (λ u i. bits u (length ins + i))
    to_second =
        fun_ext (λ u. fun_ext (λ i. rows_same fed_count (row u) (comes_by_wires wires (meaning bits) u) (λ j. row u (fed_count + (length ins + j))) (λ j. bits u (length ins + j)) i (λ j l. both_first fed_count (come u) (bits u) j l ∙ come_same u j l) (λ j. both_rest fed_count (come u) (bits u) (length ins + j))))

    as_joined : united_meaning row ≡ joined_meaning wires (length ins) (length outs) meaning second bits
    as_joined =
        fun_ext (λ t. ap₂ (λ (bits : ℕ → ℕ → Bool) (others : ℕ → ℕ → Bool). row_of_both (length outs) (meaning bits t) (second others t)) unfed to_second)

    joined : CarriesSignals period after (signals_at (ins ++ inputs) bits) (signals_at (outs ++ outputs) (joined_meaning wires (length ins) (length outs) meaning second bits))
    joined =
        subst (λ shown. CarriesSignals period after (signals_at (ins ++ inputs) bits) (signals_at (outs ++ outputs) shown)) as_joined (made.part bits)

  abbrev to_left : (ℕ → ℕ → Bool) → ℕ → ℕ → Bool
  to_left bits = with_fed wires (comes_by_wires wires (meaning bits)) (λ u i. bits u (length ins + i))

  causal_joined : IsCausalMeaning meaning → IsCausalMeaning second → IsCausalMeaning (joined_meaning wires (length ins) (length outs) meaning second)
  causal_joined causal also bits others t same =
      ap₂ (row_of_both (length outs)) (causal bits others t same) (also (to_left bits) (to_left others) t (λ u le. ap₂ (row_of_both fed_count) (fun_ext (λ i. comes_same wires (meaning bits) (meaning others) u i (λ s o early. ap (λ row. row o) (causal bits others s (λ v l. same v (omega (arith, l, early, le))))))) (ap (λ (row : ℕ → Bool). λ (i : ℕ). row (length ins + i)) (same u le))))

pub parts_join : PartsJoin
parts_join period long wires p q after ins outs inputs outputs meaning second apart h part beside = (
  joined period wires p q ins outs inputs outputs meaning second long after h (united period wires p q ins outs inputs outputs meaning second apart part beside),
  causal_joined period wires p q ins outs inputs outputs meaning second,
)

pub lone_cells_are_parts : LoneCellsAreParts
lone_cells_are_parts period long p port lone bits = lone_cells_carry period long p (signal_of port (λ t. bits t 0)) lone

-- past the last output the two meanings differ
at_outputs : (wire : PortWire) (outs : List Port) (meaning : PartMeaning) (inputs : ℕ) (bits : ℕ → ℕ → Bool) → signals_at (outs ++ wire.input ∷ []) (joined_meaning (wire ∷ []) inputs (length outs) meaning (λ bits. bits) bits) ≡ signals_at (outs ++ wire.input ∷ []) (meaning_along wire (length outs) meaning bits)
at_outputs wire outs meaning inputs bits =
    signals_both outs (wire.input ∷ []) (meaning bits) (with_fed (wire ∷ []) (comes_by_wires (wire ∷ []) (meaning bits)) (λ u i. bits u (inputs + i)))
    ∙ sym (signals_both outs (wire.input ∷ []) (meaning bits) (comes_by_wires (wire ∷ []) (meaning bits)))

pub lone_cells_end_wires : LoneCellsEndWires
lone_cells_end_wires period long wire p lone after ins outs meaning is_lone apart h part = (
  λ bits. let wires = subst (λ ports. HasPortWires period (wire ∷ []) ports outs (side_by_side p lone) after) (sym (append-nil ins)) h in
      let whole = parts_join period long (wire ∷ []) p lone after ins outs [] (wire.input ∷ []) meaning (λ bits. bits) apart wires part (lone_cells_are_parts period long lone wire.input is_lone) in
      subst (λ ports. CarriesSignals period after (signals_at ports bits) (signals_at (outs ++ wire.input ∷ []) (meaning_along wire (length outs) meaning bits))) (append-nil ins) (subst (CarriesSignals period after (signals_at (ins ++ []) bits)) (at_outputs wire outs meaning (length ins) bits) (whole.0 bits)),
  λ causal bits others t same. ap₂ (row_of_both (length outs)) (causal bits others t same) (fun_ext (λ i. comes_same (wire ∷ []) (meaning bits) (meaning others) t i (λ s o le. ap (λ row. row o) (causal bits others s (λ u l. same u (omega (arith, l, le))))))),
)
