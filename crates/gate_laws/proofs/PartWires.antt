-- A part whose wires are laid is a part again.
use Rattle.std.proofs.Common.{ℤ, ℕ, zero, suc, ◌+◌, ◌*◌, ◌<◌, ◌≤◌, ◌≡◌, refl, sym, ap, ap₂, ◌∙◌, subst, inl, inr, Bool, false, List, [], ◌∷◌, ◌++◌, length, map, get_or, arith}
use Rattle.std.specs.Prelude.{Contains, ◌≢◌, if◌then◌else◌, Some, slice_get}
use Rattle.std.proofs.lemmas.Bool.{cases_lt}
use Rattle.std.proofs.lemmas.Option.{none-some, same_Some}
use Rattle.std.proofs.Math.Nat.{mul-le-mul_right}
use Rattle.lists.specs.Items.{flag_at}
use Rattle.lists.proofs.Members.{In, in_from, contains_from, in_right, in_map, in_mapped, in_got, got_from}
use Rattle.ww_rule.specs.declared.pattern.State.TheVariants.{Head, Tail, Conductor}
use Rattle.ww_rule.specs.Wireworld.{Plane}
use Rattle.gate_laws.specs.Signals.{Signal, cell_state, is_lit, CarriesSignals}
use Rattle.gate_laws.specs.Wires.{Wire, ComesByWire, IsWireDrawn, IsLaid, ShareNoCell, AreDisjointWires, IsAwayFrom, HasWires}
use Rattle.gate_laws.specs.Rows.{Port, signal_of, signals_at, PartMeaning, IsPart}
use Rattle.gate_laws.specs.PortWires.{PortWire, drawn_wire, ComesInTime, HasPortWires, all_inputs, with_fed, FeedsBack, PartsFeed}
use Rattle.gate_laws.proofs.Delay.{wires_delay}
use Rattle.gate_laws.proofs.Rows.{port_signal, no_port, port_of_signal, signal_of_port}
use Rattle.gate_laws.proofs.Together.{wires_feed}
use Rattle.gate_laws.proofs.Early.{lit_same}
use Rattle.gate_laws.proofs.Feeding.{inputs_of, signals_joined, fed_of, feeds, only_these, causal_again}

-- a wire with the signals that it brings
abbrev wire_with : List Port → (shown : ℕ → ℕ → Bool) → PortWire → (ℕ → Bool) → Wire
wire_with outs shown wire bit =
    record { size = wire.size; path = wire.path; from = port_signal (get_or outs wire.output no_port) shown wire.output; to = signal_of wire.input bit }

abbrev wires_with : List Port → (shown : ℕ → ℕ → Bool) → List PortWire → (ℕ → ℕ → Bool) → List Wire
wires_with outs shown [] fed = []
wires_with outs shown (wire ∷ wires) fed = wire_with outs shown wire (λ t. fed t 0) ∷ wires_with outs shown wires (λ t i. fed t (suc i))

record IsWith (outs : List Port) (shown : ℕ → ℕ → Bool) (wires : List PortWire) (fed : ℕ → ℕ → Bool) (w : Wire) : Type 0 where
  number : ℕ
  wire : PortWire
  at : slice_get wires number ≡ Some wire
  is : w ≡ wire_with outs shown wire (λ t. fed t number)

module _ (outs : List Port) (shown : ℕ → ℕ → Bool) where
  one_of : (wires : List PortWire) (fed : ℕ → ℕ → Bool) (w : Wire) → In w (wires_with outs shown wires fed) → IsWith outs shown wires fed w
  one_of [] fed w i = absurd i
  one_of (wire ∷ wires) fed w (inl e) = record { number = 0; wire = wire; at = refl; is = e }
  one_of (wire ∷ wires) fed w (inr i) = let o = one_of wires (λ t i. fed t (suc i)) w i in record { number = suc o.number; wire = o.wire; at = o.at; is = o.is }

  with_in : (wires : List PortWire) (fed : ℕ → ℕ → Bool) (i : ℕ) (wire : PortWire) → slice_get wires i ≡ Some wire → In (wire_with outs shown wire (λ t. fed t i)) (wires_with outs shown wires fed)
  with_in [] fed i wire e = absurd (none-some wire e)
  with_in (first ∷ wires) fed zero wire e = inl (ap (λ w. wire_with outs shown w (λ t. fed t 0)) (sym (same_Some _ _ e)))
  with_in (first ∷ wires) fed (suc i) wire e = inr (with_in wires (λ t i. fed t (suc i)) i wire e)

  ends_are : (wires : List PortWire) (fed : ℕ → ℕ → Bool) → map (λ w. w.to) (wires_with outs shown wires fed) ≡ signals_at (inputs_of wires) fed
  ends_are [] fed = refl
  ends_are (wire ∷ wires) fed = ap (λ rest. signal_of wire.input (λ t. fed t 0) ∷ rest) (ends_are wires (λ t i. fed t (suc i)))

  disjoint : (wires : List PortWire) (fed : ℕ → ℕ → Bool) → AreDisjointWires (map (drawn_wire outs) wires) → AreDisjointWires (wires_with outs shown wires fed)
  disjoint [] fed h = tt
  disjoint (wire ∷ wires) fed h = (
    λ other among. (let o = one_of wires (λ t i. fed t (suc i)) other (in_from (wires_with outs shown wires (λ t i. fed t (suc i))) other among) in
        let apart = h.0 (drawn_wire outs o.wire) (contains_from (map (drawn_wire outs) wires) (drawn_wire outs o.wire) (in_map (drawn_wire outs) wires o.wire (in_got wires o.number o.wire o.at))) in
        subst (ShareNoCell (wire_with outs shown wire (λ t. fed t 0))) (sym o.is) (record { cells = apart.cells; ends = apart.ends })),
    disjoint wires (λ t i. fed t (suc i)) h.1,
  )

module _ (period : ℕ) (long : 3 ≤ period) (wires : List PortWire) (ins outs : List Port) (before after : Plane) (meaning : PartMeaning) (h : HasPortWires period wires ins outs before after) (part : IsPart period before (all_inputs wires ins) outs meaning) (bits fed : ℕ → ℕ → Bool) (back : FeedsBack wires meaning bits fed) where
  abbrev shown : ℕ → ℕ → Bool
  shown = meaning (with_fed wires fed bits)

  abbrev all : List Wire
  all = wires_with outs shown wires fed

  some : 0 < period
  some = omega (arith, long)

  module _ (i : ℕ) (wire : PortWire) (at : slice_get wires i ≡ Some wire) where
    abbrev its_wire : Wire
    its_wire = wire_with outs shown wire (λ t. fed t i)

    its : ComesInTime period outs wire
    its = h.in_time wire (contains_from wires wire (in_got wires i wire at))

    drawn_among : Contains (map (drawn_wire outs) wires) (drawn_wire outs wire)
    drawn_among = contains_from (map (drawn_wire outs) wires) (drawn_wire outs wire) (in_map (drawn_wire outs) wires wire (in_got wires i wire at))

    -- what is on the wire at generation 0 are its start bits
    started : (g u : ℕ) → g ≤ wire.size → g ≡ wire.input.1 + u * period → u < length wire.starts
    started g u le when =
        let whole : (get_or outs wire.output no_port).1 + suc wire.size ≡ wire.input.1 + length wire.starts * period = its.time in
        elim (cases_lt u (length wire.starts)) [
          | inl lt ↦ lt
          | inr ge ↦ let more : length wire.starts * period ≤ u * period = mul-le-mul_right period ge in absurd (omega (arith, whole, le, when, more))
        ]

    same_lit : (g : ℕ) → g ≤ wire.size → is_lit period (signal_of wire.input (λ t. fed t i)) g ≡ is_lit period (signal_of wire.input (flag_at wire.starts)) g
    same_lit g le = lit_same period wire.input (λ t. fed t i) (flag_at wire.starts) g some (λ u when. back.starts i wire at u (started g u le when))

    is_drawn : IsWireDrawn its_wire
    is_drawn = let d = h.drawn.each (drawn_wire outs wire) drawn_among in record { some = d.some; along = d.along; begins = d.begins; ends = d.ends }

    is_laid : IsLaid period its_wire before after
    is_laid =
        let d = h.drawn.laid (drawn_wire outs wire) drawn_among in
        record {
          free = d.free;
          states = λ j rest place. d.states j rest place ∙ ap₂ (λ a b. if a then Head else if b then Tail else Conductor) (sym (same_lit (suc rest) (omega (arith, place)))) (sym (same_lit rest (omega (arith, place))));
          alone = d.alone;
          end = d.end ∙ ap (λ b. if b then Head else cell_state before wire.input.0) (sym (same_lit 0 (omega arith)));
        }

    comes_by : ComesByWire period wire.size (port_signal (get_or outs wire.output no_port) shown wire.output) (signal_of wire.input (λ t. fed t i))
    comes_by = wires_delay period wire.size (length wire.starts) (port_signal (get_or outs wire.output no_port) shown wire.output) (signal_of wire.input (λ t. fed t i)) some (record {
      time = its.time;
      bits = λ t. back.later i wire at t;
      starts = λ t lt late. back.starts i wire at t lt ∙ its.clear t late;
    })

    begins_there : Contains (signals_at ins bits ++ signals_at outs shown) (port_signal (get_or outs wire.output no_port) shown wire.output)
    begins_there =
        let s = port_signal (get_or outs wire.output no_port) shown wire.output in
        contains_from (signals_at ins bits ++ signals_at outs shown) s (in_right (signals_at ins bits) (signals_at outs shown) s (signal_of_port outs shown wire.output its.source))

    its_own : (s : Signal) → Contains (signals_at ins bits) s → s.cell ≢ wire.input.0
    its_own s among =
        let of = port_of_signal ins bits s (in_from (signals_at ins bits) s among) in
        let dark = port_signal (get_or ins of.port no_port) (λ t i. false) of.port in
        let apart = h.drawn.own (drawn_wire outs wire) dark drawn_among (contains_from (signals_at ins (λ t i. false)) dark (signal_of_port ins (λ t i. false) of.port of.within)) in
        λ e. apart (ap (λ s. s.cell) (sym of.is) ∙ e)

  found : (w : Wire) → Contains all w → IsWith outs shown wires fed w
  found w among = one_of outs shown wires fed w (in_from all w among)

  has_wires : HasWires period all (signals_at ins bits) (signals_at outs shown) before after
  has_wires =
      record {
        drawn = record {
          each = λ w among. (let o = found w among in subst IsWireDrawn (sym o.is) (is_drawn o.number o.wire o.at));
          own = λ w s among is. (let o = found w among in subst (λ w. s.cell ≢ w.to.cell) (sym o.is) (its_own o.number o.wire o.at s is));
          apart = disjoint outs shown wires fed h.drawn.apart;
          laid = λ w among. (let o = found w among in subst (λ w. IsLaid period w before after) (sym o.is) (is_laid o.number o.wire o.at));
          others = λ c away. h.drawn.others c (λ d among. still_away c away d (in_mapped (drawn_wire outs) wires d (in_from (map (drawn_wire outs) wires) d among)));
        };
        sources = λ w among. (let o = found w among in subst (λ w. Contains (signals_at ins bits ++ signals_at outs shown) w.from) (sym o.is) (begins_there o.number o.wire o.at));
        come = λ w among. (let o = found w among in subst (λ w. ComesByWire period w.size w.from w.to) (sym o.is) (comes_by o.number o.wire o.at));
      }
    where
      still_away : (c : ℤ × ℤ) → ((w : Wire) → Contains all w → IsAwayFrom w c) → (d : Wire) → (wire : PortWire) × In wire wires × (d ≡ drawn_wire outs wire) → IsAwayFrom d c
      still_away c away d (wire, i, e) =
          let at = got_from wires wire i in
          let a = away (wire_with outs shown wire (λ t. fed t at.0)) (contains_from all _ (with_in outs shown wires fed at.0 wire at.1)) in
          subst (λ w. IsAwayFrom w c) (sym e) (record { end = a.end; cells = a.cells })

  pub carried_by : CarriesSignals period after (signals_at ins bits) (signals_at outs shown)
  carried_by =
      let inputs : signals_at (all_inputs wires ins) (with_fed wires fed bits) ≡ map (λ w. w.to) all ++ signals_at ins bits = signals_joined wires ins fed bits ∙ ap (λ signals. signals ++ signals_at ins bits) (sym (ends_are outs shown wires fed)) in
      wires_feed period long all (signals_at ins bits) (signals_at outs shown) before after has_wires (subst (λ signals. CarriesSignals period before signals (signals_at outs shown)) inputs (part (with_fed wires fed bits)))

pub parts_feed : PartsFeed
parts_feed period long wires ins outs before after meaning h part =
    let some : 0 < period = omega (arith, long) in
    record {
      fed = fed_of period some wires ins outs before meaning part h.in_time;
      feeds = feeds period some wires ins outs before meaning part h.in_time;
      only = λ bits other back. only_these period some wires ins outs before meaning part h.in_time bits other back;
      part = λ bits. carried_by period long wires ins outs before after meaning h part bits (fed_of period some wires ins outs before meaning part h.in_time bits) (feeds period some wires ins outs before meaning part h.in_time bits);
      causal = λ causal bits others t same. causal_again period some wires ins outs before meaning part h.in_time causal bits others t same;
    }
