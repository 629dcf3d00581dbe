-- A plane that computes a list of cells carries its runs.
use Rattle.std.proofs.Common.{ℤ, ℕ, suc, ◌+◌, ◌*◌, ◌<◌, ◌≤◌, ◌≡◌, sym, ap, ap₂, ◌∙◌, subst, inl, inr, Bool, List, [], ◌∷◌, ◌++◌, map, arith}
use Rattle.std.specs.Prelude.{Contains, if◌then◌else◌}
use Rattle.std.proofs.lemmas.Bool.{cases_lt}
use Rattle.std.proofs.lemmas.List.{length-map, map-append}
use Rattle.std.proofs.lemmas.Simd.{map-map}
use Rattle.std.proofs.Math.Nat.{mul-le-mul_right}
use Rattle.lists.proofs.Members.{In, in_from, contains_from, in_map, in_mapped}
use Rattle.ww_rule.specs.declared.pattern.State.TheVariants.{Head, Tail, Conductor}
use Rattle.ww_rule.specs.Wireworld.{Plane}
use Rattle.gate_laws.specs.Signals.{Signal, cell_state, is_lit, CarriesSignals}
use Rattle.gate_laws.specs.Wires.{Wire, IsWireDrawn, IsLaid, ShareNoCell, AreDisjointWires, IsAwayFrom, AreWiresDrawn, ComesCyclesLater}
use Rattle.gate_laws.proofs.Early.{lit_same}
use Rattle.gate_laws.specs.Gates.{IsGateForPeriod}
use Rattle.routed_circuits.specs.Routed.{PlacedGate, placed_ins, placed_outs, placed_port, gates_plane, signals_of, AreGates, IsRouted}
use Rattle.routed_circuits.proofs.Routed.{routed_carry}
use Rattle.cell_core.specs.declared.list.CellList.{CellList}
use Rattle.routed_circuits.specs.Runs.{list_bit}
use Rattle.routed_circuits.specs.Lists.{Point, SourcedGate, placed_of, in_points, out_points, all_points, point_signal, SourcedWire, wire_in_run, ComputesSources, DelaysSource, ComputesList, ListsAreCarried}
use Rattle.routed_circuits.proofs.Delayed.{delayed_later, delayed_start}
use Rattle.routed_circuits.proofs.Points.{same_images, sourced_bits, signals_are, answers_are}

module _ (period : ℕ) (least : 3 ≤ period) (list : CellList) (rows : List (List Bool)) where
  some : 0 < period
  some = omega (arith, least)

  abbrev signal : Point → Signal
  signal = point_signal list rows

  abbrev laid_wire : SourcedWire → Wire
  laid_wire = wire_in_run list rows

  module _ (wire : SourcedWire) (delay : DelaysSource period list wire) where
    -- a bit that is at the wire's end while its own electrons come is a start bit
    started : (g t : ℕ) → g ≤ wire.size → g ≡ wire.to.0.1 + t * period → t < wire.cycles
    started g t le when =
        let whole : wire.from.0.1 + suc wire.size ≡ wire.to.0.1 + wire.cycles * period = delay.time in
        elim (cases_lt t wire.cycles) [
          | inl lt ↦ lt
          | inr ge ↦ let more : wire.cycles * period ≤ t * period = mul-le-mul_right period ge in absurd (omega (arith, whole, le, when, more))
        ]

    same_lit : (g : ℕ) → g ≤ wire.size → is_lit period (signal wire.to) g ≡ is_lit period (point_signal list [] wire.to) g
    same_lit g le =
        lit_same period wire.to.0 (λ t. list_bit list rows t wire.to.1) (λ t. list_bit list [] t wire.to.1) g some (λ t when. delayed_start list rows [] wire.cycles wire.from.1 wire.to.1 delay.source t (started g t le when))

    laid_in_run : (before after : Plane) → IsLaid period (wire_in_run list [] wire) before after → IsLaid period (laid_wire wire) before after
    laid_in_run before after laid = record {
      free = laid.free;
      states = λ j rest place. laid.states j rest place ∙ ap₂ (λ a b. if a then Head else if b then Tail else Conductor) (sym (same_lit (suc rest) (omega (arith, place)))) (sym (same_lit rest (omega (arith, place))));
      alone = laid.alone;
      end = laid.end ∙ ap (λ b. if b then Head else cell_state before wire.to.0.0) (sym (same_lit 0 (omega arith)));
    }

    comes : ComesCyclesLater period wire.size wire.cycles (signal wire.from) (signal wire.to)
    comes = record {
      time = delay.time;
      bits = λ t. delayed_later list rows wire.cycles wire.from.1 wire.to.1 delay.source t;
      starts = λ t lt late. delayed_start list rows [] wire.cycles wire.from.1 wire.to.1 delay.source t lt ∙ delay.clear t lt late;
    }

  disjoint : (wires : List SourcedWire) → AreDisjointWires (map (wire_in_run list []) wires) → AreDisjointWires (map laid_wire wires)
  disjoint [] h = tt
  disjoint (wire ∷ wires) h = (
    λ other among. (let found = in_mapped laid_wire wires other (in_from (map laid_wire wires) other among) in
        let apart = h.0 (wire_in_run list [] found.0) (contains_from (map (wire_in_run list []) wires) (wire_in_run list [] found.0) (in_map (wire_in_run list []) wires found.0 found.1)) in
        subst (ShareNoCell (laid_wire wire)) (sym found.2) (record { cells = apart.cells; ends = apart.ends })),
    disjoint wires h.1,
  )

  module _ (gates : List SourcedGate) (wires : List SourcedWire) (ins : List Point) (plane : Plane) (h : ComputesList period list gates wires ins plane) where
    found_wire : (w : Wire) → Contains (map laid_wire wires) w → (wire : SourcedWire) × In wire wires × (w ≡ laid_wire wire)
    found_wire w among = in_mapped laid_wire wires w (in_from (map laid_wire wires) w among)

    delay_of : (wire : SourcedWire) → In wire wires → DelaysSource period list wire
    delay_of wire i = h.delay wire (contains_from wires wire i)

    first_one : (wire : SourcedWire) → In wire wires → Contains (map (wire_in_run list []) wires) (wire_in_run list [] wire)
    first_one wire i = contains_from (map (wire_in_run list []) wires) (wire_in_run list [] wire) (in_map (wire_in_run list []) wires wire i)

    drawn : AreWiresDrawn period (map laid_wire wires) (map signal ins) (gates_plane (map placed_of gates)) plane
    drawn = record {
      each = λ w among. (let (wire, i, e) = found_wire w among in
          let d = h.drawn.each (wire_in_run list [] wire) (first_one wire i) in
          subst IsWireDrawn (sym e) (record { some = d.some; along = d.along; begins = d.begins; ends = d.ends }));
      own = λ w s among is. (let (wire, i, e) = found_wire w among in
          let (point, j, f) = in_mapped signal ins s (in_from (map signal ins) s is) in
          let apart = h.drawn.own (wire_in_run list [] wire) (point_signal list [] point) (first_one wire i) (contains_from (map (point_signal list []) ins) (point_signal list [] point) (in_map (point_signal list []) ins point j)) in
          λ same. apart (sym (ap (λ (s : Signal). s.cell) f) ∙ same ∙ ap (λ (w : Wire). w.to.cell) e));
      apart = disjoint wires h.drawn.apart;
      laid = λ w among. (let (wire, i, e) = found_wire w among in
          subst (λ w. IsLaid period w (gates_plane (map placed_of gates)) plane) (sym e) (laid_in_run wire (delay_of wire i) (gates_plane (map placed_of gates)) plane (h.drawn.laid (wire_in_run list [] wire) (first_one wire i))));
      others = λ c away. h.drawn.others c (λ w among. still_away c away (in_mapped (wire_in_run list []) wires w (in_from (map (wire_in_run list []) wires) w among)));
    }
      where
        still_away : (c : ℤ × ℤ) → ((w : Wire) → Contains (map laid_wire wires) w → IsAwayFrom w c) → {w : Wire} → (wire : SourcedWire) × In wire wires × (w ≡ wire_in_run list [] wire) → IsAwayFrom w c
        still_away c away (wire, i, e) =
            let a = away (laid_wire wire) (contains_from (map laid_wire wires) (laid_wire wire) (in_map laid_wire wires wire i)) in
            subst (λ w. IsAwayFrom w c) (sym e) (record { end = a.end; cells = a.cells })

    computes_of : (gate : SourcedGate) → In gate gates → ComputesSources period list gate
    computes_of gate i = h.gates_compute gate (contains_from gates gate i)

    abbrev in_bits : ℕ → ℕ → ℕ → Bool
    in_bits = sourced_bits list rows (λ gate. gate.ins) gates

    abbrev out_bits : ℕ → ℕ → ℕ → Bool
    out_bits = sourced_bits list rows (λ gate. gate.outs) gates

    ins_are : signals_of placed_ins (map placed_of gates) in_bits ≡ map signal (in_points gates)
    ins_are = signals_are list rows placed_ins (λ gate. gate.ins) gates (λ gate i. (computes_of gate i).ins ∙ sym (length-map gate.placed.gate.ins (placed_port gate.placed)))

    outs_are : signals_of placed_outs (map placed_of gates) out_bits ≡ map signal (out_points gates)
    outs_are = signals_are list rows placed_outs (λ gate. gate.outs) gates (λ gate i. (computes_of gate i).outs ∙ sym (length-map gate.placed.gate.outs (placed_port gate.placed)))

    all_are : signals_of placed_ins (map placed_of gates) in_bits ++ signals_of placed_outs (map placed_of gates) out_bits ≡ map signal (all_points gates)
    all_are = ap₂ (λ a b. a ++ b) ins_are outs_are ∙ sym (map-append signal (in_points gates) (out_points gates))

    gates_are : AreGates period (map placed_of gates) in_bits out_bits
    gates_are = record {
      laws = λ placed among. (let (gate, i, e) = in_mapped placed_of gates placed (in_from (map placed_of gates) placed among) in subst (λ (p : PlacedGate). IsGateForPeriod period p.gate) (sym e) (computes_of gate i).law);
      apart = h.apart;
      answers = answers_are list rows period gates computes_of;
    }

    ends_are : map (λ (w : Wire). w.to) (map laid_wire wires) ++ map signal ins ≡ map signal (map (λ (wire : SourcedWire). wire.to) wires ++ ins)
    ends_are =
        ap (λ ends. ends ++ map signal ins) (map-map (λ (w : Wire). w.to) laid_wire wires ∙ sym (map-map signal (λ (wire : SourcedWire). wire.to) wires))
        ∙ sym (map-append signal (map (λ (wire : SourcedWire). wire.to) wires) ins)

    routed : IsRouted period (map placed_of gates) in_bits out_bits (map laid_wire wires) (map signal ins) plane
    routed = record {
      gates_are = gates_are;
      fed = λ s. (
        λ among. subst (λ signals. Contains signals s) (sym ends_are) ((same_images signal (in_points gates) (map (λ (wire : SourcedWire). wire.to) wires ++ ins) h.fed s).0 (subst (λ signals. Contains signals s) ins_are among)),
        λ among. subst (λ signals. Contains signals s) (sym ins_are) ((same_images signal (in_points gates) (map (λ (wire : SourcedWire). wire.to) wires ++ ins) h.fed s).1 (subst (λ signals. Contains signals s) ends_are among)),
      );
      drawn = drawn;
      sources = λ w among. (let (wire, i, e) = found_wire w among in
          subst (λ (w : Wire). Contains (signals_of placed_ins (map placed_of gates) in_bits ++ signals_of placed_outs (map placed_of gates) out_bits) w.from) (sym e)
          (subst (λ signals. Contains signals (signal wire.from)) (sym all_are) (contains_from (map signal (all_points gates)) (signal wire.from) (in_map signal (all_points gates) wire.from (in_from (all_points gates) wire.from (h.begin wire (contains_from wires wire i)))))));
      come = λ w among. (let (wire, i, e) = found_wire w among in
          (wire.cycles, subst (λ (w : Wire). ComesCyclesLater period w.size wire.cycles w.from w.to) (sym e) (comes wire (delay_of wire i))));
    }

    carried : CarriesSignals period plane (map signal ins) (map signal (all_points gates))
    carried = subst (CarriesSignals period plane (map signal ins)) all_are (routed_carry period least (map placed_of gates) in_bits out_bits (map laid_wire wires) (map signal ins) plane routed)

pub lists_are_carried : ListsAreCarried
lists_are_carried period least list gates wires ins plane h rows = carried period least list rows gates wires ins plane h
