-- Gates beside each other, and wires between them.
use Rattle.std.proofs.Common.{ℤ, ◌+ℤ◌, ℕ, suc, ◌+◌, ◌<◌, ◌≤◌, ◌≡◌, refl, sym, ap₂, subst, inl, inr, Bool, List, [], ◌∷◌, ◌++◌, length, map, arith}
use Rattle.std.specs.Prelude.{Contains, ◌≢◌, ◌⊎◌}
use Rattle.std.proofs.lemmas.Simd.{map-map}
use Rattle.std.proofs.lemmas.List.{length-map}
use Rattle.lists.proofs.Members.{in_from, contains_from, in_right}
use Rattle.ww_rule.specs.declared.pattern.State.TheVariants.{Empty, Head, Tail, Conductor}
use Rattle.ww_rule.specs.Wireworld.{Plane}
use Rattle.gate_laws.specs.Signals.{cell_state, CarriesSignals}
use Rattle.gate_laws.specs.Wires.{Wire}
use Rattle.gate_laws.specs.Rows.{Port, signals_at, HasNoElectrons, IsPart}
use Rattle.gate_laws.specs.PartLaws.{moved_port}
use Rattle.gate_laws.specs.Laws.{StandApart, or_state}
use Rattle.gate_laws.proofs.Unite.{planes_unite}
use Rattle.gate_laws.proofs.Order.{order_is_free}
use Rattle.gate_laws.proofs.Together.{wires_feed}
use Rattle.gate_laws.proofs.Delay.{wires_delay}
use Rattle.gate_laws.proofs.Rows.{same_signals}
use Rattle.gate_laws.proofs.Later.{parts_start_later}
use Rattle.gate_laws.proofs.Moved.{parts_move}
use Rattle.gate_laws.specs.Gates.{Gate, gate_answer, IsGateForPeriod}
use Rattle.routed_circuits.specs.Routed.{PlacedGate, gate_plane, placed_port, placed_ins, placed_outs, gates_plane, signals_of, GatesCarry, RoutedCarry}

no_electrons : (period : ℕ) (gate : Gate) → IsGateForPeriod period gate → HasNoElectrons gate.plane
no_electrons period gate law = record { heads = λ x y. heads (x, y) (law.cells (x, y)); tails = λ x y. tails (x, y) (law.cells (x, y)) }
  where
    heads : (c : ℤ × ℤ) → (cell_state gate.plane c ≡ Empty) ⊎ (cell_state gate.plane c ≡ Conductor) → cell_state gate.plane c ≢ Head
    heads c (inl e) h = grind arith
    heads c (inr e) h = grind arith

    tails : (c : ℤ × ℤ) → (cell_state gate.plane c ≡ Empty) ⊎ (cell_state gate.plane c ≡ Conductor) → cell_state gate.plane c ≢ Tail
    tails c (inl e) h = grind arith
    tails c (inr e) h = grind arith

-- a placed gate is a part
placed_is_part : (period : ℕ) → 3 ≤ period → (placed : PlacedGate) → IsGateForPeriod period placed.gate
    → IsPart period (gate_plane placed) (placed_ins placed) (placed_outs placed) (λ bits t. gate_answer placed.gate (bits t))
placed_is_part period least placed law =
    let gate = placed.gate in
    let some : 0 < period = omega (arith, least) in
    let meaning = λ (bits : ℕ → ℕ → Bool) (t : ℕ). gate_answer gate (bits t) in
    let later : Port → Port = λ port. (port.0, placed.first + port.1) in
    let place : ℤ × ℤ → ℤ × ℤ = λ cell. (cell.0 +ℤ placed.x, cell.1 +ℤ placed.y) in
    let there = (parts_move gate.plane).moves placed.x placed.y period (map later gate.ins) (map later gate.outs) meaning (parts_start_later period placed.first some gate.plane gate.ins gate.outs meaning (no_electrons period gate law) law.answers) in
    let ins : map (moved_port place) (map later gate.ins) ≡ placed_ins placed = map-map (moved_port place) later gate.ins in
    let outs : map (moved_port place) (map later gate.outs) ≡ placed_outs placed = map-map (moved_port place) later gate.outs in
    λ bits. subst (λ ports. CarriesSignals period (gate_plane placed) (signals_at ports bits) (signals_at (placed_outs placed) (meaning bits))) ins (subst (λ ports. CarriesSignals period (gate_plane placed) (signals_at (map (moved_port place) (map later gate.ins)) bits) (signals_at ports (meaning bits))) outs (there bits))

-- what stands apart from each gate stands apart from all
apart_from_all : (p : Plane) (gates : List PlacedGate) → ((other : PlacedGate) → Contains gates other → StandApart p (gate_plane other)) → StandApart p (gates_plane gates)
apart_from_all p [] apart cell other full near = refl
apart_from_all p (placed ∷ gates) apart cell other full near =
    ap₂ or_state (apart placed (contains_from (placed ∷ gates) placed (inl refl)) cell other full near) (apart_from_all p gates (λ g among. apart g (contains_from (placed ∷ gates) g (inr (in_from gates g among)))) cell other full near)

-- a plane without cells carries nothing
none_carried : (period : ℕ) → CarriesSignals period (λ x y. Empty) [] []
none_carried period = record {
  drawn = λ s among. absurd (in_from [] s among);
  shows = λ s among. absurd (in_from [] s among);
  ready = λ s among. absurd (in_from [] s among);
}

pub gates_carry : GatesCarry
gates_carry period least [] in_bits out_bits are = none_carried period
gates_carry period least (placed ∷ gates) in_bits out_bits are =
    let here = contains_from (placed ∷ gates) placed (inl refl) in
    let more = λ (g : PlacedGate) (among : Contains gates g). contains_from (placed ∷ gates) g (inr (in_from gates g among)) in
    let part = placed_is_part period least placed (are.laws placed here) (in_bits 0) in
    let one : length (placed_outs placed) ≡ length placed.gate.outs = length-map placed.gate.outs (placed_port placed) in
    let bits : signals_at (placed_outs placed) (λ t. gate_answer placed.gate (in_bits 0 t)) ≡ signals_at (placed_outs placed) (out_bits 0) = same_signals (placed_outs placed) (λ t. gate_answer placed.gate (in_bits 0 t)) (out_bits 0) (λ t o l. sym (are.answers 0 placed refl t o (omega (arith, l, one)))) in
    planes_unite period (gate_plane placed) (gates_plane gates) (signals_at (placed_ins placed) (in_bits 0)) (signals_at (placed_outs placed) (out_bits 0)) (signals_of placed_ins gates (λ k. in_bits (suc k))) (signals_of placed_outs gates (λ k. out_bits (suc k)))
    (apart_from_all (gate_plane placed) gates are.apart.0)
    (subst (λ outs. CarriesSignals period (gate_plane placed) (signals_at (placed_ins placed) (in_bits 0)) outs) bits part)
    (gates_carry period least gates (λ k. in_bits (suc k)) (λ k. out_bits (suc k)) (record {
      laws = λ g among. are.laws g (more g among);
      apart = are.apart.1;
      answers = λ k g at. are.answers (suc k) g at;
    }))

pub routed_carry : RoutedCarry
routed_carry period least gates in_bits out_bits wires ins plane routed =
    let fed_ins = map (λ (wire : Wire). wire.to) wires ++ ins in
    let all_ins = signals_of placed_ins gates in_bits in
    let all_outs = signals_of placed_outs gates out_bits in
    let run = order_is_free period (gates_plane gates) all_ins all_outs fed_ins (all_ins ++ all_outs) routed.fed (λ s among. among) (gates_carry period least gates in_bits out_bits routed.gates_are) in
    wires_feed period least wires ins (all_ins ++ all_outs) (gates_plane gates) plane (record {
      drawn = routed.drawn;
      sources = λ wire among. contains_from (ins ++ (all_ins ++ all_outs)) wire.from (in_right ins (all_ins ++ all_outs) wire.from (in_from (all_ins ++ all_outs) wire.from (routed.sources wire among)));
      come = λ wire among. (let by = routed.come wire among in wires_delay period wire.size by.0 wire.from wire.to (omega (arith, least)) by.1);
    }) run
