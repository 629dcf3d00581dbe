-- Where the checks find no fault, the plane of the box is labelled.
use Rattle.std.proofs.Common.{ℤ, pos, ◌+ℤ◌, ◌-ℤ◌, ℕ, zero, suc, ◌+◌, ◌<◌, ◌≤◌, ◌≡◌, refl, sym, ap, ap₂, ◌∙◌, subst, inl, inr, cond, List, [], length, map, get_or, arith}
use Rattle.std.specs.Prelude.{Contains, ◌≢◌, ◌⊎◌, Some, slice_get, if◌then◌else◌}
use Rattle.std.proofs.lemmas.Bool.{le-ltb}
use Rattle.std.proofs.lemmas.Int.{ints}
use Rattle.std.proofs.lemmas.Option.{same_Some, slice_get-get_or}
use Rattle.ww_rule.specs.declared.pattern.State.{State}
use Rattle.ww_rule.specs.declared.pattern.State.TheVariants.{Empty, Head, Conductor}
use Rattle.gate_laws.specs.Signals.{Signal, cell_state, is_lit}
use Rattle.gate_laws.specs.Wires.{Wire, IsNear, wire_state}
use Rattle.gate_laws.specs.Gates.{IsGateForPeriod}
use Rattle.routed_circuits.specs.Routed.{PlacedGate, gate_plane}
use Rattle.routed_circuits.specs.Labels.{Owner, Nobody, OfGate, AreLabels, OwnersStandApart, IsPathOf, HaveOwnEnds, HasStates}
use Rattle.routed_circuits.specs.Lists.{placed_of, point_signal}
use Rattle.gate_library.specs.declared.circuit.DrawnPort.{DrawnPort}
use Rattle.gate_library.specs.declared.circuit.GatePort.{GatePort}
use Rattle.gate_library.specs.declared.circuit.GatePort.TheVariants.{In, Out}
use Rattle.gate_library.specs.declared.gate.GateDrawing.{GateDrawing}
use Rattle.gate_library.specs.Lawful.{input_cell}
use Rattle.gate_library.proofs.Periods.{lawful_are_gates_at_period}
use Rattle.route_tables.specs.declared.tables.Feed.{Feed}
use Rattle.route_tables.specs.declared.tables.Feed.TheVariants.{Wire as OfTheWire, Driven}
use Rattle.route_tables.specs.declared.tables.GateInput.{GateInput}
use Rattle.route_tables.specs.declared.tables.Tables.{Tables}
use Rattle.route_tables.specs.Serials.{listed_cell}
use Rattle.route_tables.specs.Owners.{owner_at, owner_by}
use Rattle.route_tables.specs.Tables.{no_gate, no_wire, no_input, no_port, table_gate, table_wire, gate_drawing, sourced_gate, sourced_wire, sourced_wires, placed_gates, dark_wire, driven_points, wire_path, HasPort, IsPort, gate_point, point_at, input_port, input_point, box_plane, serial, own}
use Rattle.route_tables.specs.Cells.{IsFed, IsWireEnd, FeedsInput}
use Rattle.route_tables.specs.Checked.{HasItsCells, ComputesItsList}
use Rattle.route_tables.specs.Labelled.{IsRoutedBox, CheckedAreLabelled}
use Rattle.route_tables.proofs.Numbered.{mapped, within, found, Member, member, among}
use Rattle.route_tables.proofs.Owners.{tables_are_labels}
use Rattle.route_tables.proofs.Listing.{owning_gate, cell_of_gate, number_of_gate, listing}
use Rattle.route_tables.proofs.Ports.{in_conducts, out_conducts, length_ins, in_cell}

abbrev feed_number : Feed → ℕ
feed_number (OfTheWire w) = w
feed_number (Driven d) = d

Conductor≢Empty : Conductor ≢ Empty
Conductor≢Empty e = grind arith

-- a moved cell of a placed gate
back : (a b : ℤ) → (a +ℤ b) -ℤ b ≡ a
back a b = omega (arith, ints)

same_moved : (a b x : ℤ) → a +ℤ x ≡ b +ℤ x → a ≡ b
same_moved a b x e = omega (arith, ints, e)

same_pos : (a b : ℕ) → pos a ≡ pos b → a ≡ b
same_pos a b e = omega (arith, ints, e)

module _ (t : Tables) (states : List State) (period : ℕ) (h : HasItsCells t states) (k : ComputesItsList t states period) where
  abbrev drawing : ℕ → GateDrawing
  drawing g = gate_drawing t (table_gate t g)

  abbrev placed : ℕ → PlacedGate
  placed g = (sourced_gate t (table_gate t g)).placed

  abbrev wire_at : ℕ → Wire
  wire_at w = dark_wire t (sourced_wire t (table_wire t w))

  abbrev wires : List Wire
  wires = map (dark_wire t) (sourced_wires t)

  abbrev owner : ℤ × ℤ → Owner
  owner = owner_at (own t) t.serials t.width

  both : AreLabels (placed_gates t) wires (box_plane t states) owner
      × ((g l : ℕ) (c d : ℤ × ℤ) → owner c ≡ OfGate g → IsNear d c → owner d ≡ OfGate l → l ≡ g)
  both = tables_are_labels (placed_gates t) wires t.cells states t.serials t.width t.groups (length t.gates) (own t) h.serials (listing t states h)

  labels : AreLabels (placed_gates t) wires (box_plane t states) owner
  labels = both.0

  -- a member of the wires, by its number
  numbered : (wire : Wire) → Contains wires wire → Member (dark_wire t) (sourced_wire t) t.wires no_wire wire
  numbered wire among = member (dark_wire t) (sourced_wire t) t.wires no_wire wire among

  -- beside a wire's cell there is its path
  path_or_nobody : (w i : ℕ) (cell : ℤ × ℤ) → w < length t.wires → i < (table_wire t w).size → IsNear cell (wire_path t (table_wire t w) (suc i)) → (owner cell ≡ Nobody) ⊎ ((j : ℕ) × (i ≤ j) × (j ≤ i + 2) × (cell ≡ wire_path t (table_wire t w) j))
  path_or_nobody w i cell low short near =
      elim (h.alone w low i short cell near) [
        | inl none ↦ inl (ap (owner_by (own t)) none)
        | inr (j, few, same) ↦ by_serial j few same (serial t cell) refl
      ]
    where
      by_serial : (j : ℕ) → j < 3 → serial t cell ≡ serial t (wire_path t (table_wire t w) (i + j)) → (n : ℕ) → serial t cell ≡ n → (owner cell ≡ Nobody) ⊎ ((j : ℕ) × (i ≤ j) × (j ≤ i + 2) × (cell ≡ wire_path t (table_wire t w) j))
      by_serial j few same zero none = inl (ap (owner_by (own t)) none)
      by_serial j few same (suc n) some =
          let here = h.serials.some cell n some in
          let there = h.serials.some (wire_path t (table_wire t w) (i + j)) n (sym same ∙ some) in
          inr (i + j, omega arith, omega (arith, few), here.1 ∙ sym there.1)

  apart : OwnersStandApart wires owner
  apart = record {
    beside_gates = both.1;
    beside_wires = λ w i wire cell at short near. (
        let low = within (dark_wire t) (sourced_wire t) t.wires no_wire w wire at in
        let same : wire ≡ wire_at w = found (dark_wire t) (sourced_wire t) t.wires no_wire w wire at in
        subst (λ (v : Wire). (owner cell ≡ Nobody) ⊎ ((j : ℕ) × (i ≤ j) × (j ≤ i + 2) × (cell ≡ v.path j))) (sym same)
        (path_or_nobody w i cell low (subst (λ (v : Wire). i < v.size) same short) (subst (λ (v : Wire). IsNear cell (v.path (suc i))) same near))
        );
  }

  -- the cell of a port is its gate's
  port_drawn : (g : ℕ) (port : GatePort) → g < length t.gates → HasPort (sourced_gate t (table_gate t g)) port → cell_state (gate_plane (placed g)) (gate_point (sourced_gate t (table_gate t g)) port).0.0 ≡ Conductor
  port_drawn g (In i) low there =
      let gate = placed g in
      let port = get_or gate.gate.ins i no_port in
      ap₂ gate.gate.plane (back port.0.0 gate.x) (back port.0.1 gate.y) ∙ in_conducts (drawing g) (h.gates g low).lawful (table_gate t g).later i there.0
  port_drawn g (Out o) low there =
      let gate = placed g in
      let port = get_or gate.gate.outs o no_port in
      ap₂ gate.gate.plane (back port.0.0 gate.x) (back port.0.1 gate.y) ∙ out_conducts (drawing g) (h.gates g low).lawful (table_gate t g).later o there.0

  port_owned : (at : DrawnPort) → IsPort t at → owner (point_at t at).0.0 ≡ OfGate at.gate
  port_owned at there =
      let c = (point_at t at).0.0 in
      labels.gate_cells at.gate c (placed at.gate, mapped placed_of (sourced_gate t) t.gates no_gate at.gate there.0, λ e. Conductor≢Empty (sym (port_drawn at.gate at.port there.0 there.1) ∙ e))

  path_at : (w : ℕ) → w < length t.wires → IsPathOf (wire_at w) owner
  path_at w low =
      let there = h.wires w low in
      let wire = table_wire t w in
      record {
        some = there.some;
        goes_on = there.goes_on;
        begins = refl;
        ends = ap (λ b. cond b (listed_cell t.cells (wire.start + wire.size)) (input_point t wire.to).0.0) (le-ltb wire.size wire.size (omega arith));
        from_gate = (wire.from.gate, port_owned wire.from there.begins);
        to_gate = (wire.to.gate, port_owned (input_port wire.to) there.ends);
        two_ends = there.two_ends;
      }

  paths : (wire : Wire) → Contains wires wire → IsPathOf wire owner
  paths wire among = let w = numbered wire among in subst (λ (v : Wire). IsPathOf v owner) (sym w.is) (path_at w.number w.low)

  -- two inputs that stand in one cell are one
  one_number : (g i j : ℕ) → g < length t.gates → HasPort (sourced_gate t (table_gate t g)) (In i) → HasPort (sourced_gate t (table_gate t g)) (In j) → (input_point t (record { gate = g; input = i })).0.0 ≡ (input_point t (record { gate = g; input = j })).0.0 → i ≡ j
  one_number g i j low first second e =
      let d = drawing g in
      let later = (table_gate t g).later in
      let lawful = (h.gates g low).lawful in
      let count = length_ins d lawful later in
      let gate = placed g in
      let one = get_or gate.gate.ins i no_port in
      let two = get_or gate.gate.ins j no_port in
      let x : one.0.0 ≡ two.0.0 = same_moved one.0.0 two.0.0 gate.x (ap (λ (c : ℤ × ℤ). c.0) e) in
      let y : one.0.1 ≡ two.0.1 = same_moved one.0.1 two.0.1 gate.y (ap (λ (c : ℤ × ℤ). c.1) e) in
      let a = in_cell d later i first.0 in
      let b = in_cell d later j second.0 in
      let u = same_pos (input_cell d i).0 (input_cell d j).0 (sym (ap (λ (c : ℤ × ℤ). c.0) a) ∙ x ∙ ap (λ (c : ℤ × ℤ). c.0) b) in
      let v = same_pos (input_cell d i).1 (input_cell d j).1 (sym (ap (λ (c : ℤ × ℤ). c.1) a) ∙ y ∙ ap (λ (c : ℤ × ℤ). c.1) b) in
      let few = first.0 in
      let few' = second.0 in
      lawful.inputs i j (omega (arith, few, count)) (omega (arith, few', count)) (ap₂ (λ (p q : ℕ). (p, q)) u v)

  one_input : (at other : GateInput) → IsPort t (input_port at) → IsPort t (input_port other) → (input_point t at).0.0 ≡ (input_point t other).0.0 → at ≡ other
  one_input at other there there' e =
      let gates : at.gate ≡ other.gate = ap owning_gate (sym (port_owned (input_port at) there) ∙ ap owner e ∙ port_owned (input_port other) there') in
      of_gate other.gate gates there' e
    where
      of_gate : (g : ℕ) → at.gate ≡ g → IsPort t (input_port (record { gate = g; input = other.input })) → (input_point t at).0.0 ≡ (input_point t (record { gate = g; input = other.input })).0.0 → at ≡ record { gate = g; input = other.input }
      of_gate g same second e =
          let back' = sym same in
          let second' : IsPort t (input_port (record { gate = at.gate; input = other.input })) = subst (λ n. IsPort t (input_port (record { gate = n; input = other.input }))) back' second in
          let e' : (input_point t at).0.0 ≡ (input_point t (record { gate = at.gate; input = other.input })).0.0 = subst (λ n. (input_point t at).0.0 ≡ (input_point t (record { gate = n; input = other.input })).0.0) back' e in
          let number = one_number at.gate at.input other.input there.0 there.1 second'.1 e' in
          ap₂ (λ (a b : ℕ). record { gate = a; input = b }) same number

  same_feed : (at other : GateInput) (feed fed : Feed) → at ≡ other → IsFed t at feed → IsFed t other fed → feed ≡ fed
  same_feed at other feed fed e one two = same_Some _ _ (sym one ∙ subst (λ input. IsFed t input fed) (sym e) two)

  one_end : (w v : ℕ) → w < length t.wires → v < length t.wires → (wire_at w).to.cell ≡ (wire_at v).to.cell → w ≡ v
  one_end w v low low' e =
      let at = (table_wire t w).to in
      let other = (table_wire t v).to in
      ap feed_number (same_feed at other (OfTheWire w) (OfTheWire v) (one_input at other (h.wires w low).ends (h.wires v low').ends e) (h.ends w low) (h.ends v low'))

  no_wire_driven : (w d : ℕ) → ¬ (OfTheWire w ≡ Driven d)
  no_wire_driven w d e = cc

  driven_end : (w d : ℕ) (at : GateInput) → w < length t.wires → slice_get t.driven d ≡ Some at → (input_point t at).0.0 ≢ (wire_at w).to.cell
  driven_end w d at low there e =
      let driven = h.driven d at there in
      let end = (table_wire t w).to in
      no_wire_driven w d (same_feed end at (OfTheWire w) (Driven d) (one_input end at (h.wires w low).ends driven.0 (sym e)) (h.ends w low) driven.1)

  own_ends : HaveOwnEnds wires (map (point_signal t.list []) (driven_points t))
  own_ends = record {
    one = λ w v wire other at at' e. (
        let low = within (dark_wire t) (sourced_wire t) t.wires no_wire w wire at in
        let low' = within (dark_wire t) (sourced_wire t) t.wires no_wire v other at' in
        let is : wire ≡ wire_at w = found (dark_wire t) (sourced_wire t) t.wires no_wire w wire at in
        let is' : other ≡ wire_at v = found (dark_wire t) (sourced_wire t) t.wires no_wire v other at' in
        one_end w v low low' (ap (λ (u : Wire). u.to.cell) (sym is) ∙ e ∙ ap (λ (u : Wire). u.to.cell) is')
        );
    driven = λ wire s among among' e. (
        let w = numbered wire among in
        let d = member (point_signal t.list []) (input_point t) t.driven no_input s among' in
        driven_end w.number d.number (get_or t.driven d.number no_input) w.low (slice_get-get_or t.driven d.number no_input d.low)
        (ap (λ (u : Signal). u.cell) (sym d.is) ∙ e ∙ ap (λ (u : Wire). u.to.cell) w.is)
        );
  }

  -- the states of gates
  calm : (g : ℕ) (c : ℤ × ℤ) → owner c ≡ OfGate g → ((wire : Wire) → Contains wires wire → c ≢ wire.to.cell) → cell_state (box_plane t states) c ≡ Conductor
  calm g c owned away =
      let drawn = number_of_gate t states h g c (labels.of_gates g c owned) in
      elim (cell_of_gate t states h g drawn.0 c drawn.1).state [
        | inl conducts ↦ conducts
        | inr end ↦ absurd (no_end end)
      ]
    where
      no_end : IsWireEnd t g c → ⊥
      no_end end =
          let at : GateInput = record { gate = g; input = end.input } in
          let rightly = h.fed g end.input end.there.0 end.there.1.0 in
          let leads : FeedsInput t at (OfTheWire end.wire) = subst (FeedsInput t at) (same_Some _ _ (sym rightly.1 ∙ end.fed)) rightly.2 in
          away (wire_at end.wire) (among (dark_wire t) (sourced_wire t) t.wires no_wire end.wire leads.0)
          (sym (ap (λ input. (input_point t input).0.0) leads.1 ∙ end.here))

  shown : HasStates period wires (box_plane t states) owner
  shown = record {
    on_gates = calm;
    ends = λ wire among. (let w = numbered wire among in subst (λ (v : Wire). cell_state (box_plane t states) v.to.cell ≡ (if is_lit period v.to 0 then Head else Conductor)) (sym w.is) (k.starts w.number w.low).end);
    on_wires = λ wire among. (
        let w = numbered wire among in
        subst (λ (v : Wire). (i rest : ℕ) → i + suc rest ≡ v.size → cell_state (box_plane t states) (v.path (suc i)) ≡ wire_state period v.to rest) (sym w.is) (k.starts w.number w.low).cells
        );
  }

  pub is_routed : IsRoutedBox t states period
  is_routed = record {
    laws = λ p among. (
        let g = member placed_of (sourced_gate t) t.gates no_gate p among in
        subst (λ (q : PlacedGate). IsGateForPeriod period q.gate) (sym g.is) (lawful_are_gates_at_period (drawing g.number) (h.gates g.number g.low).lawful period (table_gate t g.number).later (k.in_time g.number g.low))
        );
    labels = labels;
    apart = apart;
    paths = paths;
    own_ends = own_ends;
    states = shown;
  }

pub checked_are_labelled : CheckedAreLabelled
checked_are_labelled t states period h k = is_routed t states period h k
