-- What is checked computes the list, at the points of the port table.
use Rattle.std.proofs.Common.{◌≡◌, sym, ◌∙◌, ap, subst, ℕ, ◌<◌, ⊎_elim, ◌↔◌, List, [], ◌++◌, map, length, slice_get, Some, arith}
use Rattle.std.specs.Prelude.{Contains}
use Rattle.lists.proofs.Members.{In, in_from, contains_from, in_map, in_mapped, in_left, in_right, in_parts, in_got, got_from}
use Rattle.ww_rule.specs.declared.pattern.State.{State}
use Rattle.gate_laws.specs.Wires.{AreWiresDrawn}
use Rattle.pattern_reading.specs.declared.ports.Ports.{Ports}
use Rattle.routed_circuits.specs.Routed.{gates_plane, StandAllApart}
use Rattle.routed_circuits.specs.Lists.{Point, SourcedWire, in_points, all_points, placed_of, point_signal, wire_in_run, ComputesSources, DelaysSource, ComputesList}
use Rattle.gate_library.proofs.Periods.{lawful_are_gates_at_period}
use Rattle.route_tables.specs.declared.tables.Feed.{Feed}
use Rattle.route_tables.specs.declared.tables.Feed.TheVariants.{Wire as ByWire, Driven}
use Rattle.route_tables.specs.declared.tables.GateInput.{GateInput}
use Rattle.route_tables.specs.declared.tables.Tables.{Tables}
use Rattle.route_tables.specs.Tables.{no_wire, table_gate, table_wire, gate_drawing, sourced_gate, sourced_gates, sourced_wire, sourced_wires, input_point, driven_points, box_plane}
use Rattle.route_tables.specs.Cells.{FeedsInput}
use Rattle.route_tables.specs.Checked.{IsChecked}
use Rattle.route_cells.proofs.PortPoints.{in_at, at_of, gate_of, port_in, input_in, input_of}
use Rattle.route_tables.proofs.Ports.{length_ins}
use Rattle.route_cells.proofs.AnswerBits.{answers_hold, length-gate_outs}

-- ---- gates
gate_computes : (t : Tables) (states : List State) (ports : Ports) → IsChecked t states ports → (k : ℕ) → k < length t.gates
    → ComputesSources ports.p t.list (sourced_gate t (table_gate t k))
gate_computes t states ports checked k within =
    let gate = table_gate t k in
    let d = gate_drawing t gate in
    let lawful = (checked.cells.gates k within).lawful in
    let has = checked.computes.sources k within in
    record {
      law = lawful_are_gates_at_period d lawful ports.p gate.later (checked.computes.in_time k within);
      ins = has.ins;
      outs = has.outs;
      computes = λ inputs state o there. answers_hold t.list d gate.later gate.ins gate.outs lawful (has.ins ∙ length_ins d lawful gate.later) o
          (omega (arith, there, has.outs, length-gate_outs d gate.later)) (has.answers o there) inputs state;
    }

-- ---- wires
wire_of : (t : Tables) (wire : SourcedWire) → In wire (sourced_wires t) → (w : ℕ) × (w < length t.wires) × (wire ≡ sourced_wire t (table_wire t w))
wire_of t wire i =
    let m = in_mapped (sourced_wire t) t.wires wire i in
    let g = at_of t.wires no_wire m.0 m.1 in
    (g.0, g.1, m.2 ∙ ap (sourced_wire t) g.2)

wire_in : (t : Tables) (w : ℕ) → w < length t.wires → In (sourced_wire t (table_wire t w)) (sourced_wires t)
wire_in t w within = in_map (sourced_wire t) t.wires (table_wire t w) (in_at t.wires w no_wire within)

abbrev wire_to : SourcedWire → Point
wire_to wire = wire.to

-- ---- what feeds inputs
fed_by : (t : Tables) (at : GateInput) (feed : Feed) → FeedsInput t at feed → In (input_point t at) (map (λ wire. wire.to) (sourced_wires t) ++ driven_points t)
fed_by t at (ByWire w) (within, is) =
    in_left (map (λ wire. wire.to) (sourced_wires t)) (driven_points t) (input_point t at)
    (subst (λ it. In (input_point t it) (map (λ wire. wire.to) (sourced_wires t))) is
    (in_map (λ (wire : SourcedWire). wire.to) (sourced_wires t) (sourced_wire t (table_wire t w)) (wire_in t w within)))
fed_by t at (Driven d) is =
    in_right (map (λ wire. wire.to) (sourced_wires t)) (driven_points t) (input_point t at) (in_map (input_point t) t.driven at (in_got t.driven d at is))

pub driven_of : (t : Tables) (point : Point) → In point (driven_points t) → (d : ℕ) × (at : GateInput) × (slice_get t.driven d ≡ Some at) × (point ≡ input_point t at)
driven_of t point i =
    let m = in_mapped (input_point t) t.driven point i in
    let g = got_from t.driven m.0 m.1 in
    (g.0, m.0, g.1, m.2)

fed : (t : Tables) (states : List State) (ports : Ports) → IsChecked t states ports → (point : Point)
    → Contains (in_points (sourced_gates t)) point ↔ Contains (map (λ (wire : SourcedWire). wire.to) (sourced_wires t) ++ driven_points t) point
fed t states ports checked point = (there, back)
  where
    at_input : (k i : ℕ) → k < length t.gates → i < length (sourced_gate t (table_gate t k)).placed.gate.ins
        → In (input_point t (record { gate = k; input = i })) (map (λ (wire : SourcedWire). wire.to) (sourced_wires t) ++ driven_points t)
    at_input k i within inside = let f = checked.cells.fed k i within inside in fed_by t (record { gate = k; input = i }) f.0 f.2

    there : Contains (in_points (sourced_gates t)) point → Contains (map (λ (wire : SourcedWire). wire.to) (sourced_wires t) ++ driven_points t) point
    there c =
        let p = input_of t point (in_from _ point c) in
        contains_from _ point (subst (λ it. In it (map (λ (wire : SourcedWire). wire.to) (sourced_wires t) ++ driven_points t)) (sym p.4) (at_input p.0 p.1 p.2 p.3))

    of_wire : In point (map (λ (wire : SourcedWire). wire.to) (sourced_wires t)) → In point (in_points (sourced_gates t))
    of_wire i =
        let m = in_mapped (λ (wire : SourcedWire). wire.to) (sourced_wires t) point i in
        let w = wire_of t m.0 m.1 in
        subst (λ it. In it (in_points (sourced_gates t))) (sym (m.2 ∙ ap wire_to w.2)) (input_in t (table_wire t w.0).to (checked.cells.wires w.0 w.1).ends)

    of_driven : In point (driven_points t) → In point (in_points (sourced_gates t))
    of_driven i =
        let d = driven_of t point i in
        subst (λ it. In it (in_points (sourced_gates t))) (sym d.3) (input_in t d.1 (checked.cells.driven d.0 d.1 d.2).0)

    back : Contains (map (λ (wire : SourcedWire). wire.to) (sourced_wires t) ++ driven_points t) point → Contains (in_points (sourced_gates t)) point
    back c = contains_from _ point (⊎_elim of_wire of_driven (in_parts (map (λ (wire : SourcedWire). wire.to) (sourced_wires t)) (driven_points t) point (in_from _ point c)))

-- what is checked computes its list, if gates and wires stand so
pub computes_list : (t : Tables) (states : List State) (ports : Ports) → IsChecked t states ports
    → StandAllApart (map placed_of (sourced_gates t))
    → AreWiresDrawn ports.p (map (wire_in_run t.list []) (sourced_wires t)) (map (point_signal t.list []) (driven_points t))
    (gates_plane (map placed_of (sourced_gates t))) (box_plane t states)
    → ComputesList ports.p t.list (sourced_gates t) (sourced_wires t) (driven_points t) (box_plane t states)
computes_list t states ports checked apart drawn =
    record {
      gates_compute = λ gate c. let g = gate_of t gate (in_from _ gate c) in subst (ComputesSources ports.p t.list) (sym g.2) (gate_computes t states ports checked g.0 g.1);
      apart = apart;
      fed = fed t states ports checked;
      begin = λ wire c. let w = wire_of t wire (in_from _ wire c) in
          contains_from _ _ (subst (λ (it : SourcedWire). In it.from (all_points (sourced_gates t))) (sym w.2) (port_in t (table_wire t w.0).from (checked.cells.wires w.0 w.1).begins));
      delay = λ wire c. let w = wire_of t wire (in_from _ wire c) in subst (DelaysSource ports.p t.list) (sym w.2) (checked.computes.delays w.0 w.1);
      drawn = drawn;
    }
