-- Ports of gates, and the points that they are.
use Rattle.std.proofs.Common.{◌≡◌, refl, sym, ◌∙◌, ap, subst, ℕ, zero, suc, ◌<◌, inl, inr, List, [], ◌∷◌, map, length, get_or, arith}
use Rattle.std.proofs.lemmas.List.{length-map, get_or-map}
use Rattle.std.proofs.lemmas.Option.{slice_get-get_or, get_or_from_slice_get, slice_get_within}
use Rattle.lists.proofs.Members.{In, in_map, in_mapped, in_flat, in_flattened, in_left, in_right, in_got, got_from}
use Rattle.gate_laws.specs.Rows.{Port}
use Rattle.cell_core.specs.declared.cells.Src.{Src}
use Rattle.routed_circuits.specs.Routed.{PlacedGate, placed_port, placed_ins, placed_outs}
use Rattle.routed_circuits.specs.Runs.{src_at}
use Rattle.routed_circuits.specs.Lists.{Point, SourcedGate, points_of, in_points, out_points, all_points}
use Rattle.gate_library.specs.declared.circuit.DrawnPort.{DrawnPort}
use Rattle.gate_library.specs.declared.circuit.GatePort.{GatePort}
use Rattle.gate_library.specs.declared.circuit.GatePort.TheVariants.{In as InPort, Out as OutPort}
use Rattle.route_tables.specs.declared.tables.GateInput.{GateInput}
use Rattle.route_tables.specs.declared.tables.Tables.{Tables}
use Rattle.route_tables.specs.Tables.{no_gate, no_port, table_gate, sourced_gate, sourced_gates, HasPort, IsPort, gate_point, point_at, input_port, input_point}

-- ---- lists
pub in_at : {X : Type 0} (xs : List X) (i : ℕ) (d : X) → i < length xs → In (get_or xs i d) xs
in_at xs i d within = in_got xs i (get_or xs i d) (slice_get-get_or xs i d within)

pub at_of : {X : Type 0} (xs : List X) (d x : X) → In x xs → (i : ℕ) × (i < length xs) × (x ≡ get_or xs i d)
at_of xs d x i = let g = got_from xs x i in (g.0, slice_get_within xs g.0 x g.1, sym (get_or_from_slice_get xs g.0 x d g.1))

-- ---- points of one gate
pub points_in : (ports : List Port) (sources : List Src) (d : Port) (i : ℕ) → i < length ports → i < length sources
    → In (get_or ports i d, src_at sources i) (points_of ports sources)
points_in [] sources d i within there = absurd (omega arith)
points_in (port ∷ ports) [] d i within there = absurd (omega arith)
points_in (port ∷ ports) (source ∷ sources) d zero within there = inl refl
points_in (port ∷ ports) (source ∷ sources) d (suc i) within there = inr (points_in ports sources d i (omega arith) (omega arith))

pub points_found : (ports : List Port) (sources : List Src) (d : Port) (point : Point) → In point (points_of ports sources)
    → (i : ℕ) × (i < length ports) × (i < length sources) × (point ≡ (get_or ports i d, src_at sources i))
points_found [] sources d point i = absurd i
points_found (port ∷ ports) [] d point i = absurd i
points_found (port ∷ ports) (source ∷ sources) d point (inl e) = (0, omega arith, omega arith, e)
points_found (port ∷ ports) (source ∷ sources) d point (inr i) =
    let r = points_found ports sources d point i in (suc r.0, (let h : r.0 < length ports = r.1 in omega arith), (let h : r.0 < length sources = r.2 in omega arith), r.3)

-- a port that stands somewhere is the drawing's, moved
placed_at : (placed : PlacedGate) (ports : List Port) (i : ℕ) → i < length ports
    → get_or (map (placed_port placed) ports) i no_port ≡ placed_port placed (get_or ports i no_port)
placed_at placed ports i within = get_or-map (placed_port placed) ports i no_port no_port within

in_point_there : (gate : SourcedGate) (i : ℕ) → HasPort gate (InPort i) → In (gate_point gate (InPort i)) (points_of (placed_ins gate.placed) gate.ins)
in_point_there gate i has =
    let ports = gate.placed.gate.ins in
    let within : i < length (map (placed_port gate.placed) ports) = omega (arith, length-map ports (placed_port gate.placed), has.0) in
    subst (λ port. In (port, src_at gate.ins i) (points_of (placed_ins gate.placed) gate.ins)) (placed_at gate.placed ports i has.0)
    (points_in (placed_ins gate.placed) gate.ins no_port i within has.1)

out_point_there : (gate : SourcedGate) (o : ℕ) → HasPort gate (OutPort o) → In (gate_point gate (OutPort o)) (points_of (placed_outs gate.placed) gate.outs)
out_point_there gate o has =
    let ports = gate.placed.gate.outs in
    let within : o < length (map (placed_port gate.placed) ports) = omega (arith, length-map ports (placed_port gate.placed), has.0) in
    subst (λ port. In (port, src_at gate.outs o) (points_of (placed_outs gate.placed) gate.outs)) (placed_at gate.placed ports o has.0)
    (points_in (placed_outs gate.placed) gate.outs no_port o within has.1)

in_point_found : (gate : SourcedGate) (point : Point) → In point (points_of (placed_ins gate.placed) gate.ins)
    → (i : ℕ) × (i < length gate.placed.gate.ins) × (point ≡ gate_point gate (InPort i))
in_point_found gate point i =
    let ports = gate.placed.gate.ins in
    let r = points_found (placed_ins gate.placed) gate.ins no_port point i in
    let within : r.0 < length ports = (let h : r.0 < length (map (placed_port gate.placed) ports) = r.1 in omega (arith, length-map ports (placed_port gate.placed), h)) in
    (r.0, within, r.3 ∙ ap (λ port. (port, src_at gate.ins r.0)) (placed_at gate.placed ports r.0 within))

-- ---- points of all gates
pub gate_in : (t : Tables) (k : ℕ) → k < length t.gates → In (sourced_gate t (table_gate t k)) (sourced_gates t)
gate_in t k within = in_map (sourced_gate t) t.gates (table_gate t k) (in_at t.gates k no_gate within)

pub gate_of : (t : Tables) (gate : SourcedGate) → In gate (sourced_gates t) → (k : ℕ) × (k < length t.gates) × (gate ≡ sourced_gate t (table_gate t k))
gate_of t gate i =
    let m = in_mapped (sourced_gate t) t.gates gate i in
    let g = at_of t.gates no_gate m.0 m.1 in
    (g.0, g.1, m.2 ∙ ap (sourced_gate t) g.2)

-- a port that is there is a point
pub port_in : (t : Tables) (at : DrawnPort) → IsPort t at → In (point_at t at) (all_points (sourced_gates t))
port_in t at is = by at.port is.1
  where
    gate : SourcedGate
    gate = sourced_gate t (table_gate t at.gate)

    by : (port : GatePort) → HasPort (sourced_gate t (table_gate t at.gate)) port → In (gate_point (sourced_gate t (table_gate t at.gate)) port) (all_points (sourced_gates t))
    by (InPort i) has =
        in_left (in_points (sourced_gates t)) (out_points (sourced_gates t)) _
        (in_flat (λ g. points_of (placed_ins g.placed) g.ins) (sourced_gates t) (sourced_gate t (table_gate t at.gate)) _ (gate_in t at.gate is.0)
        (in_point_there (sourced_gate t (table_gate t at.gate)) i has))
    by (OutPort o) has =
        in_right (in_points (sourced_gates t)) (out_points (sourced_gates t)) _
        (in_flat (λ g. points_of (placed_outs g.placed) g.outs) (sourced_gates t) (sourced_gate t (table_gate t at.gate)) _ (gate_in t at.gate is.0)
        (out_point_there (sourced_gate t (table_gate t at.gate)) o has))

-- an input that is there is a point of an input
pub input_in : (t : Tables) (at : GateInput) → IsPort t (input_port at) → In (input_point t at) (in_points (sourced_gates t))
input_in t at is =
    in_flat (λ g. points_of (placed_ins g.placed) g.ins) (sourced_gates t) (sourced_gate t (table_gate t at.gate)) _ (gate_in t at.gate is.0)
    (in_point_there (sourced_gate t (table_gate t at.gate)) at.input is.1)

-- and each point of an input is one that is there
pub input_of : (t : Tables) (point : Point) → In point (in_points (sourced_gates t))
    → (k i : ℕ) × (k < length t.gates) × (i < length (sourced_gate t (table_gate t k)).placed.gate.ins)
    × (point ≡ input_point t (record { gate = k; input = i }))
input_of t point i =
    let f = in_flattened (λ g. points_of (placed_ins g.placed) g.ins) (sourced_gates t) point i in
    let g = gate_of t f.0 f.1 in
    let here : In point (points_of (placed_ins (sourced_gate t (table_gate t g.0)).placed) (sourced_gate t (table_gate t g.0)).ins) =
    subst (λ gate. In point (points_of (placed_ins gate.placed) gate.ins)) g.2 f.2 in
    let p = in_point_found (sourced_gate t (table_gate t g.0)) point here in
    (g.0, p.0, g.1, p.1, p.2)
