-- The circuit that tables stand for.
use Rattle.std.specs.Prelude.{ℤ, pos, ℕ, zero, suc, ◌+◌, ◌-◌, ◌<◌, ltb, cond, List, [], length, map, get_or}
use Rattle.ww_rule.specs.declared.pattern.State.{State}
use Rattle.ww_rule.specs.Wireworld.{Plane}
use Rattle.tile_timing.specs.Window.{shown}
use Rattle.gate_laws.specs.Rows.{Port}
use Rattle.gate_laws.specs.Wires.{Wire}
use Rattle.routed_circuits.specs.Routed.{PlacedGate, placed_port}
use Rattle.routed_circuits.specs.Labels.{Owner, OfGate, OfWire}
use Rattle.routed_circuits.specs.Runs.{src_at}
use Rattle.routed_circuits.specs.Lists.{Point, SourcedGate, SourcedWire, placed_of, wire_in_run}
use Rattle.gate_library.specs.declared.circuit.DrawnPort.{DrawnPort}
use Rattle.gate_library.specs.declared.circuit.GatePort.{GatePort}
use Rattle.gate_library.specs.declared.circuit.GatePort.TheVariants.{In, Out}
use Rattle.gate_library.specs.declared.gate.Timing.TheVariants.{Together}
use Rattle.gate_library.specs.declared.gate.GateDrawing.{GateDrawing}
use Rattle.gate_library.specs.Lawful.{gate_at}
use Rattle.route_tables.specs.declared.tables.GateInput.{GateInput}
use Rattle.route_tables.specs.declared.tables.TableGate.{TableGate}
use Rattle.route_tables.specs.declared.tables.TableWire.{TableWire}
use Rattle.route_tables.specs.declared.tables.Tables.{Tables}
use Rattle.route_tables.specs.Serials.{serial_at, listed_cell}

-- what stands for an item that is not there
abbrev pub no_drawing : GateDrawing
no_drawing =
    record {
      width = 0;
      cells = [];
      ins = [];
      outs = [];
      answers = [];
      time = 0;
      timing = Together;
    }

abbrev pub no_gate : TableGate
no_gate =
    record { kind = 0; x = 0; y = 0; first = 0; later = 0; ins = []; outs = []; feeds = [] }

abbrev pub no_input : GateInput
no_input = record { gate = 0; input = 0 }

abbrev pub no_wire : TableWire
no_wire =
    record { start = 0; size = 0; from = record { gate = 0; port = In 0 }; to = no_input; cycles = 0 }

abbrev pub no_port : Port
no_port = ((pos 0, pos 0), 0)

-- the gate and the wire of a number
abbrev pub table_gate : Tables → ℕ → TableGate
table_gate t k = get_or t.gates k no_gate

abbrev pub table_wire : Tables → ℕ → TableWire
table_wire t w = get_or t.wires w no_wire

-- the drawing of a gate
abbrev pub gate_drawing : Tables → TableGate → GateDrawing
gate_drawing t gate = get_or t.kinds gate.kind no_drawing

-- the gates, where they stand and with their sources
abbrev pub sourced_by : GateDrawing → TableGate → SourcedGate
sourced_by drawing gate =
    record {
      placed =
          record {
            gate = gate_at drawing gate.later;
            x = pos gate.x;
            y = pos gate.y;
            first = gate.first;
          };
      ins = gate.ins;
      outs = gate.outs;
    }

abbrev pub sourced_gate : Tables → TableGate → SourcedGate
sourced_gate t gate = sourced_by (gate_drawing t gate) gate

abbrev pub sourced_gates : Tables → List SourcedGate
sourced_gates t = map (sourced_gate t) t.gates

abbrev pub placed_gates : Tables → List PlacedGate
placed_gates t = map placed_of (sourced_gates t)

-- a port of a gate is there, and has a source
abbrev pub HasPort : SourcedGate → GatePort → Type 0
HasPort gate (In i) = (i < length gate.placed.gate.ins) × (i < length gate.ins)
HasPort gate (Out o) = (o < length gate.placed.gate.outs) × (o < length gate.outs)

abbrev pub IsPort : Tables → DrawnPort → Type 0
IsPort t at = (at.gate < length t.gates) × HasPort (sourced_gate t (table_gate t at.gate)) at.port

-- where a port of a gate stands, when it is lit first, and the source whose bits it has
abbrev pub gate_point : SourcedGate → GatePort → Point
gate_point gate (In i) =
    (placed_port gate.placed (get_or gate.placed.gate.ins i no_port), src_at gate.ins i)
gate_point gate (Out o) =
    (placed_port gate.placed (get_or gate.placed.gate.outs o no_port), src_at gate.outs o)

abbrev pub point_at : Tables → DrawnPort → Point
point_at t at = gate_point (sourced_gate t (table_gate t at.gate)) at.port

abbrev pub input_port : GateInput → DrawnPort
input_port at = record { gate = at.gate; port = In at.input }

abbrev pub input_point : Tables → GateInput → Point
input_point t at = point_at t (input_port at)

-- The path of a wire: first the cell of the port where it begins, then its own cells, and last the
-- cell of the input.
abbrev pub wire_path : Tables → TableWire → ℕ → ℤ × ℤ
wire_path t wire zero = (point_at t wire.from).0.0
wire_path t wire (suc i) =
    cond (ltb i wire.size) (listed_cell t.cells (wire.start + i)) (input_point t wire.to).0.0

abbrev pub sourced_wire : Tables → TableWire → SourcedWire
sourced_wire t wire =
    record {
      size = wire.size;
      path = wire_path t wire;
      from = point_at t wire.from;
      to = input_point t wire.to;
      cycles = wire.cycles;
    }

abbrev pub sourced_wires : Tables → List SourcedWire
sourced_wires t = map (sourced_wire t) t.wires

-- the wire with the signals of the run in which all input bits are 0
abbrev pub dark_wire : Tables → SourcedWire → Wire
dark_wire t wire = wire_in_run t.list [] wire

-- the points of the inputs that no wire feeds
abbrev pub driven_points : Tables → List Point
driven_points t = map (input_point t) t.driven

-- what is drawn in the box
abbrev pub box_plane : Tables → List State → Plane
box_plane t states = shown states t.width

-- the serial of the listed cell at a place, or 0
abbrev pub serial : Tables → ℤ × ℤ → ℕ
serial t cell = serial_at t.serials t.width cell.0 cell.1

-- Whose a listed cell is: a gate's, if its group is below the number of gates; else a wire's.
abbrev pub group : Tables → ℕ → ℕ
group t n = get_or t.groups n 0

abbrev pub wire_number : Tables → ℕ → ℕ
wire_number t n = group t n - length t.gates

abbrev pub own : Tables → ℕ → Owner
own t n =
    cond (ltb (group t n) (length t.gates)) (OfGate (group t n))
    (OfWire (wire_number t n) (n - (table_wire t (wire_number t n)).start))
