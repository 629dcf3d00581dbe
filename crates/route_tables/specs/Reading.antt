-- What is read in tables.
use Rattle.std.specs.Prelude.{pos, ◌+ℤ◌, ◌+◌, ◌≡◌}
use Rattle.gate_laws.specs.Rows.{Port}
use Rattle.routed_circuits.specs.Lists.{SourcedGate}
use Rattle.gate_library.specs.declared.circuit.DrawnPort.{DrawnPort}
use Rattle.gate_library.specs.declared.circuit.GatePort.{GatePort}
use Rattle.gate_library.specs.declared.ports.PortCell.{PortCell}
use Rattle.gate_library.specs.Lawful.{port_in_cell}
use Rattle.route_tables.specs.declared.tables.TableGate.{TableGate}
use Rattle.route_tables.specs.declared.tables.Tables.{Tables}
use Rattle.route_tables.specs.Tables.{HasPort, IsPort, gate_point, point_at}

-- a port of a gate's drawing, where the gate stands
abbrev pub placed_at : TableGate → PortCell → Port
placed_at gate port = (
  (pos port.x +ℤ pos gate.x, pos port.y +ℤ pos gate.y),
  gate.first + port.generation,
)

-- the port is there, and stands here
abbrev pub IsGatePortAt : SourcedGate → GatePort → PortCell → Type 0
IsGatePortAt gate port here = HasPort gate port × (port_in_cell here ≡ (gate_point gate port).0)

abbrev pub IsPortAt : Tables → DrawnPort → PortCell → Type 0
IsPortAt t at here = IsPort t at × (port_in_cell here ≡ (point_at t at).0)
