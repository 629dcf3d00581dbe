-- Ports at which a line of the table may stand.
use Rattle.std.specs.Prelude.{pos, ℕ, ◌≡◌, List}
use Rattle.ww_rule.specs.declared.pattern.State.{State}
use Rattle.ww_rule.specs.declared.pattern.State.TheVariants.{Conductor}
use Rattle.gate_laws.specs.Signals.{cell_state}
use Rattle.pattern_reading.specs.declared.ports.PortLine.{PortLine}
use Rattle.cell_core.specs.declared.cells.Src.{Src}
use Rattle.gate_library.specs.declared.circuit.DrawnPort.{DrawnPort}
use Rattle.route_tables.specs.declared.tables.Tables.{Tables}
use Rattle.route_tables.specs.Tables.{IsPort, point_at, box_plane}

-- the port is there, at this cell, is lit first at this generation, and has this source
abbrev pub IsPointAt : Tables → DrawnPort → (x y first : ℕ) → Src → Type 0
IsPointAt t at x y first source =
    IsPort t at × (point_at t at ≡ (((pos x, pos y), first), source))

-- the cell of the line is a conductor at generation 0
abbrev pub IsConductorAt : Tables → List State → PortLine → Type 0
IsConductorAt t states line = cell_state (box_plane t states) (pos line.x, pos line.y) ≡ Conductor
