-- The words of a line, or of a model, whose names do not pass a test.
use Rattle.std.specs.Prelude.{ℕ, Bool, not, List, filter_map, Option}
use Rattle.std.specs.Bool.{then_some}
use Rattle.netlist_core.specs.declared.model.Pin.{Pin}
use Rattle.netlist_core.specs.declared.model.Port.{Port}
use Rattle.netlist_core.specs.declared.model.Subckt.{Subckt}
use Rattle.netlist_core.specs.Names.{Name, at_line}

-- the formals of a line that do not pass the test
abbrev pub formal_unless : (Name → Bool) → ℕ → Pin → Option Port
formal_unless test line pin = then_some (not (test pin.formal)) (at_line line pin.formal)

abbrev pub formals_unless : (Name → Bool) → Subckt → List Port
formals_unless test s = filter_map (formal_unless test s.line) s.pins

-- the ports whose names do not pass the test
abbrev pub port_unless : (Name → Bool) → Port → Option Port
port_unless test port = then_some (not (test port.name)) port

abbrev pub ports_unless : (Name → Bool) → List Port → List Port
ports_unless test ports = filter_map (port_unless test) ports
