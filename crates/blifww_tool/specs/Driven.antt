-- What is read from a text and words, as a simulation, and names in contexts.
use Rattle.std.specs.Prelude.{ℕ, List, map}
use Rattle.ww_rule.specs.declared.pattern.Pattern.{Pattern}
use Rattle.ww_rule.specs.Patterns.{grid_of}
use Rattle.streams.specs.Cuts.{with_context}
use Rattle.pattern_reading.specs.declared.ports.PortLine.{PortLine}
use Rattle.pattern_reading.specs.declared.ports.Ports.{Ports}
use Rattle.streams.specs.declared.streams.Streams.{Streams}
use Rattle.blifww_tool.specs.Simulation.{Simulation}
use Rattle.blifww_tool.specs.declared.driven.Driven.{Driven}

abbrev pub simulation_in : Pattern → Ports → Streams → Simulation
simulation_in pattern ports streams =
    record { grid = grid_of pattern; ports = ports; streams = streams }

abbrev pub simulation_of : Driven → Simulation
simulation_of d = simulation_in d.pattern d.ports d.streams

-- the names of ports as they stand before their bits in a context
abbrev pub names_in_context : (contexts : ℕ) → List PortLine → (context : ℕ) → List (List ℕ)
names_in_context contexts ports context =
    map (λ port. with_context contexts context port.name) ports
