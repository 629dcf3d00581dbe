-- The port tables of known texts.
use Rattle.std.specs.Prelude.{ℕ, List, [], ◌∷◌, codes}
use Rattle.pattern_reading.specs.declared.ports.PortLine.{PortLine}
use Rattle.pattern_reading.specs.declared.ports.NetLine.{NetLine}
use Rattle.pattern_reading.specs.declared.ports.Ports.{Ports}

abbrev pub port_line_at : ℕ → ℕ → List ℕ → PortLine
port_line_at x y name = record { x = x; y = y; name = name }

abbrev pub net_line_at : ℕ → ℕ → ℕ → List ℕ → List ℕ → NetLine
net_line_at x y offset name path =
    record { x = x; y = y; offset = offset; name = name; path = path }

-- the table of an OR gate
abbrev pub or_ports : Ports
or_ports = record {
  p = 32;
  l = 32;
  c = 1;
  ins = port_line_at 0 8 (codes "a") ∷ port_line_at 0 24 (codes "b") ∷ [];
  outs = port_line_at 32 8 (codes "y") ∷ [];
  nets =
      net_line_at 0 8 0 (codes "a") (codes "-") ∷ net_line_at 0 24 0 (codes "b") (codes "-")
      ∷ net_line_at 31 8 31 (codes "y") (codes "-") ∷ [];
}

-- the table of a circuit without ports
abbrev pub bare_ports : Ports
bare_ports = record { p = 32; l = 0; c = 1; ins = []; outs = []; nets = [] }
