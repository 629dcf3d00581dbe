-- The cells and the names of port lines.
use Rattle.std.specs.Prelude.{ℕ, List, map}
use Rattle.pattern_reading.specs.declared.ports.PortLine.{PortLine}

abbrev pub cells_of : List PortLine → List (ℕ × ℕ)
cells_of lines = map (λ line. (line.x, line.y)) lines

abbrev pub names_of : List PortLine → List (List ℕ)
names_of lines = map (λ line. line.name) lines
