-- What stands before the items of a text.
use Rattle.std.specs.Prelude.{ℕ, List, ◌++◌}
use Rattle.pattern_reading.specs.declared.ports.Ports.{Ports}
use Rattle.pattern_reading.specs.Spelling.{port_lines}
use Rattle.pattern_writing.specs.Writer.{ended_lines, header_text}

-- the lines of a port table, and the header of a box
abbrev pub opening_text : Ports → (width height : ℕ) → List ℕ
opening_text ports width height = ended_lines (port_lines ports) ++ header_text width height
