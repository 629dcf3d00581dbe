-- How the written text reads.
use Rattle.std.specs.Prelude.{ℕ, ◌<◌, ◌^◌, List, [], map}
use Rattle.std.specs.List.{AllByRecursion}
use Rattle.ww_rule.specs.Grid.{Grid, IsGrid}
use Rattle.pattern_reading.specs.declared.ports.Ports.{Ports}
use Rattle.pattern_reading.specs.PortLines.{PortForm}
use Rattle.pattern_reading.specs.PortTable.{ReadsAsPorts, ports_of}
use Rattle.pattern_reading.specs.Pattern.{ReadsAsPattern}
use Rattle.pattern_reading.specs.Laws.{HasCellsInside}
use Rattle.pattern_reading.specs.SoundTable.{IsSoundTable}
use Rattle.pattern_reading.specs.Spelling.{IsSpellable, IsSoundAfter, port_lines, spelled_line}
use Rattle.pattern_writing.specs.Writer.{writer_text}

-- a pattern whose rows fill its box, and whose sizes fit 64 bits
pub record IsWritable (grid : Grid) : Type 0 where
  pub in_rows : IsGrid grid.width grid.height grid.rows
  pub width : grid.width < 2 ^ 64
  pub height : grid.height < 2 ^ 64

-- the writer's text of a pattern, with the lines of a port table before it
abbrev pub written : Grid → List PortForm → List ℕ
written grid forms = writer_text grid (map spelled_line forms)

-- the writer's text of a pattern and its ports
abbrev pub pattern_text : Grid → Ports → List ℕ
pattern_text grid ports = writer_text grid (port_lines ports)

-- The written text of a writable pattern and of lines that can be spelled reads as the pattern.
abbrev pub HasWrittenPattern : Grid → List PortForm → Type 0
HasWrittenPattern grid forms =
    IsWritable grid → AllByRecursion IsSpellable forms → ReadsAsPattern (written grid forms) grid

-- The written text of a writable pattern and of lines that can be spelled reads as the table of the
-- lines, if none of them is at fault in the pattern's box.
abbrev pub HasWrittenPorts : Grid → List PortForm → Type 0
HasWrittenPorts grid forms =
    IsWritable grid → AllByRecursion IsSpellable forms
    → IsSoundAfter grid.width grid.height [] forms
    → ReadsAsPorts (written grid forms) grid.width grid.height (ports_of forms)

-- The writer's text of a writable pattern and its ports reads as both, if the ports' cells lie in
-- the pattern's box and the table is sound.
abbrev pub HasWrittenText : Grid → Ports → Type 0
HasWrittenText grid ports =
    IsWritable grid → IsSoundTable ports → HasCellsInside grid.width grid.height ports
    → ReadsAsPattern (pattern_text grid ports) grid
    × ReadsAsPorts (pattern_text grid ports) grid.width grid.height ports
