-- The table's lines in the rest of a text, whose lines have the numbers from here on.
use Rattle.std.specs.Prelude.{◌≡◌, ℕ, ◌+◌, List, ◌∷◌, filter_map, take_while}
use Rattle.pattern_reading.specs.Lines.{Line, lines_from, with_line_feeds}
use Rattle.pattern_reading.specs.Header.{is_skipped}
use Rattle.pattern_reading.specs.PortLines.{TableLine, table_entry, table_line, version_of_entries}
use Rattle.pattern_reading.specs.declared.ports.TableVersion.{TableVersion}

abbrev pub table_from : TableVersion → ℕ → List ℕ → List TableLine
table_from version number text = filter_map (table_line version) (take_while is_skipped (lines_from number (with_line_feeds text)))

-- the version that the first of them names
abbrev pub version_from : ℕ → List ℕ → TableVersion
version_from number text = version_of_entries (filter_map table_entry (take_while is_skipped (lines_from number (with_line_feeds text))))

-- the lines of a text, numbered from here, are a line and those of the rest
abbrev pub BeginsWithLine : ℕ → List ℕ → Line → List ℕ → Type 0
BeginsWithLine number text line rest = lines_from number (with_line_feeds text) ≡ line ∷ lines_from (number + 1) (with_line_feeds rest)
