-- Lines as values, regardless of where their bytes lie in memory.
use Rattle.pattern_reading.specs.Lines.{Line}
use Rattle.pattern_lines.specs.declared.lines.Line as lent

abbrev pub line_of : lent.Line → Line
line_of line = record { number = line.number; bytes = line.bytes.now; is_ended = line.is_ended }
