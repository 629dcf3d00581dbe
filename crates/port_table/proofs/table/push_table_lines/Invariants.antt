use Rattle.std.proofs.Common.{◌≡◌, ◌+◌, ◌≤◌, ◌++◌, map, length}
use Rattle.pattern_reading.specs.PortLines.{table_of, table_version}
use Rattle.port_table.specs.Lent.{table_line_of}
use Rattle.port_table.proofs.Walk.{table_from}
use Rattle.port_table.proofs.table.push_table_lines.Given as goal

abbrev pub invariant-loop-rest : goal.invariant-loop-rest
invariant-loop-rest l = record {
  within : l.lines_before + length l.rest ≤ length l.fn.text;
  found : map table_line_of l.table.items ++ table_from (table_version l.fn.text) (l.lines_before + 1) l.rest ≡ table_of l.fn.text;
}

abbrev pub decreases-loop-rest : goal.decreases-loop-rest
decreases-loop-rest l = length l.rest
