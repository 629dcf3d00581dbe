use Rattle.std.proofs.Common.{◌≡◌, ◌+◌, ◌≤◌, length}
use Rattle.pattern_reading.specs.PortLines.{table_version}
use Rattle.port_table.proofs.Walk.{version_from}
use Rattle.port_table.proofs.table.table_version.Given as goal

abbrev pub invariant-loop-rest : goal.invariant-loop-rest
invariant-loop-rest l = record {
  within : l.lines_before + length l.rest ≤ length l.fn.text;
  found : version_from (l.lines_before + 1) l.rest ≡ table_version l.fn.text;
}

abbrev pub decreases-loop-rest : goal.decreases-loop-rest
decreases-loop-rest l = length l.rest
