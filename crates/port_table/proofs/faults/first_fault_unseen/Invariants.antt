use Rattle.std.proofs.Common.{◌≡◌, [], List, length, map, drop, Some}
use Rattle.pattern_reading.specs.PortLines.{PortForm}
use Rattle.pattern_reading.specs.PortTable.{faults_after}
use Rattle.port_table.specs.Lent.{table_line_of}
use Rattle.port_table.specs.Seen.{HasSeen}
use Rattle.port_table.proofs.faults.first_fault_unseen.Given as goal

abbrev pub invariant-loop-index : goal.invariant-loop-index
invariant-loop-index l =
    (before : List PortForm) × HasSeen l.seen before × (length before ≡ l.index)
    × (faults_after l.width l.height (map Some before) (map table_line_of (drop l.index l.lines)) ≡ faults_after l.width l.height [] (map table_line_of l.lines))
