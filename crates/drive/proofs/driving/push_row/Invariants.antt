use Rattle.std.proofs.Common.{◌≡◌, ◌++◌, take}
use Rattle.ww_rule.specs.Injections.{injections_of_row}
use Rattle.pattern_reading.specs.Ports.{cells_of}
use Rattle.drive.proofs.driving.push_row.Given as goal

abbrev pub invariant-loop-i : goal.invariant-loop-i
invariant-loop-i l = l.due.items ≡ l.fn.due.items ++ injections_of_row l.generation (take l.i (cells_of l.inputs)) (take l.i l.row)
