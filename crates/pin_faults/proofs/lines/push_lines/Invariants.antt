use Rattle.std.proofs.Common.{◌≡◌, ◌++◌, take}
use Rattle.pin_faults.specs.SubcktLines.{lines_now}
use Rattle.pin_faults.proofs.lines.push_lines.Given as goal

abbrev pub invariant-loop-line : goal.invariant-loop-line
invariant-loop-line l = lines_now l.lines.items ≡ lines_now l.initial.lines.items ++ take l.line-index l.line-items
