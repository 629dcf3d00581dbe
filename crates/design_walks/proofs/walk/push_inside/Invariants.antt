use Rattle.std.proofs.Common.{◌≡◌, ◌++◌, drop}
use Rattle.design_walks.specs.ToCome.{placed_by_lines}
use Rattle.design_walks.proofs.walk.push_inside.Given as goal

abbrev pub invariant-loop-line : goal.invariant-loop-line
invariant-loop-line l = l.to_come.items ≡ l.initial.to_come.items ++ placed_by_lines l.named l.outer l.number l.line (drop l.line l.lines)
