use Rattle.std.proofs.Common.{◌≡◌, ◌++◌, take, flat_map}
use Rattle.cell_polarity.specs.Needed.{with_operands}
use Rattle.cell_polarity.proofs.marks.push_all_with_operands.Given as goal

abbrev pub invariant-loop-src : goal.invariant-loop-src
invariant-loop-src l = l.found.items ≡ l.fn.found.items ++ flat_map (with_operands l.cells) (take l.src-index l.sources)
