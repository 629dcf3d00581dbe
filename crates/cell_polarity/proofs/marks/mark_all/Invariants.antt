use Rattle.std.proofs.Common.{take}
use Rattle.cell_polarity.specs.Marks.{AreMarked}
use Rattle.cell_polarity.proofs.marks.mark_all.Given as goal

abbrev pub invariant-loop-src : goal.invariant-loop-src
invariant-loop-src l = AreMarked l.flags (take l.src-index l.sources) l.marks
