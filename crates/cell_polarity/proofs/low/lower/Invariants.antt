use Rattle.cell_polarity.specs.Low.{AreLow}
use Rattle.cell_polarity.proofs.low.lower.Given as goal

abbrev pub invariant-loop-number : goal.invariant-loop-number
invariant-loop-number l = AreLow l.fn.old l.number l.low.zeros.items l.low.list l.low.lows.items
