use Rattle.std.proofs.Common.{◌≡◌}
use Rattle.cell_polarity.specs.Raised.{AreRaised}
use Rattle.cell_polarity.proofs.high.raise_all.Given as goal

abbrev pub invariant-loop-k : goal.invariant-loop-k
invariant-loop-k l =
    AreRaised l.fn.old l.fn.low.list l.fn.kept l.fn.low.zeros.items l.marks l.stays l.k l.low.list l.news.items × (l.low.zeros.items ≡ l.fn.low.zeros.items) × (l.low.lows.items ≡ l.fn.low.lows.items)
