use Rattle.std.proofs.Common.{length}
use Rattle.std.specs.BinaryHeap.{heap_items}
use Rattle.cell_order.proofs.ending.Search.next.Given as goal

abbrev pub decreases-loop-worth : goal.decreases-loop-worth
decreases-loop-worth l = length (heap_items l.self.ready)
