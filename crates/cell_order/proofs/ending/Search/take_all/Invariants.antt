use Rattle.std.proofs.Common.{◌≤◌, ◌<◌, length}
use Rattle.std.specs.Prelude.{All}
use Rattle.cell_order.proofs.ending.Search.take_all.Given as goal

abbrev pub invariant-loop : goal.invariant-loop
invariant-loop l = (length l.order.items ≤ l.counter) × All (λ cell. cell < length l.list.cells) l.order.items
