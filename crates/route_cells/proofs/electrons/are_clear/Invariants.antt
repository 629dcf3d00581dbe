use Rattle.std.proofs.Common.{◌≡◌, ◌+◌, ◌*◌, ◌<◌, ◌≤◌, ℕ, false}
use Rattle.lists.specs.Items.{flag_at}
use Rattle.route_cells.proofs.electrons.are_clear.Given as goal

abbrev pub invariant-loop-t : goal.invariant-loop-t
invariant-loop-t l = (c : ℕ) → c < l.t → l.size ≤ l.first + c * l.period → flag_at l.bits c ≡ false
