use Rattle.std.proofs.Common.{◌≡◌, ℕ, ◌+◌, ◌<◌, ◌≤◌, get_or}
use Rattle.tile_library.proofs.rows.run_from.Given as goal

abbrev pub invariant-loop-end : goal.invariant-loop-end
invariant-loop-end l = record {
  some : l.x + 1 ≤ l.end;
  alike : (i : ℕ) → l.x + i < l.end → get_or l.row (l.x + i) 46 ≡ l.first;
}
