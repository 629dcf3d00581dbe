use Rattle.std.proofs.Common.{ℕ, ◌≡◌, ◌<◌, [], length, get_or}
use Rattle.band_core.proofs.making.empty_lists.Given as goal

abbrev pub invariant-loop-b : goal.invariant-loop-b
invariant-loop-b l =
    record {
      many : length l.lists.items ≡ l.b;
      empty : (k : ℕ) → k < l.b → get_or l.lists.items k [] ≡ [];
    }
