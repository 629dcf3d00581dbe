use Rattle.std.proofs.Common.{ℕ, ◌≡◌, ◌<◌, ◌/◌, ◌==◌, [], length, get_or, take, filter}
use Rattle.band_core.proofs.making.shares.Given as goal

abbrev pub invariant-loop-injection : goal.invariant-loop-injection
invariant-loop-injection l =
    record {
      many : length l.shares.items ≡ l.count;
      each : (b : ℕ) → b < l.count → get_or l.shares.items b [] ≡ filter (λ i. i.y / l.height == b) (take l.injection-index l.injections);
    }
