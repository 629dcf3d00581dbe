use Rattle.std.proofs.Common.{◌≡◌, length}
use Rattle.lane_kernel.specs.Marked.{AreListed, IsUnderWay}
use Rattle.lane_kernel.proofs.stepping.step_listed.Given as goal

abbrev pub invariant-loop-k : goal.invariant-loop-k
invariant-loop-k l =
    record {
      long_tails : length l.tails ≡ length l.fn.tails;
      long_bytes : length l.bytes ≡ length l.fn.bytes;
      long_soon : length l.soon ≡ length l.fn.soon;
      listed : AreListed l.coming.stride l.soon l.list l.many;
      under_way : IsUnderWay l.coming l.fn.tails l.entries l.k l.tails l.bytes l.soon;
    }
