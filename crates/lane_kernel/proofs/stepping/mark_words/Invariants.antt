use Rattle.std.proofs.Common.{ℕ, ◌+◌, ◌<◌, ◌≤◌, ◌≡◌, length, get_or}
use Rattle.lane_kernel.specs.Marked.{AreListed, AreTold}
use Rattle.lane_kernel.proofs.stepping.mark_words.Given as goal

abbrev pub invariant-loop-i : goal.invariant-loop-i
invariant-loop-i l =
    record {
      long : length l.bytes ≡ length l.fn.bytes;
      listed : AreListed l.free.stride l.bytes l.list l.many;
      dark : (j : ℕ) → l.free.stride + 1 ≤ j → j < l.i → get_or l.bytes j 0 ≡ 0 → (get_or l.heads j 0 ≡ 0) × (get_or l.free.tails.now j 0 ≡ 0);
      told : (j : ℕ) → l.free.stride + 1 ≤ j → j < l.i → AreTold l.free (get_or l.heads j 0) j l.bytes;
    }
