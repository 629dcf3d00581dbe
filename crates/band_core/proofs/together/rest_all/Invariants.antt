use Rattle.std.proofs.Common.{ℕ, ◌≡◌, ◌≤◌, ◌<◌, length, get_or}
use Rattle.band_core.specs.declared.band.Band.{Band}
use Rattle.band_core.specs.Together.{HasRested}
use Rattle.band_core.proofs.together.rest_all.Given as goal

abbrev pub invariant-loop-band : goal.invariant-loop-band
invariant-loop-band l =
    record {
      many : length l.bands ≡ length l.fn.bands;
      rested : (b : ℕ) (d : Band) → b < l.band-index → b < length l.fn.bands → HasRested l.n (get_or l.fn.bands b d) (get_or l.bands b d);
      left : (b : ℕ) (d : Band) → l.band-index ≤ b → get_or l.bands b d ≡ get_or l.fn.bands b d;
    }
