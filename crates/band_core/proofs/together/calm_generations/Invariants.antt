use Rattle.std.proofs.Common.{ℕ, ◌≤◌, ◌<◌, length, get_or}
use Rattle.band_core.specs.declared.band.Band.{Band}
use Rattle.band_core.specs.Together.{HasNoneDueFor}
use Rattle.band_core.proofs.together.calm_generations.Given as goal

abbrev pub invariant-loop-band : goal.invariant-loop-band
invariant-loop-band l =
    record {
      few : l.calm ≤ l.most;
      calm : (b : ℕ) (d : Band) → b < l.band-index → b < length l.bands → HasNoneDueFor l.calm (get_or l.bands b d);
    }
