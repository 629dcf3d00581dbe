use Rattle.std.proofs.Common.{ℕ, ◌<◌, length, get_or}
use Rattle.band_core.specs.declared.band.Band.{Band}
use Rattle.band_core.specs.Together.{HasNoneLit}
use Rattle.band_core.proofs.together.are_dark.Given as goal

abbrev pub invariant-loop-band : goal.invariant-loop-band
invariant-loop-band l = (b : ℕ) (d : Band) → b < l.band-index → b < length l.bands → HasNoneLit (get_or l.bands b d)
