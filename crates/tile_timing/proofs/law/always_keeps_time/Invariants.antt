use Rattle.std.proofs.Common.{ℕ, ◌<◌, get_or, false, []}
use Rattle.tile_core.specs.Kinds.{interface}
use Rattle.tile_core.specs.TimingLaw.{KeepsTime}
use Rattle.tile_timing.specs.declared.law.TheConstants.{CHOICES}
use Rattle.tile_timing.specs.Law.{drawing_of}
use Rattle.tile_timing.proofs.law.always_keeps_time.Given as goal

abbrev pub invariant-loop-lit : goal.invariant-loop-lit
invariant-loop-lit l =
    (k : ℕ) → k < l.lit-index → KeepsTime (interface l.kind) (drawing_of l.base) (get_or (get_or CHOICES k []) 0 false) (get_or (get_or CHOICES k []) 1 false)
