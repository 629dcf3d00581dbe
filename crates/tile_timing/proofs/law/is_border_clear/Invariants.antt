use Rattle.std.proofs.Common.{ℕ, ◌/◌, ◌%◌, ◌<◌, get_or}
use Rattle.ww_rule.specs.declared.pattern.State.TheVariants.{Empty}
use Rattle.tile_timing.specs.Law.{IsClearAt}
use Rattle.tile_timing.proofs.law.is_border_clear.Given as goal

abbrev pub invariant-loop-i : goal.invariant-loop-i
invariant-loop-i l = (k : ℕ) → k < l.i → IsClearAt l.kind (get_or l.cells k Empty) (k % 32) (k / 32)
