use Rattle.std.proofs.Common.{◌≡◌, ℕ, pos, ◌/◌, ◌%◌, ◌<◌, get_or}
use Rattle.ww_rule.specs.declared.pattern.State.TheVariants.{Empty}
use Rattle.ww_rule.specs.Wireworld.{next_plane}
use Rattle.tile_timing.specs.Window.{shown}
use Rattle.tile_timing.proofs.window.window_step.Given as goal

abbrev pub invariant-loop-i : goal.invariant-loop-i
invariant-loop-i l =
    (k : ℕ) → k < l.i → get_or l.new k Empty ≡ next_plane (shown l.old l.width) (pos (k % l.width)) (pos (k / l.width))
