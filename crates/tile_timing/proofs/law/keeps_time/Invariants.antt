use Rattle.std.proofs.Common.{◌≡◌, ℕ, ◌<◌, get_or, false}
use Rattle.ww_rule.specs.Wireworld.{evolve}
use Rattle.tile_core.specs.Kinds.{interface}
use Rattle.tile_core.specs.TimingLaw.{started}
use Rattle.tile_timing.specs.Window.{shown}
use Rattle.tile_timing.specs.Law.{drawing_of, IsInTime}
use Rattle.tile_timing.proofs.law.keeps_time.Given as goal

abbrev pub invariant-loop-generation : goal.invariant-loop-generation
invariant-loop-generation l =
    record {
      shows : shown l.now 32 ≡ evolve l.generation (started (interface l.kind) (drawing_of l.base) (get_or l.lit 0 false) (get_or l.lit 1 false));
      in_time : (g : ℕ) → g < l.generation → IsInTime (interface l.kind) (get_or l.lit 0 false) (get_or l.lit 1 false) g (evolve g (started (interface l.kind) (drawing_of l.base) (get_or l.lit 0 false) (get_or l.lit 1 false)));
    }
