use Rattle.std.proofs.Common.{◌∙◌, sym, ap, refl, arith, below_more, get_or, false, true≢false}
use Rattle.tile_core.specs.Kinds.{interface}
use Rattle.tile_timing.specs.Window.{shown}
use Rattle.tile_timing.specs.Law.{drawing_of}
use Rattle.tile_timing.proofs.Runs.{evolve_more, in_time_at, run_ends, run_in_time, run_rests}
use Rattle.tile_timing.proofs.law.keeps_time.Goals as goal

pub loop-generation-init : goal.loop-generation-init
loop-generation-init c = record { shows = c.light.ensures.shows; in_time = λ g h. absurd (omega arith) }

pub loop-generation-preserved : goal.loop-generation-preserved
loop-generation-preserved c =
    record {
      shows = evolve_more c.loop-generation.generation _ (shown c.loop-generation.now 32) _ c.loop-generation.invariant.shows (ap (λ cells. shown cells 32) c.copy_from_slice.ensures.after ∙ c.window_step.ensures.next);
      in_time = below_more _ _ c.loop-generation.invariant.in_time (in_time_at (interface c.args.kind) (get_or c.args.lit 0 false) (get_or c.args.lit 1 false) c.loop-generation.generation c.loop-generation.generation _ _ refl c.loop-generation.invariant.shows (c.is_in_time.ensures.0 c.if-not-is_in_time.false));
    }

pub returns-then-not-is_in_time : goal.returns-then-not-is_in_time
returns-then-not-is_in_time c = (
  λ t. absurd (true≢false (sym t)),
  λ law. absurd (true≢false (sym (c.is_in_time.ensures.1 (run_in_time (interface c.args.kind) (drawing_of c.args.base.now) (get_or c.args.lit 0 false) (get_or c.args.lit 1 false) c.loop-generation.generation (shown c.loop-generation.now 32) (omega arith) c.loop-generation.invariant.shows law)) ∙ c.if-not-is_in_time.true)),
)

pub returns-then-is_in_time : goal.returns-then-is_in_time
returns-then-is_in_time c = (
  λ t. run_ends (interface c.args.kind) (drawing_of c.args.base.now) (get_or c.args.lit 0 false) (get_or c.args.lit 1 false) c.loop-generation.generation (shown c.loop-generation.now 32) (omega arith) c.loop-generation.invariant.shows c.loop-generation.invariant.in_time (c.is_in_time-2.ensures.0 c.if-is_in_time.true) (c.is_at_rest.ensures.0 t),
  λ law. c.is_at_rest.ensures.1 (run_rests (interface c.args.kind) (drawing_of c.args.base.now) (get_or c.args.lit 0 false) (get_or c.args.lit 1 false) c.loop-generation.generation (shown c.loop-generation.now 32) (omega arith) c.loop-generation.invariant.shows law),
)

pub returns-else-is_in_time : goal.returns-else-is_in_time
returns-else-is_in_time c = (
  λ t. absurd (true≢false (sym t ∙ c.if-is_in_time.false)),
  λ law. c.is_in_time-2.ensures.1 (in_time_at (interface c.args.kind) (get_or c.args.lit 0 false) (get_or c.args.lit 1 false) c.loop-generation.generation 32 _ _ (omega arith) refl (run_in_time (interface c.args.kind) (drawing_of c.args.base.now) (get_or c.args.lit 0 false) (get_or c.args.lit 1 false) c.loop-generation.generation (shown c.loop-generation.now 32) (omega arith) c.loop-generation.invariant.shows law)),
)
