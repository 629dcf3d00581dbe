use Rattle.std.proofs.Common.{get_or, false, [], below_more, arith, refl}
use Rattle.tile_core.specs.Kinds.{interface}
use Rattle.tile_core.specs.TimingLaw.{KeepsTime}
use Rattle.tile_timing.specs.declared.law.TheConstants.{CHOICES}
use Rattle.tile_timing.specs.Law.{drawing_of}
use Rattle.tile_timing.proofs.Runs.{at_every_choice}
use Rattle.tile_timing.proofs.law.always_keeps_time.Goals as goal

pub loop-lit-preserved : goal.loop-lit-preserved
loop-lit-preserved c =
    below_more (λ k. KeepsTime (interface c.args.kind) (drawing_of c.args.base.now) (get_or (get_or CHOICES k []) 0 false) (get_or (get_or CHOICES k []) 1 false)) c.loop-lit.lit-index c.loop-lit.invariant (c.keeps_time.ensures.0 c.if-not-keeps_time.false)

pub returns : goal.returns
returns c = (
  λ t. at_every_choice (λ a b. KeepsTime (interface c.args.kind) (drawing_of c.args.base.now) a b) (λ k h. c.loop-lit.invariant k (omega arith)),
  λ law. refl,
)
