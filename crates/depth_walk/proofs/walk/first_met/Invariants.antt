use Rattle.depth_walk.specs.Walk.{AreDoneWithin}
use Rattle.depth_walk.proofs.walk.first_met.Given as goal

abbrev pub invariant-loop-step : goal.invariant-loop-step
invariant-loop-step l = AreDoneWithin l.links l.marks l.n l.from l.step
