use Rattle.band_core.specs.Bands.{IsSamePattern}
use Rattle.pattern_tests.proofs.bands.push_answers.Given as goal

abbrev pub invariant-loop-call : goal.invariant-loop-call
invariant-loop-call l = IsSamePattern l.fn.bands l.bands
