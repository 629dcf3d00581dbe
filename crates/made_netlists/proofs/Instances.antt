-- What the definitions give at a known seed.
use Rattle.std.proofs.Common.{refl}
use Rattle.std.specs.Fmt.{digits}
use Rattle.made_netlists.specs.Instances.{TwoGates}

two_gates : TwoGates
unfolding digits
two_gates = record { text = refl; state = refl; first_draws = refl }
