use Rattle.std.proofs.Common.{refl}
use Rattle.std.specs.Fmt.{digits}
use Rattle.pattern_writing.proofs.samples_are_so.Goals as goal

-- src/lib.rt:9:1
pub returns-clause-gate : goal.returns-clause-gate
unfolding digits
returns-clause-gate c = refl

-- src/lib.rt:9:1
pub returns-clause-gate_with_nets : goal.returns-clause-gate_with_nets
unfolding digits
returns-clause-gate_with_nets c = refl

-- src/lib.rt:9:1
pub returns-clause-bare : goal.returns-clause-bare
unfolding digits
returns-clause-bare c = refl

-- src/lib.rt:9:1
pub returns-clause-mixed : goal.returns-clause-mixed
unfolding digits
returns-clause-mixed c = refl

-- src/lib.rt:9:1
pub returns-clause-empty : goal.returns-clause-empty
unfolding digits
returns-clause-empty c = refl
