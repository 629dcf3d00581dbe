use Rattle.std.proofs.Common.{refl}
use Rattle.std.specs.Fmt.{digits}
use Rattle.streams.proofs.examples.stream_words_read.Goals as goal

pub returns-clause-faults_in_contexts : goal.returns-clause-faults_in_contexts
unfolding digits
returns-clause-faults_in_contexts c = (refl, (refl, (refl, (refl, (refl, (refl, (refl, (refl, (refl, (refl, (refl, (refl, (refl, (refl, (refl, (refl, (refl, tt)))))))))))))))))
