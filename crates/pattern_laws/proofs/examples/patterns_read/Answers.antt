use Rattle.pattern_laws.proofs.RleExamples.{headers_as_said, items_as_said}
use Rattle.pattern_laws.proofs.examples.patterns_read.Goals as goal

pub returns-clause-headers : goal.returns-clause-headers
returns-clause-headers c = headers_as_said

pub returns-clause-items : goal.returns-clause-items
returns-clause-items c = items_as_said
