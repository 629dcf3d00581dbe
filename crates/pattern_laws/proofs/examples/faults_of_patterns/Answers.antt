use Rattle.pattern_laws.proofs.RleExamples.{header_faults_as_said, item_faults_as_said, end_faults_as_said}
use Rattle.pattern_laws.proofs.examples.faults_of_patterns.Goals as goal

pub returns-clause-headers : goal.returns-clause-headers
returns-clause-headers c = header_faults_as_said

pub returns-clause-items : goal.returns-clause-items
returns-clause-items c = item_faults_as_said

pub returns-clause-ends : goal.returns-clause-ends
returns-clause-ends c = end_faults_as_said
