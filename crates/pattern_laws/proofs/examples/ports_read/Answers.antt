use Rattle.pattern_laws.proofs.PortExamples.{ports_as_said}
use Rattle.pattern_laws.proofs.examples.ports_read.Goals as goal

pub returns : goal.returns
returns c = ports_as_said
