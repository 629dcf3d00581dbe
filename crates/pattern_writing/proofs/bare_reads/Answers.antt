use Rattle.pattern_writing.proofs.Samples.{bare_reads, bare_has_ports}
use Rattle.pattern_writing.proofs.bare_reads.Goals as goal

pub returns-clause-pattern : goal.returns-clause-pattern
returns-clause-pattern c = bare_reads

pub returns-clause-ports : goal.returns-clause-ports
returns-clause-ports c = bare_has_ports
