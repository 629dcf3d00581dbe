use Rattle.pattern_writing.proofs.Written.{written_pattern, written_ports, written_text}
use Rattle.pattern_writing.proofs.written_text_reads.Goals as goal

pub returns-clause-pattern : goal.returns-clause-pattern
returns-clause-pattern c = written_pattern

pub returns-clause-ports : goal.returns-clause-ports
returns-clause-ports c = written_ports

pub returns-clause-text : goal.returns-clause-text
returns-clause-text c = written_text
