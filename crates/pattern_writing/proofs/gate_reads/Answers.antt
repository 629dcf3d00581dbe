use Rattle.pattern_writing.proofs.Samples.{or_reads, or_with_nets_reads, or_has_ports, or_with_nets_has_ports}
use Rattle.pattern_writing.proofs.gate_reads.Goals as goal

pub returns-clause-pattern : goal.returns-clause-pattern
returns-clause-pattern c = or_reads

pub returns-clause-ports : goal.returns-clause-ports
returns-clause-ports c = or_has_ports

pub returns-clause-pattern_with_nets : goal.returns-clause-pattern_with_nets
returns-clause-pattern_with_nets c = or_with_nets_reads

pub returns-clause-ports_with_nets : goal.returns-clause-ports_with_nets
returns-clause-ports_with_nets c = or_with_nets_has_ports
