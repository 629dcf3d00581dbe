use Rattle.pattern_laws.proofs.PortExamples.{bad_lines_as_said, bad_orders_as_said, outside_ports_as_said, twice_as_said}
use Rattle.pattern_laws.proofs.examples.faults_of_ports.Goals as goal

pub returns-clause-bad_line : goal.returns-clause-bad_line
returns-clause-bad_line c = bad_lines_as_said

pub returns-clause-bad_order : goal.returns-clause-bad_order
returns-clause-bad_order c = bad_orders_as_said

pub returns-clause-outside : goal.returns-clause-outside
returns-clause-outside c = outside_ports_as_said

pub returns-clause-twice : goal.returns-clause-twice
returns-clause-twice c = twice_as_said
