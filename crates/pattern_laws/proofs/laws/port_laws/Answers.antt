use Rattle.pattern_reading.proofs.PortsInside.{ports_inside}
use Rattle.pattern_reading.proofs.PortLaws.{one_table, one_port_fault, no_port_fault_if_read, table_or_fault}
use Rattle.pattern_laws.proofs.laws.port_laws.Goals as goal

pub returns-clause-table : goal.returns-clause-table
returns-clause-table c = one_table

pub returns-clause-fault : goal.returns-clause-fault
returns-clause-fault c = one_port_fault

pub returns-clause-apart : goal.returns-clause-apart
returns-clause-apart c = no_port_fault_if_read

pub returns-clause-total : goal.returns-clause-total
returns-clause-total c = table_or_fault

pub returns-clause-inside : goal.returns-clause-inside
returns-clause-inside c = ports_inside
