use Rattle.pattern_reading.proofs.RleLaws.{one_pattern, one_fault, no_fault_if_read, pattern_or_fault}
use Rattle.pattern_laws.proofs.laws.pattern_laws.Goals as goal

pub returns-clause-pattern : goal.returns-clause-pattern
returns-clause-pattern c = one_pattern

pub returns-clause-fault : goal.returns-clause-fault
returns-clause-fault c = one_fault

pub returns-clause-apart : goal.returns-clause-apart
returns-clause-apart c = no_fault_if_read

pub returns-clause-total : goal.returns-clause-total
returns-clause-total c = pattern_or_fault
