use Rattle.blif_text.proofs.FirstFaults.{line_fault_is_first, no_line_fault}
use Rattle.program_laws.proofs.laws.line_faults_are_first.Goals as goal

pub returns-clause-first : goal.returns-clause-first
returns-clause-first c = line_fault_is_first

pub returns-clause-none : goal.returns-clause-none
returns-clause-none c = no_line_fault
