use Rattle.program_laws.proofs.AigPrints.{carriers_print_aig_runs, aigs_print_runs}
use Rattle.program_laws.proofs.aigs_print_runs.Goals as goal

pub returns-clause-carriers : goal.returns-clause-carriers
returns-clause-carriers c = carriers_print_aig_runs c.carriers_show_aig_runs.ensures c.streams_match.ensures.table

pub returns-clause-written : goal.returns-clause-written
returns-clause-written c = aigs_print_runs c.carriers_show_aig_runs.ensures c.streams_match.ensures.table c.read_aigs_are_sound.ensures
