use Rattle.program_laws.proofs.PrintsRuns.{carriers_print_runs, compiled_print_runs}
use Rattle.program_laws.proofs.carriers_print_runs.Goals as goal

pub returns-clause-carriers : goal.returns-clause-carriers
returns-clause-carriers c = carriers_print_runs c.carriers_show_contexts.ensures c.streams_match.ensures.table

pub returns-clause-compiled : goal.returns-clause-compiled
returns-clause-compiled c = compiled_print_runs c.carriers_show_contexts.ensures c.streams_match.ensures.table
