use Rattle.program_laws.proofs.RunsQuietly.{carriers_run_quietly, compiled_run_quietly}
use Rattle.program_laws.proofs.carriers_run_quietly.Goals as goal

pub returns-clause-carriers : goal.returns-clause-carriers
returns-clause-carriers c = carriers_run_quietly c.carriers_are_quiet.ensures.contexts c.streams_match.ensures.table

pub returns-clause-compiled : goal.returns-clause-compiled
returns-clause-compiled c = compiled_run_quietly c.carriers_are_quiet.ensures.contexts c.streams_match.ensures.table
