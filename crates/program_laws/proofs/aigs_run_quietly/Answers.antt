use Rattle.program_laws.proofs.RunsQuietly.{aig_carriers_run_quietly, aigs_run_quietly}
use Rattle.program_laws.proofs.aigs_run_quietly.Goals as goal

pub returns-clause-carriers : goal.returns-clause-carriers
returns-clause-carriers c = aig_carriers_run_quietly c.streams_match.ensures.table

pub returns-clause-written : goal.returns-clause-written
returns-clause-written c = aigs_run_quietly c.streams_match.ensures.table c.read_aigs_are_sound.ensures
