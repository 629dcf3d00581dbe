use Rattle.program_laws.proofs.TapePrints.{tapes_print_alike, tapes_print_runs}
use Rattle.program_laws.proofs.tapes_print_alike.Goals as goal

pub returns-clause-runs : goal.returns-clause-runs
returns-clause-runs c = tapes_print_runs c.runners_show_runs.ensures c.streams_match.ensures.table

pub returns-clause-alike : goal.returns-clause-alike
returns-clause-alike c = tapes_print_alike c.runners_show_runs.ensures c.streams_match.ensures.table c.texts_are_decided.ensures
