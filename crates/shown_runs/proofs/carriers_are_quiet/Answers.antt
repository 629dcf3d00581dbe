use Rattle.shown_runs.proofs.Quiet.{carriers_are_quiet, one_context_is_quiet}
use Rattle.shown_runs.proofs.carriers_are_quiet.Goals as goal

pub returns-clause-contexts : goal.returns-clause-contexts
returns-clause-contexts c = carriers_are_quiet

pub returns-clause-one : goal.returns-clause-one
returns-clause-one c = one_context_is_quiet
