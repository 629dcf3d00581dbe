use Rattle.program_laws.proofs.EvaluatesAlike.{carried_evaluate_alike, lifted_evaluate_alike}
use Rattle.program_laws.proofs.carried_evaluate_alike.Goals as goal

pub returns-clause-carried : goal.returns-clause-carried
returns-clause-carried c = carried_evaluate_alike c.carriers_show_runs.ensures c.streams_match.ensures.one c.texts_are_decided.ensures

pub returns-clause-lifted : goal.returns-clause-lifted
returns-clause-lifted c = lifted_evaluate_alike c.carriers_show_runs.ensures c.streams_match.ensures.one c.texts_are_decided.ensures
