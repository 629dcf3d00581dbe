use Rattle.program_laws.proofs.OneEvaluation.{eval_prints_one}
use Rattle.program_laws.proofs.eval_prints_one_answer.Goals as goal

pub returns : goal.returns
returns c = eval_prints_one c.texts_are_decided.ensures
