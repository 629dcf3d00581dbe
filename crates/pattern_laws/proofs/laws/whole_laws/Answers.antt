use Rattle.pattern_laws.proofs.Whole.{answer, one_answer}
use Rattle.pattern_laws.proofs.laws.whole_laws.Goals as goal

pub returns-clause-answer : goal.returns-clause-answer
returns-clause-answer c = answer

pub returns-clause-one : goal.returns-clause-one
returns-clause-one c = one_answer
