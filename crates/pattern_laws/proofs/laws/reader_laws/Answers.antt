use Rattle.pattern_reading.proofs.Ranges.{small_box}
use Rattle.pattern_reading.proofs.Large.{reader_answer, one_reader_answer}
use Rattle.pattern_laws.proofs.laws.reader_laws.Goals as goal

pub returns-clause-answer : goal.returns-clause-answer
returns-clause-answer c = reader_answer

pub returns-clause-one : goal.returns-clause-one
returns-clause-one c = one_reader_answer

pub returns-clause-small : goal.returns-clause-small
returns-clause-small c = small_box
