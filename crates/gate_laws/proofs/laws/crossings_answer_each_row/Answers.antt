use Rattle.gate_laws.proofs.Crossings.{crossings_answer_each_row}
use Rattle.gate_laws.proofs.laws.crossings_answer_each_row.Goals as goal

pub returns : goal.returns
returns c = crossings_answer_each_row
