use Rattle.gate_laws.proofs.Slower.{answers_go_slower}
use Rattle.gate_laws.proofs.laws.answers_go_slower.Goals as goal

pub returns : goal.returns
returns c = answers_go_slower
