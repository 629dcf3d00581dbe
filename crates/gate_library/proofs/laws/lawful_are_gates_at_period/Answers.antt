use Rattle.gate_library.proofs.Periods.{lawful_are_gates_at_period}
use Rattle.gate_library.proofs.laws.lawful_are_gates_at_period.Goals as goal

pub returns : goal.returns
returns c = lawful_are_gates_at_period
