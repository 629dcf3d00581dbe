use Rattle.std.proofs.Common.{ap}
use Rattle.program_runs.specs.Refusals.{circuit_line}
use Rattle.program_runs.proofs.SameTexts.{told}
use Rattle.program_runs.proofs.told.tell_circuit.Goals as goal

pub returns : goal.returns
returns g c =
    let e = c.write_pieces.ensures in
    told _ _ _ _ _ (ap circuit_line c.circuit_fault_name.ensures) e.ok e.front e.cause
