use Rattle.gate_laws.proofs.PartJoins.{lone_cells_end_wires}
use Rattle.gate_laws.proofs.parts.lone_cells_end_wires.Goals as goal

pub returns : goal.returns
returns c = lone_cells_end_wires
