use Rattle.std.proofs.Common.{◌≡◌, ◌∙◌, subst, subst₂, arith}
use Rattle.gate_library.specs.Lawful.{IsLawful}
use Rattle.route_tables.specs.Tables.{gate_drawing}
use Rattle.route_tables.specs.Cells.{HasCellsOfGate}
use Rattle.route_tables.proofs.gates.is_gate_there.Goals as goal

pub returns : goal.returns
returns c = λ t.
    let tables = c.args.tables.now in
    let states = c.args.states.now in
    let gate = c.in-Some.ensures.1 in
    let number : c.in-Ok.number ≡ c.args.k = omega arith in
    record {
      lawful = subst (λ g. IsLawful (gate_drawing tables g)) gate (subst IsLawful c.in-Some-kind.ensures c.drawing.ensures.lawful);
      cells = subst₂ (λ n g. HasCellsOfGate tables states n g (gate_drawing tables g)) number gate
          (subst (HasCellsOfGate tables states c.in-Ok.number c.in-Some.gate.now) (c.drawing.ensures.is ∙ c.in-Some-kind.ensures) (c.has_cells.ensures t));
    }
