use Rattle.std.proofs.Common.{suc, ◌+◌, ◌≡◌, ◌∙◌, ap, subst, arith}
use Rattle.gate_laws.specs.Wires.{IsNear}
use Rattle.route_tables.specs.Tables.{wire_path}
use Rattle.route_tables.proofs.wires.steps_on.Goals as goal

pub returns : goal.returns
returns c = λ t.
    let one : c.args.i + 1 ≡ suc c.args.i = omega arith in
    let path = wire_path c.args.tables.now c.args.wire in
    subst (λ cell. IsNear cell (path (suc c.args.i))) c.in-Some.ensures (subst (IsNear _) (c.in-Some-path_cell.ensures ∙ ap path one) (c.is_near.ensures t))
