use Rattle.std.proofs.Common.{ap, Err}
use Rattle.std.proofs.lemmas.Result.{err_from_is_err_and}
use Rattle.ww_rule.specs.Grid.{Grid}
use Rattle.ww_rule.specs.Patterns.{grid_of}
use Rattle.blifww_tool.specs.Lifting.{IsCircuitText}
use Rattle.blifww_tool.proofs.Lifted.{audit_refused, lifts, many_outs_of}
use Rattle.blifww_tool.proofs.lift.drawn.Goals as goal

pub returns-in_err-plan-clause-refused : goal.returns-in_err-plan-clause-refused
returns-in_err-plan-clause-refused c =
    let p = err_from_is_err_and c.from_residual.result c.from_residual.ensures.1 in
    rw (p.1, p.2) (λ text reads table. audit_refused text (grid_of c.args.pattern.now) c.args.ports.now c.in_err-plan.field-0.0 reads table
    (λ f is. c.in_err-plan.ensures.fault f (ap Err is)))

pub of-made-requires-clause-admissible : goal.of-made-requires-clause-admissible
of-made-requires-clause-admissible c = c.in_ok-plan.ensures.drawn.circuit.admissible

pub of-made-requires-clause-outs : goal.of-made-requires-clause-outs
of-made-requires-clause-outs c = many_outs_of (grid_of c.args.pattern.now) c.args.ports.now c.in_ok-plan.plan c.in_ok-plan.ensures.drawn

pub returns-in_err-lifted-clause-refused : goal.returns-in_err-lifted-clause-refused
returns-in_err-lifted-clause-refused c =
    let p = err_from_is_err_and c.from_residual-in_err-lifted.result c.from_residual-in_err-lifted.ensures.1 in
    rw (p.1, p.2) (λ text reads table. tt)

pub returns-clause-printed : goal.returns-clause-printed
returns-clause-printed c = λ text reads table.
    let grid : Grid = grid_of c.args.pattern.now in
    let ports = c.args.ports.now in
    let plan = c.in_ok-plan.plan in
    let lift = c.in_ok-lifted.lifted in
    let is : IsCircuitText text grid ports plan = record {
      pattern = reads;
      table = table;
      drawing = c.in_ok-plan.ensures.drawn;
      named = c.in_ok-plan.ensures.named;
    } in
    lifts text grid ports plan is lift c.in_ok-lifted.ensures.lift c.in_ok-lifted.ensures.few
