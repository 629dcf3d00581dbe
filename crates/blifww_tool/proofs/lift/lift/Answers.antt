use Rattle.std.proofs.Common.{ap, Err}
use Rattle.std.proofs.lemmas.Result.{err_from_is_err_and, IfErr-weaker, IfOk-weaker}
use Rattle.ww_rule.specs.Patterns.{grid_of}
use Rattle.blifww_tool.proofs.Lifted.{pattern_refused, table_refused}
use Rattle.blifww_tool.proofs.lift.lift.Goals as goal

pub returns-in_err-pattern-clause-refused : goal.returns-in_err-pattern-clause-refused
returns-in_err-pattern-clause-refused c =
    let p = err_from_is_err_and c.from_residual.result c.from_residual.ensures.1 in
    rw (p.1, p.2) (pattern_refused c.args.text.now c.in_err-pattern.field-0.0 c.in_err-pattern.ensures.refused)

pub returns-in_err-ports-clause-refused : goal.returns-in_err-ports-clause-refused
returns-in_err-ports-clause-refused c =
    let p = err_from_is_err_and c.from_residual-in_err-ports.result c.from_residual-in_err-ports.ensures.1 in
    rw (p.1, p.2) (table_refused c.args.text.now (grid_of c.in_ok-pattern.pattern) c.in_err-ports.field-0.0 c.in_ok-pattern.ensures.pattern (λ f is. c.in_err-ports.ensures.fault f (ap Err is)))

pub returns-clause-printed : goal.returns-clause-printed
returns-clause-printed c = IfOk-weaker c.drawn-output.result _ _ (λ output h. h c.args.text.now c.in_ok-pattern.ensures.pattern c.in_ok-ports.ensures.table) c.drawn-output.ensures.printed

pub returns-clause-refused : goal.returns-clause-refused
returns-clause-refused c = IfErr-weaker c.drawn-output.result _ _ (λ e h. h c.args.text.now c.in_ok-pattern.ensures.pattern c.in_ok-ports.ensures.table) c.drawn-output.ensures.refused
