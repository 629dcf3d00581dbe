use Rattle.std.proofs.Common.{ap, Err}
use Rattle.std.proofs.lemmas.Result.{err_from_is_err_and, IfErr-weaker, IfOk-weaker}
use Rattle.ww_rule.specs.Patterns.{grid_of}
use Rattle.wwroute_tool.proofs.Carrying.{gives_netlist}
use Rattle.wwroute_tool.proofs.Endings.{free_reason, pattern_reason, table_reason}
use Rattle.wwroute_tool.proofs.extract.extract.Goals as goal

pub returns-in_err-pattern-clause-refused : goal.returns-in_err-pattern-clause-refused
returns-in_err-pattern-clause-refused c =
    let p = err_from_is_err_and c.from_residual.result c.from_residual.ensures.1 in
    rw (p.1, p.2) (pattern_reason c.args.text.now c.in_err-pattern.field-0.0 c.in_err-pattern.ensures.refused)

pub returns-in_err-ports-clause-refused : goal.returns-in_err-ports-clause-refused
returns-in_err-ports-clause-refused c =
    let p = err_from_is_err_and c.from_residual-in_err-ports.result c.from_residual-in_err-ports.ensures.1 in
    rw (p.1, p.2) (table_reason c.args.text.now (grid_of c.in_ok-pattern.pattern) c.in_err-ports.field-0.0 c.in_ok-pattern.ensures.pattern (λ f is. c.in_err-ports.ensures.fault f (ap Err is)))

pub returns-clause-carried : goal.returns-clause-carried
returns-clause-carried c =
    IfOk-weaker c.netlist_of-lift.result _ _
    (λ lift is. gives_netlist c.args.text.now c.in_ok-pattern.pattern c.in_ok-ports.ports c.in_ok-pattern.ensures.pattern c.in_ok-ports.ensures.table lift is)
    c.netlist_of-lift.ensures.carried

pub returns-clause-refused : goal.returns-clause-refused
returns-clause-refused c =
    IfErr-weaker c.netlist_of-lift.result _ _
    (λ r free. free_reason c.args.text.now r free (grid_of c.in_ok-pattern.pattern, c.in_ok-ports.ports, record { pattern = c.in_ok-pattern.ensures.pattern; table = c.in_ok-ports.ensures.table }, c.is_too_large.ensures.within c.if-is_too_large.false))
    c.netlist_of-lift.ensures.refused
