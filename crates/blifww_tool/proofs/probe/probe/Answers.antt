use Rattle.std.proofs.Common.{map, string_bytes, arith}
use Rattle.std.proofs.lemmas.Result.{err_from_is_err_and, IfErr-weaker, IfOk-weaker}
use Rattle.blifww_tool.proofs.Probed.{simulation_refused}
use Rattle.blifww_tool.proofs.probe.probe.Goals as goal

pub returns-in_err-driven-clause-refused : goal.returns-in_err-driven-clause-refused
returns-in_err-driven-clause-refused c =
    let p = err_from_is_err_and c.from_residual.result c.from_residual.ensures.1 in
    rw (p.1, p.2) (simulation_refused c.args.cycles c.args.name.now c.args.path.now (map string_bytes c.args.words.now) c.args.text.now c.in_err-driven.field-0.0 c.in_err-driven.ensures.refused)

pub shown-output-requires-clause-cycles : goal.shown-output-requires-clause-cycles
shown-output-requires-clause-cycles c = let many = c.in_ok-driven.ensures.is.many in omega (arith, many, c.requires)

pub returns-clause-printed : goal.returns-clause-printed
returns-clause-printed c =
    IfOk-weaker c.shown-output.result _ _ (λ output h. h c.args.cycles (map string_bytes c.args.words.now) c.args.text.now c.in_ok-driven.ensures.is) c.shown-output.ensures.printed

pub returns-clause-refused : goal.returns-clause-refused
returns-clause-refused c =
    IfErr-weaker c.shown-output.result _ _ (λ e h. h c.args.cycles (map string_bytes c.args.words.now) c.args.text.now c.in_ok-driven.ensures.is) c.shown-output.ensures.refused
