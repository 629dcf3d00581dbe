use Rattle.std.proofs.Common.{map, string_bytes}
use Rattle.std.proofs.lemmas.Result.{err_from_is_err_and, IfOk-weaker, IfErr-weaker}
use Rattle.blifww_tool.proofs.Evaluated.{eval_refused, streams_refused, run_printed, no_memory}
use Rattle.blifww_tool.proofs.eval.eval.Goals as goal

pub returns-in_err-netlist-clause-refused : goal.returns-in_err-netlist-clause-refused
returns-in_err-netlist-clause-refused c =
    let p = err_from_is_err_and c.from_residual.result c.from_residual.ensures.1 in
    rw (p.1, p.2) (eval_refused c.args.cycles (map string_bytes c.args.words.now) c.args.text.now c.in_err-netlist.field-0.0 c.in_err-netlist.ensures.refused)

pub returns-in_err-streams-clause-refused : goal.returns-in_err-streams-clause-refused
returns-in_err-streams-clause-refused c =
    let p = err_from_is_err_and c.from_residual-in_err-streams.result c.from_residual-in_err-streams.ensures.1 in
    rw (p.1, p.2) (streams_refused c.args.cycles (map string_bytes c.args.words.now) c.args.text.now c.in_ok-netlist.netlist.design c.in_err-streams.field-0.0 c.in_ok-netlist.ensures.netlist c.in_err-streams.ensures.fault)

pub returns-clause-printed : goal.returns-clause-printed
returns-clause-printed c =
    IfOk-weaker c.run_lines-output.result _ _
    (λ output h. run_printed c.args.cycles (map string_bytes c.args.words.now) c.args.text.now c.in_ok-netlist.netlist.design c.in_ok-streams.streams _ c.in_ok-netlist.ensures.netlist c.in_ok-streams.ensures.streams h)
    c.run_lines-output.ensures.printed

pub returns-clause-refused : goal.returns-clause-refused
returns-clause-refused c = IfErr-weaker c.run_lines-output.result _ _ (λ e h. no_memory (map string_bytes c.args.words.now) c.args.cycles c.args.text.now e h) c.run_lines-output.ensures.refused
