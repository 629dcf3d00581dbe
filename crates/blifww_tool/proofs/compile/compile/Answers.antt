use Rattle.std.proofs.Common.{map, string_bytes}
use Rattle.std.proofs.lemmas.Result.{err_from_is_err_and, IfErr-weaker, IfOk-weaker}
use Rattle.netlist_plans.proofs.Names.{texts_have_port_names}
use Rattle.blifww_tool.proofs.Compiled.{compile_refused}
use Rattle.blifww_tool.proofs.compile.compile.Goals as goal

pub returns-in_err-netlist-clause-refused : goal.returns-in_err-netlist-clause-refused
returns-in_err-netlist-clause-refused c =
    let p = err_from_is_err_and c.from_residual.result c.from_residual.ensures.1 in
    rw (p.1, p.2) (compile_refused c.args.contexts (map string_bytes c.args.words.now) c.args.text.now c.in_err-netlist.field-0.0 c.in_err-netlist.ensures.refused)

pub compiled-output-requires-clause-parts : goal.compiled-output-requires-clause-parts
compiled-output-requires-clause-parts c = c.in_ok-netlist.ensures.parts

pub compiled-output-requires-clause-names : goal.compiled-output-requires-clause-names
compiled-output-requires-clause-names c =
    texts_have_port_names c.args.text.now c.in_ok-netlist.netlist.design c.in_ok-netlist.netlist.flat c.in_ok-netlist.ensures.netlist.is.design_of c.in_ok-netlist.ensures.parts.is_flat

pub returns-clause-printed : goal.returns-clause-printed
returns-clause-printed c = IfOk-weaker c.compiled-output.result _ _ (λ output h. h c.args.text.now c.in_ok-netlist.ensures.netlist) c.compiled-output.ensures.printed

pub returns-clause-refused : goal.returns-clause-refused
returns-clause-refused c = IfErr-weaker c.compiled-output.result _ _ (λ e h. h c.args.text.now c.in_ok-netlist.ensures.netlist) c.compiled-output.ensures.refused
