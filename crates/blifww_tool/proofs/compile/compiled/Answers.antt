use Rattle.std.proofs.Common.{map, string_bytes}
use Rattle.std.proofs.lemmas.Result.{err_from_is_err_and, IfErr-weaker, IfOk-weaker}
use Rattle.blifww_tool.proofs.Compiled.{few_latches, has_starts, starts_refused}
use Rattle.start_words.proofs.Named.{latches_are_flat}
use Rattle.blifww_tool.proofs.compile.compiled.Goals as goal

pub read-requires : goal.read-requires
read-requires c = few_latches c.args.netlist.now.design c.args.netlist.now.flat _ c.requires.parts

pub returns-in_err-starts-clause-refused : goal.returns-in_err-starts-clause-refused
returns-in_err-starts-clause-refused c =
    let p = err_from_is_err_and c.from_residual.result c.from_residual.ensures.1 in
    rw (p.1, p.2)
    (λ text is. starts_refused latches_are_flat c.args.contexts (map string_bytes c.args.words.now) text c.args.netlist.now.design c.args.netlist.now.flat _ c.in_err-starts.field-0.0 is c.requires.parts
    c.in_err-starts.ensures.fault)

pub plan_of-requires-clause-parts : goal.plan_of-requires-clause-parts
plan_of-requires-clause-parts c = c.requires.parts

pub plan_of-requires-clause-names : goal.plan_of-requires-clause-names
plan_of-requires-clause-names c = c.requires.names

pub returns-in_err-plan-clause-refused : goal.returns-in_err-plan-clause-refused
returns-in_err-plan-clause-refused c =
    let p = err_from_is_err_and c.from_residual-in_err-plan.result c.from_residual-in_err-plan.ensures.1 in
    rw (p.1, p.2) (λ text is. tt)

pub started-output-requires-clause-parts : goal.started-output-requires-clause-parts
started-output-requires-clause-parts c = c.requires.parts

pub started-output-requires-clause-names : goal.started-output-requires-clause-names
started-output-requires-clause-names c = c.requires.names

pub started-output-requires-clause-carried : goal.started-output-requires-clause-carried
started-output-requires-clause-carried c = c.in_ok-plan.ensures.carried

pub started-output-requires-clause-planned : goal.started-output-requires-clause-planned
started-output-requires-clause-planned c = c.in_ok-plan.ensures.planned

pub returns-clause-printed : goal.returns-clause-printed
returns-clause-printed c =
    IfOk-weaker c.started-output.result _ _
    (λ output h text is. h text (has_starts latches_are_flat c.args.contexts (map string_bytes c.args.words.now) text c.args.netlist.now.design c.args.netlist.now.flat _ is c.requires.parts c.in_ok-starts.ensures.sound))
    c.started-output.ensures.printed

pub returns-clause-refused : goal.returns-clause-refused
returns-clause-refused c =
    IfErr-weaker c.started-output.result _ _
    (λ e h text is. h text (has_starts latches_are_flat c.args.contexts (map string_bytes c.args.words.now) text c.args.netlist.now.design c.args.netlist.now.flat _ is c.requires.parts c.in_ok-starts.ensures.sound))
    c.started-output.ensures.refused
