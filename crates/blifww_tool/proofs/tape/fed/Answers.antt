use Rattle.std.proofs.Common.{arith, map, string_bytes}
use Rattle.std.proofs.lemmas.Result.{err_from_is_err_and, IfErr-weaker, IfOk-weaker}
use Rattle.blifww_tool.proofs.Taped.{inputs_refused, no_memory, tape_printed}
use Rattle.blifww_tool.proofs.tape.fed.Goals as goal

pub returns-in_err-streams-clause-refused : goal.returns-in_err-streams-clause-refused
returns-in_err-streams-clause-refused c =
    let p = err_from_is_err_and c.from_residual.result c.from_residual.ensures.1 in
    rw (p.1, p.2) (λ text is. inputs_refused c.args.cycles (map string_bytes c.args.words.now) text c.args.netlist.now.design c.in_err-streams.field-0.0 is c.in_err-streams.ensures.fault)

pub taped-output-requires-clause-parts : goal.taped-output-requires-clause-parts
taped-output-requires-clause-parts c = c.requires.parts

pub taped-output-requires-clause-names : goal.taped-output-requires-clause-names
taped-output-requires-clause-names c = c.requires.names

pub taped-output-requires-clause-many : goal.taped-output-requires-clause-many
taped-output-requires-clause-many c = c.in_ok-streams.ensures.many

pub taped-output-requires-clause-long : goal.taped-output-requires-clause-long
taped-output-requires-clause-long c = c.in_ok-streams.ensures.long

pub taped-output-requires-clause-some : goal.taped-output-requires-clause-some
taped-output-requires-clause-some c = let many = c.in_ok-streams.ensures.streams.many in omega (arith, many, c.requires.some_cycle)

pub taped-output-requires-clause-few : goal.taped-output-requires-clause-few
taped-output-requires-clause-few c = let many = c.in_ok-streams.ensures.streams.many in omega (arith, many, c.requires.few_cycles)

pub returns-clause-printed : goal.returns-clause-printed
returns-clause-printed c =
    IfOk-weaker c.taped-output.result _ _
    (λ output h text is. tape_printed c.args.cycles (map string_bytes c.args.words.now) text c.args.netlist.now.design c.in_ok-streams.streams _ is c.in_ok-streams.ensures.streams h)
    c.taped-output.ensures.taped

pub returns-clause-refused : goal.returns-clause-refused
returns-clause-refused c =
    IfErr-weaker c.taped-output.result _ _ (λ e h text is. no_memory c.args.cycles (map string_bytes c.args.words.now) text e h) c.taped-output.ensures.refused
