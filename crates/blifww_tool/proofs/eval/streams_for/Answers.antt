use Rattle.std.proofs.Common.{arith, ap, sym, ◌∙◌, subst, List, length, map, string_bytes}
use Rattle.std.proofs.lemmas.Result.{err_from_is_err_and}
use Rattle.netlist_core.specs.Names.{Name}
use Rattle.streams.specs.Streams.{HasStreams, HasStreamCause}
use Rattle.blifww_tool.proofs.Evaluated.{inputs_at_fault, names_are_many}
use Rattle.blifww_tool.proofs.eval.streams_for.Goals as goal

pub returns-in_err-streams-clause-fault : goal.returns-in_err-streams-clause-fault
returns-in_err-streams-clause-fault c =
    let p = err_from_is_err_and c.from_residual-in_err-streams.result c.from_residual-in_err-streams.ensures.1 in
    let words = map string_bytes c.args.words.now in
    let e = c.in_err-streams.field-0.0 in
    let fault : HasStreamCause 1 words c.in_ok-ins.ins c.args.cycles e = subst (λ (ns : List Name). HasStreamCause 1 words ns c.args.cycles e) c.as_slice.ensures c.in_err-streams.ensures.fault in
    rw (p.1, p.2) (inputs_at_fault c.args.cycles words c.args.netlist.now.design c.in_ok-ins.ins e c.in_ok-ins.ensures.names fault)

pub returns-clause-streams : goal.returns-clause-streams
returns-clause-streams c =
    let words = map string_bytes c.args.words.now in
    let streams : HasStreams 1 words c.in_ok-ins.ins c.args.cycles c.in_ok-streams.streams.bits =
    subst (λ (ns : List Name). HasStreams 1 words ns c.args.cycles c.in_ok-streams.streams.bits) c.as_slice.ensures c.in_ok-streams.ensures.streams in
    record { in_names = c.in_ok-ins.ins; names = c.in_ok-ins.ensures.names; many = c.in_ok-streams.ensures.cycles; contexts = c.in_ok-streams.ensures.contexts; streams = streams }

pub returns-clause-many : goal.returns-clause-many
returns-clause-many c =
    let names = ap length c.as_slice.ensures ∙ names_are_many c.args.netlist.now.flat c.args.netlist.now.flat.ins c.in_ok-ins.ins c.in_ok-ins.ensures.flat in
    let many = c.in_ok-streams.ensures.many in
    omega (arith, many, names)

pub returns-clause-long : goal.returns-clause-long
returns-clause-long c = λ k d lt. c.in_ok-streams.ensures.long k d lt ∙ sym c.in_ok-streams.ensures.cycles
