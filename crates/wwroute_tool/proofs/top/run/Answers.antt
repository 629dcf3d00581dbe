use Rattle.std.proofs.Common.{◌∙◌, arith, inl, refl, sym}
use Rattle.wwroute_tool.proofs.Endings.{done, done_cut, never_done, refused_early, told, told_cut}
use Rattle.wwroute_tool.proofs.Headlines.{routes, writes_netlist, writes_nets, writes_pattern}
use Rattle.wwroute_tool.proofs.top.run.Goals as goal

pub returns-in-Ok-tell-clause-headline : goal.returns-in-Ok-tell-clause-headline
returns-in-Ok-tell-clause-headline g c = λ e nets asks. writes_pattern _ _ _ _ c.in-Ok.ensures.done.0 nets asks

pub returns-in-Ok-tell-clause-nets : goal.returns-in-Ok-tell-clause-nets
returns-in-Ok-tell-clause-nets g c = λ e nets asks. writes_nets _ _ _ _ c.in-Ok.ensures.done.0 nets asks

pub returns-in-Ok-tell-clause-extracts : goal.returns-in-Ok-tell-clause-extracts
returns-in-Ok-tell-clause-extracts g c = λ e asks. writes_netlist _ _ _ _ c.in-Ok.ensures.done.0 asks

pub returns-in-Ok-tell-clause-ends : goal.returns-in-Ok-tell-clause-ends
returns-in-Ok-tell-clause-ends g c =
    let e = c.in-Ok.ensures in
    done _ _ _ _ _ _ _ _ _ c.work.ensures.front _ e.done.0 e.done.1 c.in-Ok-tell.ensures.ok e.out_calm e.err_calm c.in-Ok-tell.ensures.cause.kept

pub returns-in-Ok-tell-clause-routes : goal.returns-in-Ok-tell-clause-routes
returns-in-Ok-tell-clause-routes g c = λ text design calm. inl refl

pub returns-in-Ok-clause-headline : goal.returns-in-Ok-clause-headline
returns-in-Ok-clause-headline g c = λ e. absurd (omega (arith, e))

pub returns-in-Ok-clause-nets : goal.returns-in-Ok-clause-nets
returns-in-Ok-clause-nets g c = λ e. absurd (omega (arith, e))

pub returns-in-Ok-clause-extracts : goal.returns-in-Ok-clause-extracts
returns-in-Ok-clause-extracts g c = λ e. absurd (omega (arith, e))

pub returns-in-Ok-clause-routes : goal.returns-in-Ok-clause-routes
returns-in-Ok-clause-routes g c =
    let e = c.in-Ok.ensures in
    routes _ 6 (done_cut _ _ _ _ _ _ _ _ _ c.work.ensures.front _ e.done.0 c.in-Err.ensures.some e.done.1 c.in-Err.ensures.front e.out_calm e.err_calm c.in-Err.ensures.cause.failed)

pub returns-in-Ok-clause-ends : goal.returns-in-Ok-clause-ends
returns-in-Ok-clause-ends g c =
    let e = c.in-Ok.ensures in
    done_cut _ _ _ _ _ _ _ _ _ c.work.ensures.front _ e.done.0 c.in-Err.ensures.some e.done.1 c.in-Err.ensures.front e.out_calm e.err_calm c.in-Err.ensures.cause.failed

pub returns-in-Ok-tell-2-clause-ends : goal.returns-in-Ok-tell-2-clause-ends
returns-in-Ok-tell-2-clause-ends g c =
    let stopped = refused_early _ _ _ _ _ _ c.in-Err-Refused.field-0-is c.in-Err-Refused.ensures.stopped in
    told _ _ _ _ _ _ _ _ _ c.work.ensures.front c.status.result c.in-Err-Refused.refusal c.status.ensures stopped.0 stopped.1 c.in-Ok-tell-2.ensures.ok c.in-Ok-tell-2.ensures.cause.kept

pub returns-in-Ok-tell-2-clause-routes : goal.returns-in-Ok-tell-2-clause-routes
returns-in-Ok-tell-2-clause-routes g c =
    let stopped = refused_early _ _ _ _ _ _ c.in-Err-Refused.field-0-is c.in-Err-Refused.ensures.stopped in
    routes _ c.status.result
    (told _ _ _ _ _ _ _ _ _ c.work.ensures.front c.status.result c.in-Err-Refused.refusal c.status.ensures stopped.0 stopped.1 c.in-Ok-tell-2.ensures.ok c.in-Ok-tell-2.ensures.cause.kept)

pub returns-in-Ok-tell-2-clause-headline : goal.returns-in-Ok-tell-2-clause-headline
returns-in-Ok-tell-2-clause-headline g c = λ e. absurd (never_done c.in-Err-Refused.refusal (sym c.status.ensures ∙ e))

pub returns-in-Ok-tell-2-clause-nets : goal.returns-in-Ok-tell-2-clause-nets
returns-in-Ok-tell-2-clause-nets g c = λ e. absurd (never_done c.in-Err-Refused.refusal (sym c.status.ensures ∙ e))

pub returns-in-Ok-tell-2-clause-extracts : goal.returns-in-Ok-tell-2-clause-extracts
returns-in-Ok-tell-2-clause-extracts g c = λ e. absurd (never_done c.in-Err-Refused.refusal (sym c.status.ensures ∙ e))

pub returns-in-Err-Refused-clause-headline : goal.returns-in-Err-Refused-clause-headline
returns-in-Err-Refused-clause-headline g c = λ e. absurd (omega (arith, e))

pub returns-in-Err-Refused-clause-nets : goal.returns-in-Err-Refused-clause-nets
returns-in-Err-Refused-clause-nets g c = λ e. absurd (omega (arith, e))

pub returns-in-Err-Refused-clause-extracts : goal.returns-in-Err-Refused-clause-extracts
returns-in-Err-Refused-clause-extracts g c = λ e. absurd (omega (arith, e))

pub returns-in-Err-Refused-clause-routes : goal.returns-in-Err-Refused-clause-routes
returns-in-Err-Refused-clause-routes g c =
    let stopped = refused_early _ _ _ _ _ _ c.in-Err-Refused.field-0-is c.in-Err-Refused.ensures.stopped in
    routes _ 6 (told_cut _ _ _ _ _ _ _ _ _ c.work.ensures.front c.in-Err-Refused.refusal stopped.0 stopped.1 c.in-Err-tell.ensures.front c.in-Err-tell.ensures.cause.failed)

pub returns-clause-headline : goal.returns-clause-headline
returns-clause-headline g c = λ e. absurd (omega (arith, e))

pub returns-clause-nets : goal.returns-clause-nets
returns-clause-nets g c = λ e. absurd (omega (arith, e))

pub returns-clause-extracts : goal.returns-clause-extracts
returns-clause-extracts g c = λ e. absurd (omega (arith, e))

pub returns-in-Err-Refused-clause-ends : goal.returns-in-Err-Refused-clause-ends
returns-in-Err-Refused-clause-ends g c =
    let stopped = refused_early _ _ _ _ _ _ c.in-Err-Refused.field-0-is c.in-Err-Refused.ensures.stopped in
    told_cut _ _ _ _ _ _ _ _ _ c.work.ensures.front c.in-Err-Refused.refusal stopped.0 stopped.1 c.in-Err-tell.ensures.front c.in-Err-tell.ensures.cause.failed
