use Rattle.std.proofs.Common.{arith, refl}
use Rattle.blifww_tool.proofs.Headline.{aigs, dumps, headline, in_contexts, lifts, tapes}
use Rattle.blifww_tool.proofs.Ended.{done, told, untold, ends, not_done}
use Rattle.program_runs.proofs.Given.{kept}
use Rattle.blifww_tool.proofs.top.run.Goals as goal

pub returns-in-Ok-clause-headline : goal.returns-in-Ok-clause-headline
returns-in-Ok-clause-headline g c = λ e asks. headline _ _ _ c.in-Ok.ensures.done asks

pub returns-in-Ok-clause-contexts : goal.returns-in-Ok-clause-contexts
returns-in-Ok-clause-contexts g c = λ e contexts starts asks. in_contexts _ _ _ c.in-Ok.ensures.done contexts starts asks

pub returns-in-Ok-clause-aigs : goal.returns-in-Ok-clause-aigs
returns-in-Ok-clause-aigs g c = λ e asks. aigs _ _ _ c.in-Ok.ensures.done asks

pub returns-in-Ok-clause-dumps : goal.returns-in-Ok-clause-dumps
returns-in-Ok-clause-dumps g c = λ e cycles streams asks. dumps _ _ _ c.in-Ok.ensures.done cycles streams asks

pub returns-in-Ok-clause-lifts : goal.returns-in-Ok-clause-lifts
returns-in-Ok-clause-lifts g c = λ e asks. lifts _ _ _ c.in-Ok.ensures.done asks

pub returns-in-Ok-clause-tapes : goal.returns-in-Ok-clause-tapes
returns-in-Ok-clause-tapes g c = λ e cycles streams asks. tapes _ _ _ c.in-Ok.ensures.done cycles streams asks

pub returns-in-Ok-clause-ends : goal.returns-in-Ok-clause-ends
returns-in-Ok-clause-ends g c = ends _ 0 (done refl (record { done = c.in-Ok.ensures.done; silent = kept _; out_calm = c.in-Ok.ensures.calm; err_calm = refl })) c.work.ensures.front

pub returns-in-Ok-tell-clause-ends : goal.returns-in-Ok-tell-clause-ends
returns-in-Ok-tell-clause-ends g c =
    ends _ c.status.result (told _ c.status.result c.in-Err.refusal c.status.ensures c.in-Err.ensures.stopped c.in-Ok-tell.ensures.ok c.in-Ok-tell.ensures.cause.kept) c.work.ensures.front

pub returns-clause-ends : goal.returns-clause-ends
returns-clause-ends g c = ends _ 6 (untold _ c.in-Err.refusal c.in-Err.ensures.stopped c.in-Err-tell.ensures.front c.in-Err-tell.ensures.cause.failed) c.work.ensures.front

pub returns-in-Ok-tell-clause-headline : goal.returns-in-Ok-tell-clause-headline
returns-in-Ok-tell-clause-headline g c = λ e. not_done c.status.result c.in-Err.refusal c.status.ensures e

pub returns-clause-headline : goal.returns-clause-headline
returns-clause-headline g c = λ e. absurd (omega (arith, e))

pub returns-in-Ok-tell-clause-contexts : goal.returns-in-Ok-tell-clause-contexts
returns-in-Ok-tell-clause-contexts g c = λ e. not_done c.status.result c.in-Err.refusal c.status.ensures e

pub returns-clause-contexts : goal.returns-clause-contexts
returns-clause-contexts g c = λ e. absurd (omega (arith, e))

pub returns-in-Ok-tell-clause-tapes : goal.returns-in-Ok-tell-clause-tapes
returns-in-Ok-tell-clause-tapes g c = λ e. not_done c.status.result c.in-Err.refusal c.status.ensures e

pub returns-clause-tapes : goal.returns-clause-tapes
returns-clause-tapes g c = λ e. absurd (omega (arith, e))

pub returns-in-Ok-tell-clause-aigs : goal.returns-in-Ok-tell-clause-aigs
returns-in-Ok-tell-clause-aigs g c = λ e. not_done c.status.result c.in-Err.refusal c.status.ensures e

pub returns-clause-aigs : goal.returns-clause-aigs
returns-clause-aigs g c = λ e. absurd (omega (arith, e))

pub returns-in-Ok-tell-clause-dumps : goal.returns-in-Ok-tell-clause-dumps
returns-in-Ok-tell-clause-dumps g c = λ e. not_done c.status.result c.in-Err.refusal c.status.ensures e

pub returns-clause-dumps : goal.returns-clause-dumps
returns-clause-dumps g c = λ e. absurd (omega (arith, e))

pub returns-in-Ok-tell-clause-lifts : goal.returns-in-Ok-tell-clause-lifts
returns-in-Ok-tell-clause-lifts g c = λ e. not_done c.status.result c.in-Err.refusal c.status.ensures e

pub returns-clause-lifts : goal.returns-clause-lifts
returns-clause-lifts g c = λ e. absurd (omega (arith, e))
