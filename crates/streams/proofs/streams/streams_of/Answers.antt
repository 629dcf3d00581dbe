use Rattle.std.proofs.Common.{sym, ap, ◌∙◌}
use Rattle.std.proofs.lemmas.Result.{err_from_is_err_and}
use Rattle.streams.specs.Streams.{missing_inputs, streams_of}
use Rattle.streams.proofs.Contexts.{inputs_none, missing_among, missing_more, streams_more}
use Rattle.streams.proofs.streams.streams_of.Goals as goal

pub loop-context-preserved : goal.loop-context-preserved
loop-context-preserved c =
    let contexts = c.args.contexts in
    let names = c.args.names.now in
    let context = c.loop-context.context in
    record {
      streams = λ words are. streams_more contexts context words names _ _ (c.loop-context.invariant.streams words are) (c.in_ok-push_context.ensures.streams words are);
      none_missing = λ words are. missing_more contexts context words names (c.loop-context.invariant.none_missing words are) (c.in_ok-push_context.ensures.none_missing words are);
    }

pub returns-then-is_empty-clause-streams : goal.returns-then-is_empty-clause-streams
returns-then-is_empty-clause-streams c = λ words are.
    let none = inputs_none c.args.names.now c.args.contexts (sym c.is_empty.ensures ∙ c.if-is_empty.true) in
    c.of.ensures ∙ c.new-streams.ensures.items ∙ sym (ap (streams_of c.args.contexts words) none)

pub returns-then-is_empty-clause-none_missing : goal.returns-then-is_empty-clause-none_missing
returns-then-is_empty-clause-none_missing c = λ words are.
    ap (missing_inputs c.args.contexts words) (inputs_none c.args.names.now c.args.contexts (sym c.is_empty.ensures ∙ c.if-is_empty.true))

pub returns-in_err-push_context-clause-missing : goal.returns-in_err-push_context-clause-missing
returns-in_err-push_context-clause-missing c =
    let p = err_from_is_err_and c.from_residual.result c.from_residual.ensures.1 in
    rw (p.1, p.2)
    (λ words are. missing_among c.args.contexts c.loop-context.context words c.args.names.now _ c.loop-context-test.true (c.loop-context.invariant.none_missing words are) (c.in_err-push_context.ensures.missing words are))
