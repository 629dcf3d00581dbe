use Rattle.std.proofs.Common.{◌+◌, ap, arith, drop, sym, ◌∙◌}
use Rattle.std.proofs.lemmas.List.{at_drop_all, drop_more}
use Rattle.clap.specs.Simple.{App, app_of}
use Rattle.command_words.specs.Arguments.{with_forms}
use Rattle.command_words.proofs.program.with_commands.Goals as goal

pub forms-preserved : goal.forms-preserved
forms-preserved c =
    let i = c.forms.form-index in
    let forms = c.args.forms.now in
    ap (λ (a : App). with_forms a (drop (i + 1) forms)) (c.in_ok-whole.ensures _ c.command_with.ensures.app c.command_with.ensures.plain)
    ∙ ap (with_forms (app_of c.forms.whole)) (sym (drop_more forms i _ (omega arith)))
    ∙ c.forms.invariant

pub returns : goal.returns
returns c = λ app is.
    sym (at_drop_all (with_forms (app_of c.forms.whole)) c.args.forms.now c.forms.form-index (omega arith)) ∙ c.forms.invariant ∙ ap (λ (a : App). with_forms a c.args.forms.now) is
