use Rattle.std.proofs.Common.{◌+◌, [], ap, ap₂, arith, drop, sym, ◌∙◌, ◌||◌}
use Rattle.std.proofs.lemmas.List.{at_drop_all, drop_more}
use Rattle.clap.specs.Simple.{App, app_of, with_rule}
use Rattle.command_words.specs.Arguments.{with_arguments}
use Rattle.command_words.specs.declared.app.Argument.TheVariants.{Required}
use Rattle.command_words.proofs.app.command_with.Goals as goal

pub arguments-preserved : goal.arguments-preserved
arguments-preserved c =
    let i = c.arguments.argument-index in
    let arguments = c.args.form.now.arguments.now in
    let command = app_of c.arguments.command in (
      ap (λ (a : App). with_arguments a (drop (i + 1) arguments))
          (c.in_ok-command.ensures.shape c.arg_of.ensures.local ∙ ap (with_rule command) c.arg_of.ensures.rule)
          ∙ ap (with_arguments command) (sym (drop_more arguments i (Required (record { ref_ptr = (0, 0); now = [] })) (omega arith)))
          ∙ c.arguments.invariant.0,
      c.in_ok-command.ensures.globals ∙ ap₂ ◌||◌ c.arguments.invariant.1 c.arg_of.ensures.local,
    )

pub arguments-init : goal.arguments-init
arguments-init c = (ap (λ (a : App). with_arguments a c.args.form.now.arguments.now) c.new-command.ensures.app, c.new-command.ensures.local)

pub returns-clause-app : goal.returns-clause-app
returns-clause-app c =
    sym (at_drop_all (with_arguments (app_of c.arguments.command)) c.args.form.now.arguments.now c.arguments.argument-index (omega arith)) ∙ c.arguments.invariant.0

pub returns-clause-plain : goal.returns-clause-plain
returns-clause-plain c = c.arguments.invariant.1
