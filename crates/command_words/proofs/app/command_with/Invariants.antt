use Rattle.std.proofs.Common.{◌≡◌, drop, false}
use Rattle.clap.specs.Simple.{app_of}
use Rattle.clap.specs.declared.builder.command.Command.TheViews.{out-Command as fields_of}
use Rattle.command_words.specs.Arguments.{app_for, with_arguments}
use Rattle.command_words.proofs.app.command_with.Given as goal

abbrev pub invariant-arguments : goal.invariant-arguments
invariant-arguments l =
    (with_arguments (app_of l.command) (drop l.argument-index l.fn.form.arguments.now) ≡ app_for l.fn.form) × ((fields_of l.command).has_globals ≡ false)
