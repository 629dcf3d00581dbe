use Rattle.std.proofs.Common.{◌≡◌, drop}
use Rattle.clap.specs.Simple.{app_of}
use Rattle.command_words.specs.Arguments.{with_forms}
use Rattle.command_words.proofs.program.with_commands.Given as goal

abbrev pub invariant-forms : goal.invariant-forms
invariant-forms l = with_forms (app_of l.whole) (drop l.form-index l.fn.forms) ≡ with_forms (app_of l.fn.program) l.fn.forms
