-- What the commands take, as the program lists it.
use Rattle.std.specs.Prelude.{Bool, List, [], ◌∷◌, Some, true, false}
use Rattle.clap.specs.Walk.{Rule, Text}
use Rattle.clap.specs.Simple.{App, new_app, new_rule, with_rule, with_subcommand}
use Rattle.clap.specs.declared.builder.action.ArgAction.TheVariants.{Set}
use Rattle.command_words.specs.App.{stream_words}
use Rattle.command_words.specs.declared.app.Argument.{Argument}
use Rattle.command_words.specs.declared.app.CommandForm.{CommandForm}
use Rattle.command_words.specs.declared.app.Argument.TheVariants.{Required, Free, Streams}

-- an option `--name VALUE`
abbrev pub option_by : Text → Bool → Rule
option_by name required =
    record (new_rule name) { long = Some name; required = required; action = Some Set }

abbrev pub rule_for : Argument → Rule
rule_for (Required name) = option_by name.now true
rule_for (Free name) = option_by name.now false
rule_for Streams = stream_words

-- the command with these arguments added
abbrev pub with_arguments : App → List Argument → App
with_arguments a [] = a
with_arguments a (argument ∷ arguments) = with_arguments (with_rule a (rule_for argument)) arguments

-- the command of a form
abbrev pub app_for : CommandForm → App
app_for form = with_arguments (new_app form.name.now) form.arguments.now

-- the program with the commands of these forms added
abbrev pub with_forms : App → List CommandForm → App
with_forms a [] = a
with_forms a (form ∷ forms) = with_forms (with_subcommand a (app_for form).top) forms
