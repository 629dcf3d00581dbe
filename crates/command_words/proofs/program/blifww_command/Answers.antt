use Rattle.command_words.specs.App.{bare_app}
use Rattle.command_words.proofs.program.blifww_command.Goals as goal

pub returns : goal.returns
returns c = c.with_commands.ensures bare_app c.bare_command.ensures
