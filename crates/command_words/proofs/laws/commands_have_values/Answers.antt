use Rattle.command_words.specs.App.{blifww_app}
use Rattle.command_words.proofs.Named.{values_given}
use Rattle.command_words.proofs.NoFault.{no_fault}
use Rattle.command_words.proofs.laws.commands_have_values.Goals as goal

pub returns : goal.returns
returns c = λ words is. let given = values_given words is in (given.0, given.1, no_fault blifww_app words is.taken)
