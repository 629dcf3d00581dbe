use Rattle.command_words.proofs.Written.{well}
use Rattle.command_words.proofs.laws.written_words_are_commands.Goals as goal

pub returns : goal.returns
returns c = λ v words short w. let is = well v words w in (is.command short, is.values)
