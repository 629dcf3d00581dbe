use Rattle.lifted_designs.proofs.Worded.{words_are_read}
use Rattle.lifted_designs.proofs.words_are_read.Goals as goal

pub returns : goal.returns
returns c = words_are_read
