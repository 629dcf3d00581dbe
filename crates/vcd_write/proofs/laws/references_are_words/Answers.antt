use Rattle.vcd_write.proofs.EscapedNames.{references_are_words}
use Rattle.vcd_write.proofs.laws.references_are_words.Goals as goal

pub returns : goal.returns
returns c = references_are_words
