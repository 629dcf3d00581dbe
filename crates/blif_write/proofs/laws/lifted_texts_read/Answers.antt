use Rattle.blif_write.proofs.TextsRead.{lifted_texts_read}
use Rattle.blif_write.proofs.laws.lifted_texts_read.Goals as goal

pub returns : goal.returns
returns c = lifted_texts_read
