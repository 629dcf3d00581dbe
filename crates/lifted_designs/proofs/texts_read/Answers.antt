use Rattle.lifted_designs.proofs.TextsRead.{texts_read}
use Rattle.lifted_designs.proofs.texts_read.Goals as goal

pub returns : goal.returns
returns c = texts_read
