use Rattle.lists.proofs.WordBits.{and_bit}
use Rattle.cell_core.proofs.tables.and_words.Goals as goal

pub returns : goal.returns
returns c = λ n. and_bit c.args.a c.args.b n
