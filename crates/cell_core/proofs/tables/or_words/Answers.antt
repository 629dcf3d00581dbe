use Rattle.lists.proofs.WordBits.{or_bit}
use Rattle.cell_core.proofs.tables.or_words.Goals as goal

pub returns : goal.returns
returns c = λ n. or_bit c.args.a c.args.b n
