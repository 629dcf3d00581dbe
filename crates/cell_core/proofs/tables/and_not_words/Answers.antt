use Rattle.cell_core.proofs.TableBits.{word_bit_and_not}
use Rattle.cell_core.proofs.tables.and_not_words.Goals as goal

pub returns : goal.returns
returns c = λ n within. word_bit_and_not c.args.a c.args.b n c.ranges.b.fits within
