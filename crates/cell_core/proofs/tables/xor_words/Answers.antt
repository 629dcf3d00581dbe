use Rattle.cell_core.proofs.TableBits.{word_bit_xor}
use Rattle.cell_core.proofs.tables.xor_words.Goals as goal

pub returns : goal.returns
returns c = λ n. word_bit_xor c.args.a c.args.b n
