use Rattle.std.proofs.Common.{◌∙◌, ap, sym, []}
use Rattle.cell_core.specs.Meaning.{source_bit}
use Rattle.cell_core.proofs.TableBits.{ones_shown}
use Rattle.cover_cells.proofs.words.source_word.Goals as goal

pub returns-in-One : goal.returns-in-One
returns-in-One c = λ bits made long show. ones_shown bits c.args.nets c.requires.few long ∙ sym (ap (source_bit bits [] made) c.in-One.is)
