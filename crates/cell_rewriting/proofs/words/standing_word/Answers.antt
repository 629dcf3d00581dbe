use Rattle.std.proofs.Common.{◌∙◌, ap, sym}
use Rattle.cell_core.specs.Meaning.{bit_of}
use Rattle.cell_rewriting.proofs.Worded.{ones_are}
use Rattle.cell_rewriting.proofs.words.standing_word.Goals as goal

pub returns-in-One : goal.returns-in-One
returns-in-One c = λ inputs state. ones_are c.args.subst.now.list c.args.leaves.now c.requires.few inputs state ∙ ap (bit_of c.args.subst.now.list inputs state) (sym c.in-One.is)
