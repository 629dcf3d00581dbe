use Rattle.std.proofs.Common.{◌∙◌, ap, sym}
use Rattle.cell_core.specs.Meaning.{cell_bit, cell_bits}
use Rattle.cell_rewriting.proofs.Worded.{and_not_is}
use Rattle.cell_rewriting.proofs.words.cell_word.Goals as goal

pub returns-in_ok-first-in-AndNot : goal.returns-in_ok-first-in-AndNot
returns-in_ok-first-in-AndNot c =
    let list = c.args.subst.now.list in
    let leaves = c.args.leaves.now in
    let e = c.in_ok-first-in-AndNot.ensures in
    λ inputs state.
    and_not_is list leaves c.in-AndNot.a c.in-AndNot.b c.in_ok-first-in-AndNot.first c.in_ok-first-in-AndNot.second c.and_not_words.result c.requires.few e.first e.second c.and_not_words.ensures inputs state
    ∙ ap (cell_bit inputs state (cell_bits inputs state list.cells)) (sym c.in-AndNot.is)
