use Rattle.std.proofs.Common.{◌∙◌, ap, ap₂, sym, [], ◌&&◌, not, arith}
use Rattle.cell_core.specs.Meaning.{cell_bit}
use Rattle.cell_core.specs.Tables.{bits_number}
use Rattle.cell_core.proofs.TableBits.{number_small}
use Rattle.cover_cells.proofs.words.cell_word.Goals as goal

pub returns-in-AndNot : goal.returns-in-AndNot
returns-in-AndNot c =
    λ bits made long show.
    c.and_not_words.ensures (bits_number bits) (number_small bits (omega (arith, long, c.requires.few)))
    ∙ ap₂ (λ a b. a && not b) (c.source_word-in-AndNot.ensures bits made long show) (c.source_word-in-AndNot-2.ensures bits made long show)
    ∙ sym (ap (cell_bit bits [] made) c.in-AndNot.is)
