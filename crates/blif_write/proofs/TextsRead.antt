-- The text of a lifted netlist is that netlist.
use Rattle.std.proofs.Common.{◌∙◌, map}
use Rattle.lifted_designs.specs.Lines.{lifted_lines}
use Rattle.lifted_designs.proofs.Worded.{words_are_read}
use Rattle.lifted_designs.proofs.TextsRead.{texts_read}
use Rattle.blif_write.specs.Laws.{LiftedTextsRead}
use Rattle.blif_write.specs.Text.{lifted_text}
use Rattle.blif_write.proofs.Counted.{lifted_are_counted}
use Rattle.blif_write.proofs.NamedWords.{lifted_are_words}

pub lifted_texts_read : LiftedTextsRead
lifted_texts_read list ins outs long wide plain own ins_own outs_own few_cells few_latches =
    let words = map (λ line. line.words) (lifted_lines ins outs list) in
    texts_read (lifted_text ins outs list) list ins outs
    (words_are_read words (lifted_are_words ins outs list long ins_own outs_own few_cells few_latches) ∙ lifted_are_counted ins outs list)
    long wide plain own few_cells few_latches
