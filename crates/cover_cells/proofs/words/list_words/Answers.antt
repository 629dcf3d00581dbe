use Rattle.std.proofs.Common.{◌≡◌, ◌∙◌, ap, ◌+◌, ◌<◌, length, map, get_or, arith}
use Rattle.cell_core.specs.declared.cells.Cell.{Cell}
use Rattle.cell_core.specs.declared.cells.Cell.TheVariants.{Or}
use Rattle.cell_core.specs.declared.cells.Src.TheVariants.{Input}
use Rattle.cell_core.specs.Sources.{reads_there}
use Rattle.cell_core.specs.Tables.{table_bit}
use Rattle.cell_core.proofs.OwnBits.{cell_in_order}
use Rattle.cover_cells.proofs.Tabled.{word_added}
use Rattle.cover_cells.proofs.words.list_words.Goals as goal

-- what a read of the slice names where there is nothing
none : Cell
none = Or (Input 0) (Input 0)

pub cell_word-word-requires-clause-there : goal.cell_word-word-requires-clause-there
unfolding none
cell_word-word-requires-clause-there c =
    let within : c.loop-cell.cell-index < length c.args.cells.now = omega (arith, c.loop-cell-test.true) in
    let e : length c.deref.result.now ≡ 0 + c.loop-cell.cell-index = omega (arith, ap length c.deref.ensures.value, c.loop-cell.invariant.long) in
    ap (λ n. reads_there c.args.nets 0 n (get_or c.args.cells.now c.loop-cell.cell-index none)) e ∙ cell_in_order c.args.nets 0 0 c.args.cells.now c.loop-cell.cell-index none within c.requires.in_order

pub loop-cell-preserved : goal.loop-cell-preserved
unfolding none
loop-cell-preserved c =
    word_added c.args.nets c.loop-cell.cell-index c.cell_word-word.result c.loop-cell.words.items c.push.new.self.items c.args.cells.now none (omega (arith, c.loop-cell-test.true)) c.in_ok-push.ensures.items c.loop-cell.invariant
    (λ bits made long show. c.cell_word-word.ensures bits made long (ap (map (table_bit bits)) c.deref.ensures.value ∙ show))
