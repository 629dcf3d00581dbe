use Rattle.std.proofs.Common.{◌∙◌, arith}
use Rattle.cell_core.proofs.TableBits.{ones_shown}
use Rattle.cover_cells.proofs.Tabled.{row_more, row_end}
use Rattle.cover_cells.proofs.words.row_word.Goals as goal

pub loop-i-init : goal.loop-i-init
loop-i-init c = λ bits long. ones_shown bits c.args.nets c.requires long

pub loop-i-preserved : goal.loop-i-preserved
loop-i-preserved c =
    λ bits long. row_more bits c.args.row.now c.loop-i.i c.args.nets c.loop-i.word c.net_word.result c.column_word-word.result c.requires long (omega (arith, c.loop-i-test.true, c.min-i-end.ensures)) (omega (arith, c.loop-i-test.true, c.min-i-end.ensures)) (c.loop-i.invariant bits long) (c.net_word.ensures bits (omega (arith, long, c.requires))) c.column_word-word.ensures

pub returns : goal.returns
returns c =
    λ bits long. c.loop-i.invariant bits long ∙ row_end bits c.args.row.now c.loop-i.i c.args.nets long (omega (arith, c.loop-i-test.false, c.min-i-end.ensures, c.loop-i.auto.i-end))
