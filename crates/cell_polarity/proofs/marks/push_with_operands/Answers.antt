use Rattle.std.proofs.Common.{rules, ◌≡◌, slice_get, None}
use Rattle.cell_core.specs.declared.cells.Src.TheVariants.{Cell as Made}
use Rattle.cell_polarity.proofs.Marking.{nothing_read}
use Rattle.cell_polarity.proofs.marks.push_with_operands.Goals as goal

pub returns-in-None : goal.returns-in-None
returns-in-None c =
    let src : c.args.src ≡ Made c.in-Cell.i = search rules in
    let none : slice_get c.args.cells.now c.in-Cell.i ≡ None = search rules in
    nothing_read c.args.found.now.items c.args.cells.now c.args.src c.in-Cell.i src none
