use Rattle.std.proofs.Common.{◌-◌, ◌*◌, sym, ◌∙◌, length, drop, arith}
use Rattle.std.proofs.lemmas.List.{length-drop, take_all}
use Rattle.band_rows.proofs.cell_bits.cells_of_word.Goals as goal

pub returns-then-rest-lt64 : goal.returns-then-rest-lt64
returns-then-rest-lt64 c =
    let few = c.if-rest-lt64.true in
    let rest = drop (64 * c.args.c) c.args.cells.now in
    let long = length-drop (64 * c.args.c) c.args.cells.now in
    take_all (length c.args.cells.now - 64 * c.args.c) rest (omega (arith, long)) ∙ sym (take_all 64 rest (omega (arith, long, few)))
