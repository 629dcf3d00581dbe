use Rattle.gate_laws.proofs.Drawn.{crossing_from}
use Rattle.gate_laws.proofs.crossing.keeps_crossing_law.Goals as goal

pub returns : goal.returns
returns c = λ t.
    crossing_from c.args.cells.now c.args.width c.args.first c.args.second c.args.outs.now c.args.time
    (c.is_sized.ensures c.if-not-is_sized.false)
    (c.has_cells.ensures c.if-not-has_cells.false)
    (c.answers_in_time-none.ensures c.if-not-none.false)
    (c.answers_in_time-by_first.ensures c.if-not-by_first.false)
    (c.answers_in_time-by_second.ensures c.if-not-by_second.false)
    (c.are_of_one.ensures t)
