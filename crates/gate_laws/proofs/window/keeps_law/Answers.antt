use Rattle.gate_laws.proofs.Windows.{law_from}
use Rattle.gate_laws.proofs.window.keeps_law.Goals as goal

pub returns : goal.returns
returns c = λ t.
    law_from c.args.cells.now c.args.width c.args.ins.now c.args.outs.now c.args.time (c.is_sized.ensures c.if-not-is_sized.false) (c.has_cells.ensures c.if-not-has_cells.false) (c.always_in_time.ensures t)
