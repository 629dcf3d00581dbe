use Rattle.std.proofs.Common.{◌<◌, ◌≢◌, length, arith, get_or-set_other, get_or-set_same, below_more}
use Rattle.gate_laws.proofs.Windows.{shown_lit}
use Rattle.gate_laws.proofs.window.light.Goals as goal

pub loop-i-preserved : goal.loop-i-preserved
loop-i-preserved c =
    below_more _ _
    (λ k h. let ne : k ≢ c.loop-i.i = omega arith in rw get_or-set_other (c.loop-i.invariant k h))
    (let lt : c.loop-i.i < length c.loop-i.cells = omega arith in rw get_or-set_same c.lit_at.ensures)

pub returns-clause-shows : goal.returns-clause-shows
returns-clause-shows c =
    shown_lit c.args.from.now c.loop-i.cells c.args.width c.args.ins.now c.args.bits.now c.args.generation (omega arith) c.requires.inside (λ k h. c.loop-i.invariant k (omega arith))
