use Rattle.std.proofs.Common.{below_more, subst₂}
use Rattle.route_tables.specs.Runs.{IsAnsweredBy}
use Rattle.route_cells.proofs.answers.are_answered.Goals as goal

pub loop-o-preserved : goal.loop-o-preserved
loop-o-preserved c =
    below_more _ _ c.loop-o.invariant
    (subst₂ (λ answer out. IsAnsweredBy c.args.list.now c.args.ins.now answer out) c.answer_at.ensures c.src_at.ensures (c.is_answered_by.ensures c.if-not-is_answered_by.false))
