use Rattle.std.proofs.Common.{sym, ◌∙◌, ap, ◌-◌, arith}
use Rattle.tiling.specs.MacroStep.{slot_answers}
use Rattle.macro_grid.specs.Edges.{lit_of}
use Rattle.plan_layout.specs.Tape.{drawn_tiling}
use Rattle.tiling.proofs.AtEdges.{above_first, above_next}
use Rattle.macro_grid.proofs.Steps.{answered, not_answered}
use Rattle.macro_grid.proofs.step.above_after.Goals as goal

pub returns-then-is_answered : goal.returns-then-is_answered
returns-then-is_answered c =
    answered _ _ _ _
    (above_next (drawn_tiling c.args.plan.now) (lit_of c.args.old.now) c.args.column c.args.lane (c.args.lane - 1) (omega arith))
    (c.is_answered.ensures ∙ ap (λ s. slot_answers (lit_of c.args.old.now) c.args.column (c.args.lane - 1) s 16 15) c.slot_drawn_at-2.ensures)
    c.if-is_answered.true

pub returns-else-is_answered : goal.returns-else-is_answered
returns-else-is_answered c =
    not_answered c.is_answered.result _ _ _ _
    (above_next (drawn_tiling c.args.plan.now) (lit_of c.args.old.now) c.args.column c.args.lane (c.args.lane - 1) (omega arith))
    (c.is_answered.ensures ∙ ap (λ s. slot_answers (lit_of c.args.old.now) c.args.column (c.args.lane - 1) s 16 15) c.slot_drawn_at-2.ensures)
    c.if-is_answered.false
    (c.is_answered-from_below.ensures ∙ ap (λ s. slot_answers (lit_of c.args.old.now) c.args.column c.args.lane s 16 0) c.slot_drawn_at.ensures)

pub returns-then-lane-eq0 : goal.returns-then-lane-eq0
returns-then-lane-eq0 c =
    c.is_answered-from_below.ensures
    ∙ ap (λ s. slot_answers (lit_of c.args.old.now) c.args.column c.args.lane s 16 0) c.slot_drawn_at.ensures
    ∙ sym (above_first (drawn_tiling c.args.plan.now) (lit_of c.args.old.now) c.args.column c.args.lane c.if-lane-eq0.true)
