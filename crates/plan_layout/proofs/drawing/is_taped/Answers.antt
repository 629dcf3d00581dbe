use Rattle.std.proofs.Common.{sym, ◌∙◌}
use Rattle.std.proofs.lemmas.List.{nil_from_length}
use Rattle.plan_layout.proofs.Bare.{not_taped}
use Rattle.plan_layout.proofs.drawing.is_taped.Goals as goal

pub returns-then-len-eq0 : goal.returns-then-len-eq0
returns-then-len-eq0 c =
    sym (not_taped c.args.plan.now (nil_from_length c.args.plan.now.tape (sym c.len.ensures ∙ c.if-len-eq0.true)) c.args.column c.args.lane)
