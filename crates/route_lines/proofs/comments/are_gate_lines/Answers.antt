use Rattle.std.proofs.Common.{true≢false, sym, ◌∙◌}
use Rattle.route_lines.proofs.FirstGateLines.{feedless_none, one_less, one_more}
use Rattle.route_lines.proofs.comments.are_gate_lines.Goals as goal

pub returns-in_default : goal.returns-in_default
returns-in_default c =
    let none = feedless_none c.loop-rest.rest.now (sym c.is_empty.ensures ∙ c.loop-rest-test.true) (c.first_line.ensures.none c.in_default.is) in
    ((λ e. absurd (true≢false (sym e))), λ are. absurd (none (c.loop-rest.invariant.1 are)))

pub returns-then-not-is_gate_line : goal.returns-then-not-is_gate_line
returns-then-not-is_gate_line c =
    let less = one_less c.loop-rest.rest.now c.in-Some.line.now c.in-Some.after.now c.in-Some.ensures.cut c.in-Some.ensures.feedless in
    ((λ e. absurd (true≢false (sym e))), λ are. absurd (true≢false (sym (c.is_gate_line.ensures.1 (less (c.loop-rest.invariant.1 are)).0) ∙ c.if-not-is_gate_line.true)))

pub loop-rest-preserved : goal.loop-rest-preserved
loop-rest-preserved c =
    let less = one_less c.loop-rest.rest.now c.in-Some.line.now c.in-Some.after.now c.in-Some.ensures.cut c.in-Some.ensures.feedless in
    let more = one_more c.loop-rest.rest.now c.in-Some.line.now c.in-Some.after.now c.in-Some.ensures.cut (c.is_gate_line.ensures.0 c.if-not-is_gate_line.false) in
    ((λ are. c.loop-rest.invariant.0 (more are)), λ are. (less (c.loop-rest.invariant.1 are)).1)
