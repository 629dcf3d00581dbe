use Rattle.std.proofs.Common.{◌≡◌, ◌==◌, ◌∙◌, ap, Bool, List, [], ◌∷◌, ◌++◌, arith}
use Rattle.std.proofs.lemmas.Result.{err_from_is_err_and}
use Rattle.made_netlists.specs.Draws.{state_after}
use Rattle.made_summary.specs.Streams.{stream_after}
use Rattle.made_summary.proofs.Drawn.{one_drawn}
use Rattle.made_summary.proofs.drawing.draw_stream.Goals as goal

pub returns-in_err-stream : goal.returns-in_err-stream
returns-in_err-stream c =
    let p = (err_from_is_err_and c.from_residual.result c.from_residual.ensures.1).1 in
    record { stream = rw p tt; state = rw p tt; range = rw p tt }

pub returns-in_err-push : goal.returns-in_err-push
returns-in_err-push c =
    let p = (err_from_is_err_and c.from_residual-in_err-push.result c.from_residual-in_err-push.ensures.1).1 in
    record { stream = rw p tt; state = rw p tt; range = rw p tt }

pub loop-cycle-preserved : goal.loop-cycle-preserved
loop-cycle-preserved c =
    let more = one_drawn c.args.state.now c.loop-cycle.cycle c.loop-cycle.state c.draw.new.state c.draw.result c.loop-cycle.invariant.state c.draw.ensures.next c.draw.ensures.number in
    record {
      stream = c.in_ok-push.ensures.items ∙ ap (λ (bits : List Bool). bits ++ (c.draw.result == 1) ∷ []) c.loop-cycle.invariant.stream ∙ more.0;
      state = more.1;
      range = c.draw.ensures.range;
    }

pub returns-clause-stream : goal.returns-clause-stream
returns-clause-stream c =
    let e : c.loop-cycle.cycle ≡ c.args.cycles = omega (arith, c.loop-cycle.auto.cycle-end, c.loop-cycle-test.false) in
    c.loop-cycle.invariant.stream ∙ ap (stream_after c.args.state.now 0) e

pub returns-clause-state : goal.returns-clause-state
returns-clause-state c =
    let e : c.loop-cycle.cycle ≡ c.args.cycles = omega (arith, c.loop-cycle.auto.cycle-end, c.loop-cycle-test.false) in
    c.loop-cycle.invariant.state ∙ ap (state_after c.args.state.now) e
