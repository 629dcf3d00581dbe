use Rattle.std.proofs.Common.{refl}
use Rattle.std.proofs.lemmas.Result.{err_from_is_err_and}
use Rattle.command_words.specs.Shapes.{values_of}
use Rattle.blifww_tool.specs.Answer.{output_text}
use Rattle.program_runs.proofs.Given.{kept}
use Rattle.blifww_tool.proofs.Stopped.{refused_on}
use Rattle.blifww_tool.proofs.top.print.Goals as goal

pub answer-requires : goal.answer-requires
answer-requires g c = c.requires

pub returns-in_err-output-clause-stopped : goal.returns-in_err-output-clause-stopped
returns-in_err-output-clause-stopped g c =
    let p = err_from_is_err_and c.from_residual.result c.from_residual.ensures.1 in
    rw (p.1, p.2) (refused_on (values_of c.args.command.now) c.args.text.now _ c.in_err-output.field-0.0 (record { nothing = kept _; calm = refl }) c.in_err-output.ensures.refused)

pub send-requires : goal.send-requires
send-requires g c = c.in_ok-output.ensures.writable

pub returns-in_err-send-clause-stopped : goal.returns-in_err-send-clause-stopped
returns-in_err-send-clause-stopped g c =
    let p = err_from_is_err_and c.from_residual-in_err-send.result c.from_residual-in_err-send.ensures.1 in
    let front = c.in_err-send.ensures.front in
    rw (p.1, p.2)
    (front.0, c.in_err-send.ensures.cause.failed, record { output = output_text c.in_ok-output.output; prints = c.in_ok-output.ensures.printed; wrote = front.1 })

pub returns-clause-done : goal.returns-clause-done
returns-clause-done g c = record { output = output_text c.in_ok-output.output; prints = c.in_ok-output.ensures.printed; wrote = c.in_ok-send.ensures.ok }

pub returns-clause-calm : goal.returns-clause-calm
returns-clause-calm g c = c.in_ok-send.ensures.cause.kept
