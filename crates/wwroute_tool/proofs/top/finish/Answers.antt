use Rattle.std.proofs.Common.{refl, sym, subst, inl, inr}
use Rattle.std.proofs.lemmas.Result.{err_from_is_err_and}
use Rattle.program_runs.proofs.Given.{kept}
use Rattle.wwroute_tool.specs.declared.report.Report.{Report}
use Rattle.wwroute_tool.specs.Answers.{answer_text, report_line}
use Rattle.wwroute_tool.specs.Commands.{TellsBeside}
use Rattle.wwroute_tool.proofs.top.finish.Goals as goal

pub returns-in_err-answer-clause-stopped : goal.returns-in_err-answer-clause-stopped
returns-in_err-answer-clause-stopped g c =
    let p = err_from_is_err_and c.from_residual.result c.from_residual.ensures.1 in
    rw (p.1, p.2) (λ command text is. inr (record { nothing = kept _; calm = refl }, c.in_err-answer.ensures.refused command text is))

pub returns-in_err-report-clause-stopped : goal.returns-in_err-report-clause-stopped
returns-in_err-report-clause-stopped g c =
    let p = err_from_is_err_and c.from_residual-in_err-report.result c.from_residual-in_err-report.ensures.1 in
    let front = c.in_err-report.ensures.front in
    rw (p.1, p.2)
    (λ command text is. inl (
      refl,
      c.in_err-report.ensures.cause.failed,
      (front.0, record { answer = answer_text c.in_ok-answer.answer; makes = c.in_ok-answer.ensures.makes command text is; wrote = front.1 }),
    ))

pub returns-clause-done : goal.returns-clause-done
returns-clause-done g c = λ command text is.
    record {
      whole = record { answer = answer_text c.in_ok-answer.answer; makes = c.in_ok-answer.ensures.makes command text is; wrote = c.in_ok-report.ensures.ok };
      beside = subst (λ (r : Report). TellsBeside command (answer_text c.in_ok-answer.answer) (report_line r)) (sym c.in_ok-report.ensures.report) (c.in_ok-answer.ensures.tells command text is);
    }
