use Rattle.std.proofs.Common.{◌≢◌, refl, inl, inr, subst, [], take}
use Rattle.std.proofs.lemmas.Result.{err_from_is_err_and}
use Rattle.program_runs.specs.Runs.{Gained, Writing, writing}
use Rattle.program_runs.proofs.Given.{kept, gained_none}
use Rattle.wwroute_tool.specs.declared.report.Report.{Report}
use Rattle.wwroute_tool.specs.Answers.{report_line}
use Rattle.wwroute_tool.proofs.Tasks.{all_made, begun, broken_off}
use Rattle.wwroute_tool.proofs.top.work.Goals as goal

pub returns-in_err-task-clause-stopped : goal.returns-in_err-task-clause-stopped
returns-in_err-task-clause-stopped g c =
    let p = err_from_is_err_and c.from_residual.result c.from_residual.ensures.1 in
    rw (p.1, p.2)
    (([], gained_none _, inr (record { reason = c.in_err-task.ensures.refused; before = inl refl; unwritten = record { nothing = kept _; calm = refl } })), refl)

pub returns-in-Err-clause-stopped : goal.returns-in-Err-clause-stopped
returns-in-Err-clause-stopped g c =
    let err : Writing = writing g.E.Sink.written g.E.Sink.faults c.args.err.now c.tell.new.err in
    let front = c.in-Err.ensures.front in
    record {
      begun = begun _ _ c.in_ok-task.task c.in_ok-task.ensures.begun;
      some = subst (λ (r : Report). report_line r ≢ []) c.notice.ensures c.in-Err.ensures.some;
      unwritten = record { nothing = kept _; calm = refl };
      size = front.0;
      front = subst (λ (r : Report). Gained err (take front.0 (report_line r))) c.notice.ensures front.1;
      failed = c.in-Err.ensures.cause.failed;
    }

pub returns-in_err-report-in-Ok-clause-stopped : goal.returns-in_err-report-in-Ok-clause-stopped
returns-in_err-report-in-Ok-clause-stopped g c =
    let p = err_from_is_err_and c.from_residual-in_err-report-in-Ok.result c.from_residual-in_err-report-in-Ok.ensures.1 in
    let err : Writing = writing g.E.Sink.written g.E.Sink.faults c.args.err.now c.tell.new.err in
    rw (p.1, p.2) (
      broken_off _ _ c.in_ok-task.task c.in_ok-task.ensures.begun _ err c.in_err-report-in-Ok.field-0.0
          (subst (λ (r : Report). Gained err (report_line r)) c.notice.ensures c.in-Ok.ensures.ok) c.in_err-report-in-Ok.ensures.stopped,
      c.in-Ok.ensures.cause.kept,
    )

pub returns-in_ok-report-in-Ok-clause-done : goal.returns-in_ok-report-in-Ok-clause-done
returns-in_ok-report-in-Ok-clause-done g c =
    let err : Writing = writing g.E.Sink.written g.E.Sink.faults c.args.err.now c.tell.new.err in (
      all_made _ _ c.in_ok-task.task c.in_ok-task.ensures.begun _ _ c.in_ok-report-in-Ok.ensures.done,
      subst (λ (r : Report). Gained err (report_line r)) c.notice.ensures c.in-Ok.ensures.ok,
    )
