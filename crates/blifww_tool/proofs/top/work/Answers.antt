use Rattle.std.proofs.Common.{◌≡◌, ap, refl, Err}
use Rattle.std.proofs.lemmas.Result.{err_from_is_err_and, on_ok_weaker, IfErr-at_err, IfErr-weaker}
use Rattle.command_words.specs.Shapes.{values_of}
use Rattle.program_runs.proofs.Given.{kept}
use Rattle.blifww_tool.proofs.Stopped.{by_words, by_read, by_text, does, never_usage}
use Rattle.blifww_tool.proofs.top.work.Goals as goal

pub returns-in_err-command-clause-stopped : goal.returns-in_err-command-clause-stopped
returns-in_err-command-clause-stopped g c =
    let p = err_from_is_err_and c.from_residual.result c.from_residual.ensures.1 in
    rw (p.1, p.2) (by_words _ _ _ c.in_err-command.field-0.0 (record { nothing = kept _; calm = refl }) (record { left = refl; faults = refl }) (λ w. c.in_err-command.ensures.usage (ap Err w)))

pub returns-in_err-text-clause-stopped : goal.returns-in_err-text-clause-stopped
returns-in_err-text-clause-stopped g c =
    let p = err_from_is_err_and c.from_residual-in_err-text.result c.from_residual-in_err-text.ensures.1 in
    rw (p.1, p.2) (by_read _ _ _ (values_of c.in_ok-command.command) c.in_err-text.field-0.0 (record { nothing = kept _; calm = refl })
    (record { asks = c.in_ok-command.ensures.ok; taken = c.in_ok-command.ensures.taken }) c.in_err-text.ensures.read
    (λ other. c.in_err-text.ensures.calm (λ is. other (IfErr-at_err (λ e. c.in_err-text.field-0.0 ≡ e) is refl))) (λ w. c.in_err-text.ensures.fault (ap Err w)) (λ w. c.in_err-text.ensures.too_long (ap Err w)))

pub returns-clause-done : goal.returns-clause-done
returns-clause-done g c =
    on_ok_weaker c.print-done.result
    (λ p. does _ _ _ (values_of c.in_ok-command.command) c.in_ok-text.text c.as_slice.result.now (λ output. output) (record { asks = c.in_ok-command.ensures.ok; taken = c.in_ok-command.ensures.taken }) c.in_ok-text.ensures.given
    c.as_slice.ensures p)
    c.print-done.ensures.done

pub returns-clause-stopped : goal.returns-clause-stopped
returns-clause-stopped g c =
    IfErr-weaker c.print-done.result _ _
    (λ r h. by_text _ _ _ (values_of c.in_ok-command.command) c.in_ok-text.text c.as_slice.result.now r (record { asks = c.in_ok-command.ensures.ok; taken = c.in_ok-command.ensures.taken }) c.in_ok-text.ensures.given
    c.as_slice.ensures h)
    c.print-done.ensures.stopped

pub returns-clause-refused_unread : goal.returns-clause-refused_unread
returns-clause-refused_unread g c = λ is. absurd (never_usage _ _ _ c.print-done.result c.print-done.ensures.stopped is)
