use Rattle.std.proofs.Common.{refl, inl}
use Rattle.std.proofs.lemmas.Result.{err_from_is_err_and}
use Rattle.program_runs.specs.Runs.{GaveAll, Reading, reading}
use Rattle.wwroute_tool.proofs.Endings.{by_text}
use Rattle.wwroute_tool.proofs.top.begin.Goals as goal

pub returns-in_default-clause-refused : goal.returns-in_default-clause-refused
returns-in_default-clause-refused g c = inl (refl, c.in_default.ensures.none refl, record { left = refl; faults = refl })

pub returns-in_err-task-clause-refused : goal.returns-in_err-task-clause-refused
returns-in_err-task-clause-refused g c =
    let p = err_from_is_err_and c.from_residual-in_err-task.result c.from_residual-in_err-task.ensures.1 in
    let src : Reading = reading g.S.Source.left g.S.Source.faults c.args.src.now c.read_all.new.src in
    let given : GaveAll src c.in_ok-text.text = record { consumed = c.in_ok-text.ensures.all; end = c.in_ok-text.ensures.end; within = c.in_ok-text.ensures.within; calm = c.in_ok-text.ensures.calm (λ e. cc) } in
    rw (p.1, p.2) (by_text _ src c.in_ok-text.text c.in-Some.command c.in_err-task.field-0.0 c.in-Some.ensures.some given c.in_err-task.ensures.refused)

pub returns-clause-begun : goal.returns-clause-begun
returns-clause-begun g c = record {
  command = c.in-Some.command;
  asked = c.in-Some.ensures.some;
  text = c.in_ok-text.text;
  given = record { consumed = c.in_ok-text.ensures.all; end = c.in_ok-text.ensures.end; within = c.in_ok-text.ensures.within; calm = c.in_ok-text.ensures.calm (λ e. cc) };
  is = c.in_ok-task.ensures.task;
  sound = c.in_ok-task.ensures.sound;
}
