use Rattle.std.proofs.Common.{ap, ◌∙◌}
use Rattle.std.proofs.lemmas.Result.{IfOk-weaker}
use Rattle.clap.specs.Simple.{App, app_of, with_subcommand}
use Rattle.command_words.proofs.program.with_command.Goals as goal

pub returns-in-Ok : goal.returns-in-Ok
returns-in-Ok c = λ app same plain.
    let is = rw c.in-Ok.is at same in
    let free = rw c.in-Ok.is at plain in
    IfOk-weaker c.subcommand.result _ _ (λ m h. h.shape free ∙ ap (λ (a : App). with_subcommand (app_of c.args.program) a.top) is) c.subcommand.ensures
