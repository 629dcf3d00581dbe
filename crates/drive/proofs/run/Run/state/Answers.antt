use Rattle.std.proofs.Common.{◌∙◌, sym, ap, pos}
use Rattle.drive.specs.declared.run.Orientation.{Orientation}
use Rattle.drive.specs.Runs.{evolution, laid}
use Rattle.drive.proofs.run.Run.state.Goals as goal

pub returns-in-Upright : goal.returns-in-Upright
returns-in-Upright c =
    let run = c.args.self.now in
    c.state_in_bands.ensures
    ∙ sym (ap (λ (o : Orientation). laid o (evolution run.bands) run.generation (pos c.args.x) (pos c.args.y)) c.in-Upright.is)

pub returns-in-Turned : goal.returns-in-Turned
returns-in-Turned c =
    let run = c.args.self.now in
    c.state_in_bands-in-Turned.ensures
    ∙ sym (ap (λ (o : Orientation). laid o (evolution run.bands) run.generation (pos c.args.x) (pos c.args.y)) c.in-Turned.is)
