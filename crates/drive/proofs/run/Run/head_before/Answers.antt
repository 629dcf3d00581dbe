use Rattle.std.proofs.Common.{sym, inl, inr}
use Rattle.drive.proofs.Still.{no_head_before}
use Rattle.drive.proofs.run.Run.head_before.Goals.{then-x-eq0-via-then-x-eq0, then-x-eq0-via-else-x-eq0+then-y-eq0}
use Rattle.drive.proofs.run.Run.head_before.Goals as goal

pub returns-then-x-eq0-clause-counted : goal.returns-then-x-eq0-clause-counted
returns-then-x-eq0-clause-counted c =
    let run = c.args.self.now in
    elim c.then-x-eq0.branch [
      | then-x-eq0-via-then-x-eq0 w ↦ sym (no_head_before run.bands run.generation c.args.x c.args.y c.requires.whole (inl w.if-x-eq0.true))
      | then-x-eq0-via-else-x-eq0+then-y-eq0 w ↦ sym (no_head_before run.bands run.generation c.args.x c.args.y c.requires.whole (inr w.if-y-eq0.true))
    ]
