use Rattle.std.proofs.Common.{arith}
use Rattle.drive.proofs.run.Run.quiet.Goals as goal

pub not_quiet-requires : goal.not_quiet-requires
not_quiet-requires c =
    let early = c.in-Some.ensures.early in
    let room = c.requires.room in
    omega (arith, early, room)
