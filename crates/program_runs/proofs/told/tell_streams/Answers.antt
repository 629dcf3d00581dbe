use Rattle.std.proofs.Common.{refl}
use Rattle.program_runs.proofs.SameTexts.{told}
use Rattle.program_runs.proofs.told.tell_streams.Goals as goal

pub returns : goal.returns
returns g c =
    let e = c.write_pieces.ensures in
    told _ _ _ _ _ refl e.ok e.front e.cause
