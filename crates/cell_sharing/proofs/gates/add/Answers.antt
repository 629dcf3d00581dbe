use Rattle.std.proofs.Common.{◌≡◌, length, arith}
use Rattle.cell_sharing.proofs.Growing.{added}
use Rattle.cell_sharing.proofs.gates.add.Goals as goal

pub returns-clause-value : goal.returns-clause-value
returns-clause-value c =
    let long : length c.args.list.now.cells ≡ c.in-Ok.place = omega (arith, c.len.ensures, c.in-Ok.ensures) in
    added c.args.list.now c.push.new.self c.args.cell c.in-Ok.place c.in_ok-push.ensures.done long
