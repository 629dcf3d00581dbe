use Rattle.std.proofs.Common.{max, length, arith}
use Rattle.row_placer.proofs.Finish.{within_more}
use Rattle.row_placer.proofs.placing.improve.Goals as goal

pub loop-spare-init : goal.loop-spare-init
loop-spare-init c =
    let list = c.args.list.now in
    within_more list 0 (max list.inputs (length list.outs)) c.shorten.new.first.program (omega arith) c.shorten.ensures

pub try_spare-requires-clause-spare : goal.try_spare-requires-clause-spare
try_spare-requires-clause-spare c = omega (arith, c.min-spare-end.ensures, c.most_spare.ensures, c.loop-spare-test.true)
