use Rattle.route_lines.proofs.FirstGateLines.{feed_cuts, feedless_before}
use Rattle.route_lines.proofs.comments.first_line.Goals as goal

pub returns-then-bytes-end-eq10-clause-cut : goal.returns-then-bytes-end-eq10-clause-cut
returns-then-bytes-end-eq10-clause-cut c = feed_cuts c.args.bytes.now c.loop-end.end c.loop-end-test.true c.if-bytes-end-eq10.true

pub returns-then-bytes-end-eq10-clause-feedless : goal.returns-then-bytes-end-eq10-clause-feedless
returns-then-bytes-end-eq10-clause-feedless c = feedless_before c.args.bytes.now c.loop-end.end c.loop-end.auto.end-end c.loop-end.invariant
