use Rattle.plan_ports.proofs.GatheredNets.{AreNetLines}
use Rattle.plan_ports.proofs.nets.plain_lines.Given as goal

abbrev pub invariant-loop-net : goal.invariant-loop-net
invariant-loop-net l = AreNetLines l.flat l.plan l.net-index l.lines.items
