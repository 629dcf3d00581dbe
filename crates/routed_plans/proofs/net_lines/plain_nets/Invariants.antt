use Rattle.std.proofs.Common.{◌≡◌, filter, take}
use Rattle.routed_plans.specs.Drawn.{is_plain, nets_now}
use Rattle.routed_plans.proofs.net_lines.plain_nets.Given as goal

abbrev pub invariant-loop-net : goal.invariant-loop-net
invariant-loop-net l = nets_now l.nets.items ≡ filter (is_plain l.flat) (take l.net-index l.flat.nets)
