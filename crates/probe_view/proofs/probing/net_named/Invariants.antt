use Rattle.std.proofs.Common.{◌≡◌, drop}
use Rattle.std.specs.List.{find}
use Rattle.probe_view.specs.Probes.{has_name_and_path}
use Rattle.probe_view.proofs.probing.net_named.Given as goal

abbrev pub invariant-loop-net : goal.invariant-loop-net
invariant-loop-net l = find (has_name_and_path l.name l.path) (drop l.net-index l.nets) ≡ find (has_name_and_path l.name l.path) l.nets
