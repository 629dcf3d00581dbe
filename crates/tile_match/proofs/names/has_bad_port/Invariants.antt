use Rattle.std.proofs.Common.{◌≡◌, take, false}
use Rattle.std.specs.List.{list_any}
use Rattle.tile_match.specs.Names.{is_bad_port}
use Rattle.tile_match.proofs.names.has_bad_port.Given as goal

abbrev pub invariant-loop-port : goal.invariant-loop-port
invariant-loop-port l = list_any is_bad_port (take l.port-index l.ports) ≡ false
