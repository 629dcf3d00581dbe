use Rattle.std.proofs.Common.{◌≡◌, take, false}
use Rattle.std.specs.List.{list_any}
use Rattle.tile_match.specs.Names.{is_break}
use Rattle.tile_match.proofs.names.has_break.Given as goal

abbrev pub invariant-loop-byte : goal.invariant-loop-byte
invariant-loop-byte l = list_any is_break (take l.byte-index l.name) ≡ false
