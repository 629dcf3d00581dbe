use Rattle.std.proofs.Common.{◌≡◌, map}
use Rattle.std.specs.List.{range_with_len}
use Rattle.tile_match.specs.Blocks.{bit_shown}
use Rattle.tile_match.proofs.starts.bits_shown.Given as goal

abbrev pub invariant-loop-number : goal.invariant-loop-number
invariant-loop-number l = l.starts.items ≡ map (bit_shown l.rows l.lanes l.loops) (range_with_len 0 l.number)
