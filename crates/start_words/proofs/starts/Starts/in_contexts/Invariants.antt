use Rattle.std.proofs.Common.{◌≡◌, ℕ, List, map}
use Rattle.std.specs.List.{range_with_len}
use Rattle.start_words.specs.Flats.{AreBitsSet, flat_latches, flat_start_bits}
use Rattle.start_words.proofs.starts.Starts.in_contexts.Given as goal

abbrev pub invariant-loop-context : goal.invariant-loop-context
invariant-loop-context l =
    (words : List (List ℕ)) → AreBitsSet (flat_latches l.flat) l.self.bits words → l.starts.items ≡ map (flat_start_bits l.flat words) (range_with_len 0 l.context)
