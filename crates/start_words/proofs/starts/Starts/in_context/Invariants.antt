use Rattle.std.proofs.Common.{◌≡◌, ℕ, List, map, take}
use Rattle.start_words.specs.Flats.{AreBitsSet, flat_latches, flat_start_bit}
use Rattle.start_words.proofs.starts.Starts.in_context.Given as goal

abbrev pub invariant-loop-latch : goal.invariant-loop-latch
invariant-loop-latch l =
    (words : List (List ℕ)) → AreBitsSet (flat_latches l.flat) l.self.bits words → l.bits.items ≡ map (flat_start_bit l.flat words l.context) (take l.latch-index l.latches)
