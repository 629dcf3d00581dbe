use Rattle.std.proofs.Common.{◌≡◌, map, take, drop, string_bytes}
use Rattle.start_words.specs.Flats.{AreBitsSet, flat_latches}
use Rattle.start_words.specs.Words.{first_fault, first_fault_after}
use Rattle.start_words.proofs.starts.Starts.read.Given as goal

abbrev pub invariant-loop-word : goal.invariant-loop-word
invariant-loop-word l =
    record {
      bits : AreBitsSet (flat_latches l.flat) l.bits (map string_bytes (take l.word-index l.words));
      faults :
          first_fault_after (flat_latches l.flat) l.contexts (map string_bytes (take l.word-index l.words)) (map string_bytes (drop l.word-index l.words))
          ≡ first_fault (flat_latches l.flat) l.contexts (map string_bytes l.words);
    }
