use Rattle.std.proofs.Common.{◌≡◌, map, take, drop, string_bytes, []}
use Rattle.streams.specs.Streams.{stream_faults_after}
use Rattle.streams.specs.GivenBits.{AreBitsOf}
use Rattle.streams.proofs.stream_words.bits_by_input.Given as goal

abbrev pub invariant-loop-word : goal.invariant-loop-word
invariant-loop-word l =
    record {
      bits : AreBitsOf l.contexts l.given (map string_bytes (take l.word-index l.words));
      faults :
          stream_faults_after l.contexts l.names l.cycles (map string_bytes (take l.word-index l.words)) (map string_bytes (drop l.word-index l.words))
          ≡ stream_faults_after l.contexts l.names l.cycles [] (map string_bytes l.words);
    }
