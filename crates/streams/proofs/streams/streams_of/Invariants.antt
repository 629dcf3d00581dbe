use Rattle.std.proofs.Common.{◌≡◌, List, ℕ, []}
use Rattle.streams.specs.Streams.{inputs_of_contexts, missing_inputs, streams_of}
use Rattle.streams.specs.GivenBits.{AreBitsOf}
use Rattle.streams.proofs.streams.streams_of.Given as goal

abbrev pub invariant-loop-context : goal.invariant-loop-context
invariant-loop-context l =
    record {
      streams : (words : List (List ℕ)) → AreBitsOf l.contexts l.given words → l.streams.items ≡ streams_of l.contexts words (inputs_of_contexts l.context l.names);
      none_missing : (words : List (List ℕ)) → AreBitsOf l.contexts l.given words → missing_inputs l.contexts words (inputs_of_contexts l.context l.names) ≡ [];
    }
