use Rattle.std.proofs.Common.{◌≡◌, ◌++◌, take, drop, List, ℕ}
use Rattle.streams.specs.Streams.{inputs_of_context, missing_inputs, streams_of}
use Rattle.streams.specs.GivenBits.{AreBitsOf}
use Rattle.streams.proofs.streams.push_context.Given as goal

abbrev pub invariant-loop-name : goal.invariant-loop-name
invariant-loop-name l =
    record {
      streams : (words : List (List ℕ)) → AreBitsOf l.contexts l.given words → l.streams.items ≡ l.fn.streams.items ++ streams_of l.contexts words (inputs_of_context l.context (take l.name-index l.names));
      missing : (words : List (List ℕ)) → AreBitsOf l.contexts l.given words
          → missing_inputs l.contexts words (inputs_of_context l.context (drop l.name-index l.names)) ≡ missing_inputs l.contexts words (inputs_of_context l.context l.names);
    }
