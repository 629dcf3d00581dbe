use Rattle.std.proofs.Common.{take}
use Rattle.streams.specs.GivenBits.{AreNamesOf}
use Rattle.streams.proofs.stream_words.known_names.Given as goal

abbrev pub invariant-loop-name : goal.invariant-loop-name
invariant-loop-name l = AreNamesOf l.known (take l.name-index l.names)
