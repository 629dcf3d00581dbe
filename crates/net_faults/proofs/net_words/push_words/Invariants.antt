use Rattle.std.proofs.Common.{◌≡◌, ◌++◌, take}
use Rattle.net_faults.proofs.net_words.push_words.Given as goal

abbrev pub invariant-loop-word : goal.invariant-loop-word
invariant-loop-word l = l.words.items ≡ l.initial.words.items ++ take l.word-index l.more
