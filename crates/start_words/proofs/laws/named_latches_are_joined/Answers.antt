use Rattle.start_words.proofs.Named.{named_latches_are_joined}
use Rattle.start_words.proofs.laws.named_latches_are_joined.Goals as goal

pub returns : goal.returns
returns c = named_latches_are_joined
