use Rattle.start_words.proofs.Named.{latches_are_flat}
use Rattle.start_words.proofs.laws.latches_are_flat.Goals as goal

pub returns : goal.returns
returns c = latches_are_flat
