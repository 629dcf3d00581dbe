use Rattle.start_words.proofs.Started.{starts_are_flat}
use Rattle.start_words.proofs.laws.starts_are_flat.Goals as goal

pub returns : goal.returns
returns c = starts_are_flat
