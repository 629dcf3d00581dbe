use Rattle.start_words.proofs.Started.{no_words_mean_start}
use Rattle.start_words.proofs.laws.no_words_mean_start.Goals as goal

pub returns : goal.returns
returns c = no_words_mean_start
