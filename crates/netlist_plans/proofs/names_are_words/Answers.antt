use Rattle.netlist_plans.proofs.Words.{names_are_words, nets_are_words}
use Rattle.netlist_plans.proofs.names_are_words.Goals as goal

pub returns-clause-names : goal.returns-clause-names
returns-clause-names c = names_are_words

pub returns-clause-nets : goal.returns-clause-nets
returns-clause-nets c = nets_are_words
