use Rattle.program_laws.proofs.GoodNames.{compiled_names_are_good}
use Rattle.program_laws.proofs.LiftsBack.{compiled_are_lifted}
use Rattle.program_laws.proofs.compiled_are_lifted.Goals as goal

pub returns-clause-names : goal.returns-clause-names
returns-clause-names c = compiled_names_are_good c.names_are_words.ensures.nets

pub returns-clause-lifted : goal.returns-clause-lifted
returns-clause-lifted c = compiled_are_lifted c.names_are_words.ensures.nets
