use Rattle.pattern_laws.proofs.RleExamples.{too_large, not_too_large}
use Rattle.pattern_laws.proofs.examples.large_boxes.Goals as goal

pub returns-clause-too_large : goal.returns-clause-too_large
returns-clause-too_large c = too_large

pub returns-clause-not_too_large : goal.returns-clause-not_too_large
returns-clause-not_too_large c = not_too_large
