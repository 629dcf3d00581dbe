use Rattle.pattern_writing.proofs.Runs.{spelled_runs, longest_runs}
use Rattle.pattern_writing.proofs.items_are_runs.Goals as goal

pub returns-clause-spell : goal.returns-clause-spell
returns-clause-spell c = spelled_runs

pub returns-clause-longest : goal.returns-clause-longest
returns-clause-longest c = longest_runs
