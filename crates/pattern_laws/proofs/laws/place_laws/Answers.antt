use Rattle.pattern_laws.proofs.OneRun.{one_run}
use Rattle.pattern_reading.proofs.Places.{next_place}
use Rattle.pattern_laws.proofs.laws.place_laws.Goals as goal

pub returns-clause-next : goal.returns-clause-next
returns-clause-next c = next_place

pub returns-clause-one_run : goal.returns-clause-one_run
returns-clause-one_run c = one_run
