use Rattle.tile_match.proofs.OneAnswer.{faults_exclude}
use Rattle.tile_match.proofs.laws.faults_exclude.Goals as goal

pub returns : goal.returns
returns c = faults_exclude
