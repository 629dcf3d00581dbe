use Rattle.aiger_meaning.proofs.FlatsLowered.{flats_of_aigs_are_lowered}
use Rattle.aiger_meaning.proofs.laws.flats_of_aigs_are_lowered.Goals as goal

pub returns : goal.returns
returns c = flats_of_aigs_are_lowered
