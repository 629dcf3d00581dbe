use Rattle.aiger_plans.proofs.Needs.{flats_of_aigs_ask_alike}
use Rattle.aiger_plans.proofs.laws.flats_of_aigs_ask_alike.Goals as goal

pub returns : goal.returns
returns c = flats_of_aigs_ask_alike
