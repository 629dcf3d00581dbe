use Rattle.netlist_meaning.proofs.Depth.{weight_is_sum_over_all}
use Rattle.program_laws.proofs.laws.weights_are_sums.Goals as goal

pub returns : goal.returns
returns c = weight_is_sum_over_all
