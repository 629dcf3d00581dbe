use Rattle.netlist_eval.proofs.Valuations.{one_valuation}
use Rattle.netlist_eval.proofs.laws.ordered_have_one_valuation.Goals as goal

pub returns : goal.returns
returns c = one_valuation
