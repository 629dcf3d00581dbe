use Rattle.netlist_meaning.proofs.Joined.{joined_is_least}
use Rattle.netlist_meaning.proofs.laws.joined_is_the_least_equivalence.Goals as goal

pub returns : goal.returns
returns c = joined_is_least
