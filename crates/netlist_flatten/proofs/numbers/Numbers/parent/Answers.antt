use Rattle.netlist_flatten.proofs.Parents.{parent_there}
use Rattle.netlist_flatten.proofs.numbers.Numbers.parent.Goals as goal

pub returns : goal.returns
returns c = parent_there c.args.self.now c.self.inside.design.now c.self.inside.placed c.args.at c.get.result.now c.self.view_is c.self.invariant.are_places c.get.ensures c.get.result.now.parent (c.self.invariant.are_places.parents c.args.at c.get.result.now c.get.ensures)
