use Rattle.std.proofs.Common.{◌≡◌}
use Rattle.netlist_meaning.specs.FlatOf.{flat_node}
use Rattle.netlist_flatten.proofs.Listing.{listed_before}
use Rattle.netlist_core.specs.declared.model.Model.{Model}
use Rattle.netlist_flatten.proofs.nodes.nodes_of.Given as goal

abbrev pub invariant-loop-at : goal.invariant-loop-at
invariant-loop-at l = l.nodes.items ≡ listed_before l.numbers (λ (model : Model). model.covers) (flat_node l.numbers) l.at
