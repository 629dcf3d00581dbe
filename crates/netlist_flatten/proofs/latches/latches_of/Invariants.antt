use Rattle.std.proofs.Common.{◌≡◌}
use Rattle.netlist_meaning.specs.FlatOf.{flat_latch}
use Rattle.netlist_flatten.proofs.Listing.{listed_before}
use Rattle.netlist_core.specs.declared.model.Model.{Model}
use Rattle.netlist_flatten.proofs.latches.latches_of.Given as goal

abbrev pub invariant-loop-at : goal.invariant-loop-at
invariant-loop-at l = l.latches.items ≡ listed_before l.numbers (λ (model : Model). model.latches) (flat_latch l.numbers) l.at
