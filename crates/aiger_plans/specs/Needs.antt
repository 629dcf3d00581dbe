-- Which circuits ask for a constant 1. A pattern without one and without latches has the period 32.
use Rattle.std.specs.Prelude.{◌≡◌, ◌&&◌, ◌||◌, ◌++◌, Bool, map, length}
use Rattle.std.specs.List.{list_any}
use Rattle.netlist_core.specs.declared.flat.Flat.{Flat}
use Rattle.cell_meaning.specs.Needs.{any_needs_one}
use Rattle.aiger_text.specs.declared.aig.AigLatch.{AigLatch}
use Rattle.aiger_text.specs.declared.aig.AigAnd.{AigAnd}
use Rattle.aiger_text.specs.declared.aig.Aig.{Aig}
use Rattle.aiger_meaning.specs.FlatOf.{IsFlatOfAig}
use Rattle.aiger_plans.specs.Zero.{is_odd}

-- both sides of a gate are negated, or a latch or an output reads a negated literal; constant 1 is
-- literal 0 negated
abbrev pub aig_needs_one : Aig → Bool
aig_needs_one aig =
    list_any (λ (gate : AigAnd). is_odd gate.rhs0 && is_odd gate.rhs1) aig.ands
    || list_any is_odd (map (λ (latch : AigLatch). latch.next) aig.latches ++ aig.outputs)

-- the flat netlist of a circuit asks for constant 1 exactly if the circuit does, and has as many
-- latches
pub record AsksAlike (aig : Aig) (flat : Flat) : Type 0 where
  pub one : any_needs_one flat ≡ aig_needs_one aig
  pub latches : length flat.latches ≡ length aig.latches

abbrev pub FlatsOfAigsAskAlike : Type 0
FlatsOfAigsAskAlike = (aig : Aig) (flat : Flat) → IsFlatOfAig aig flat → AsksAlike aig flat
