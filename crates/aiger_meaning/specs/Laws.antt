-- The flat netlist of a sound circuit does what the circuit does, and has the same loops.
use Rattle.std.specs.Prelude.{ℕ, ◌<◌, ◌^◌, List, map, get_or}
use Rattle.netlist_core.specs.declared.flat.Flat.{Flat}
use Rattle.netlist_meaning.specs.FlatOrder.{IsFlatLoop}
use Rattle.aiger_text.specs.declared.aig.Aig.{Aig}
use Rattle.aiger_text.specs.SoundAig.{IsSoundAig}
use Rattle.aiger_meaning.specs.Circuit.{aig_weight}
use Rattle.aiger_meaning.specs.Loop.{IsAigLoop}
use Rattle.aiger_meaning.specs.FlatOf.{IsFlatOfAig, own_literals, net_of_literal}
use Rattle.aiger_meaning.specs.Lowered.{IsLowered}

abbrev pub FlatsOfAigsAreLowered : Type 0
FlatsOfAigsAreLowered =
    (aig : Aig) (flat : Flat) → IsSoundAig aig → aig_weight aig < 2 ^ 31 → IsFlatOfAig aig flat
    → IsLowered aig flat

-- the literal of a net
abbrev pub literal_of_net : Aig → ℕ → ℕ
literal_of_net aig net = get_or (own_literals aig) net 0

pub record HasSameLoops (aig : Aig) (flat : Flat) : Type 0 where
  pub of_flat : (classes : List ℕ) → IsFlatLoop flat classes
      → IsAigLoop aig (map (literal_of_net aig) classes)
  pub is_flat : (lits : List ℕ) → IsAigLoop aig lits
      → IsFlatLoop flat (map (net_of_literal aig) lits)

abbrev pub LoopsOfAigsAreFlat : Type 0
LoopsOfAigsAreFlat =
    (aig : Aig) (flat : Flat) → IsSoundAig aig → IsFlatOfAig aig flat → HasSameLoops aig flat
