-- What drives the inputs of nodes, as numbers that lead to others.
use Rattle.std.specs.Prelude.{ℕ, ◌≡◌, ◌<◌, List, [], length, get_or, Option, Some, None}
use Rattle.netlist_core.specs.declared.flat.Flat.{Flat}
use Rattle.netlist_meaning.specs.FlatOrder.{IsDrivenBy}
use Rattle.depth_walk.specs.Links.{Links}

-- the node that drives input k of a node, if one does
abbrev pub IsDriverOf : Flat → ℕ → ℕ → Option ℕ → Type 0
IsDriverOf flat n k driver =
    ((b : ℕ) → driver ≡ Some b → IsDrivenBy flat n k b)
    × ((b : ℕ) → IsDrivenBy flat n k b → driver ≡ Some b)

-- the drivers of all inputs of a node, in order
abbrev pub AreDriversOf : Flat → ℕ → List (Option ℕ) → Type 0
AreDriversOf flat n drivers = (k : ℕ) → IsDriverOf flat n k (get_or drivers k None)

-- each node has a step for each input, to the node that drives it
pub record AreDriverLinks (flat : Flat) (links : Links) : Type 0 where
  pub long : length links ≡ length flat.nodes
  pub each : (n : ℕ) → n < length flat.nodes → AreDriversOf flat n (get_or links n [])
