-- Orders of the nodes of a flat netlist, and loops.
use Rattle.std.specs.Prelude.{ℕ, ◌≡◌, ◌≢◌, ◌<◌, List, [], ◌∷◌, length, map, get_or, Contains, All, AllPairs}
use Rattle.netlist_core.specs.declared.flat.Flat.{Flat}
use Rattle.netlist_core.specs.declared.flat.NetId.{NetId}
use Rattle.netlist_meaning.specs.Flat.{in_classes, out_class, class_of, IsNetId, no_net}

-- a node reads the one class and drives the other
pub record FlatFeeds (flat : Flat) (read written : ℕ) : Type 0 where
  pub node : ℕ
  pub is_node : node < length flat.nodes
  pub reads : Contains (in_classes flat node) read
  pub writes : out_class flat node ≡ written

-- the class at the start feeds the first of the list, each class of the list feeds the next, and
-- the last feeds the class at the end
abbrev pub FlatFeedsThrough : Flat → ℕ → List ℕ → ℕ → Type 0
FlatFeedsThrough flat start [] end = FlatFeeds flat start end
FlatFeedsThrough flat start (class ∷ classes) end =
    FlatFeeds flat start class × FlatFeedsThrough flat class classes end

-- a loop: at least one class; a node reads each class and drives the next, and a node reads the
-- last and drives the first
abbrev pub IsFlatLoop : Flat → List ℕ → Type 0
IsFlatLoop flat [] = ⊥
IsFlatLoop flat (class ∷ classes) = FlatFeedsThrough flat class classes class

-- input k of node n is driven by node b
abbrev pub IsDrivenBy : Flat → ℕ → ℕ → ℕ → Type 0
IsDrivenBy flat n k b =
    (b < length flat.nodes) × (k < length (in_classes flat n))
    × (get_or (in_classes flat n) k 0 ≡ out_class flat b)

-- an order: it has all nodes, each of them once and after the nodes that drive what it reads
pub record IsOrder (flat : Flat) (order : List ℕ) : Type 0 where
  pub nodes : All (λ n. n < length flat.nodes) order
  pub once : AllPairs (λ a b. a ≢ b) order
  pub all : (n : ℕ) → n < length flat.nodes → Contains order n
  pub after : (i k b : ℕ) → i < length order → IsDrivenBy flat (get_or order i 0) k b
      → (j : ℕ) × (j < i) × (get_or order j 0 ≡ b)

-- no net before this one is of its class. In the flat netlist of a design, whose nets stand by
-- place, it is the net of its class that is nearest the main model
abbrev pub IsFirstOfClass : Flat → NetId → Type 0
IsFirstOfClass flat id = (k : ℕ) → k < id.0 → (get_or flat.nets k no_net).class ≢ class_of flat id

-- a simple loop, by its nets: each is the first of its class, and no class comes twice
pub record IsNetLoop (flat : Flat) (nets : List NetId) : Type 0 where
  pub are_nets : All (IsNetId flat) nets
  pub are_firsts : All (IsFirstOfClass flat) nets
  pub is_loop : IsFlatLoop flat (map (class_of flat) nets)
  pub is_simple : AllPairs (λ a b. a ≢ b) (map (class_of flat) nets)
