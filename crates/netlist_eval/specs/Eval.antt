-- Bits by class as they are computed along an order, and laws of flat valuations.
use Rattle.netlist_meaning.specs.FlatValuation.{node_value, IsFlatValuation, AgreeWhereDriven, IsCycle}
use Rattle.std.specs.Prelude.{ℕ, ◌≡◌, List, map, length, get_or, slice_set, Bool, false, zip}
use Rattle.std.specs.List.{fold}
use Rattle.netlist_core.specs.declared.flat.FlatLatch.{FlatLatch}
use Rattle.netlist_core.specs.declared.flat.Flat.{Flat}
use Rattle.netlist_meaning.specs.Flat.{class_of, out_class, IsSound, port_classes}
use Rattle.netlist_meaning.specs.FlatOrder.{IsOrder}

-- if its nodes have an order, a sound flat netlist has exactly one valuation for given inputs and a
-- given state
abbrev pub OrderedHaveOneValuation : Type 0
OrderedHaveOneValuation =
    (flat : Flat) → IsSound flat → (order : List ℕ) → IsOrder flat order
    → (inputs state : List Bool) → length inputs ≡ length flat.ins
    → length state ≡ length flat.latches
    → (bits : ℕ → Bool) × IsFlatValuation flat inputs state bits
    × ((others : ℕ → Bool) → IsFlatValuation flat inputs state others
    → AgreeWhereDriven flat bits others)

-- bits by class, as they are computed
abbrev pub class_bit : List Bool → ℕ → Bool
class_bit bits class = get_or bits class false

abbrev pub put : List Bool → ℕ × Bool → List Bool
put bits at = slice_set bits at.0 at.1

abbrev pub latch_classes : Flat → List FlatLatch → List ℕ
latch_classes flat latches = map (λ latch. class_of flat latch.output) latches

abbrev pub with_inputs : Flat → List Bool → List Bool → List Bool
with_inputs flat inputs bits = fold put bits (zip (port_classes flat flat.ins) inputs)

abbrev pub with_state : Flat → List Bool → List Bool → List Bool
with_state flat state bits = fold put bits (zip (latch_classes flat flat.latches) state)

abbrev pub settle_node : Flat → List Bool → ℕ → List Bool
settle_node flat bits n = slice_set bits (out_class flat n) (node_value flat (class_bit bits) n)

abbrev pub settled : Flat → List ℕ → List Bool → List Bool
settled flat order bits = fold (settle_node flat) bits order

abbrev pub evaluated : Flat → List ℕ → List Bool → List Bool → List Bool → List Bool
evaluated flat order inputs state bits =
    settled flat order (with_state flat state (with_inputs flat inputs bits))

-- if the nodes have an order, the inputs and the state determine the outputs of a cycle and the
-- next state
abbrev pub CyclesAreOne : Type 0
CyclesAreOne =
    (flat : Flat) → IsSound flat → (order : List ℕ) → IsOrder flat order
    → (inputs state outputs next outputs' next' : List Bool)
    → IsCycle flat inputs state outputs next → IsCycle flat inputs state outputs' next'
    → (outputs ≡ outputs') × (next ≡ next')

-- what contracts see of a machine: its netlist, and the state of the latches
pub record Held : Type 0 where
  pub flat : Flat
  pub state : List Bool
