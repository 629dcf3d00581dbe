-- What a flat netlist means: bits for its classes that solve the equations of its inputs, latches
-- and nodes.
use Rattle.std.specs.Prelude.{ℕ, zero, suc, ◌≡◌, ◌<◌, List, map, get_or, length, slice_get, Some, All, Bool, false, ◌==◌}
use Rattle.netlist_core.specs.declared.flat.Flat.{Flat}
use Rattle.netlist_meaning.specs.CoverValue.{cover_value}
use Rattle.netlist_meaning.specs.Flat.{class_of, node_at, out_class, FlatDriver, FlatDrives}

-- the value of a node's cover, under bits for the classes
abbrev pub node_value : Flat → (ℕ → Bool) → ℕ → Bool
node_value flat bits n =
    cover_value (node_at flat n).rows (node_at flat n).on
    (map (λ id. bits (class_of flat id)) (node_at flat n).ins)

-- the inputs have the input bits and the latches' outputs the bits of the state, in order, and each
-- node's output has the node's value
pub record IsFlatValuation (flat : Flat) (inputs state : List Bool) (bits : ℕ → Bool) : Type 0 where
  pub inputs_given : map (λ port. bits (class_of flat port.net)) flat.ins ≡ inputs
  pub latches_hold : map (λ latch. bits (class_of flat latch.output)) flat.latches ≡ state
  pub nodes_hold : (n : ℕ) → n < length flat.nodes
      → bits (out_class flat n) ≡ node_value flat bits n

-- two valuations count as the same if they agree on each class that is driven
abbrev pub AgreeWhereDriven : Flat → (ℕ → Bool) → (ℕ → Bool) → Type 0
AgreeWhereDriven flat bits others =
    (class : ℕ) (d : FlatDriver) → FlatDrives flat d class → bits class ≡ others class

-- a latch with init 1 starts as 1, each other as 0
abbrev pub start_bits : Flat → List Bool
start_bits flat = map (λ latch. latch.init == 1) flat.latches

-- the bits of the main outputs, in order; and the bit of one of them by its number from 0, which
-- means something only below the number of outputs
abbrev pub flat_output_bits : Flat → (ℕ → Bool) → List Bool
flat_output_bits flat bits = map (λ port. bits (class_of flat port.net)) flat.outs

abbrev pub flat_output_bit : Flat → (ℕ → Bool) → ℕ → Bool
flat_output_bit flat bits output = get_or (flat_output_bits flat bits) output false

-- the next state: the bits of the latches' inputs
abbrev pub flat_state_after : Flat → (ℕ → Bool) → List Bool
flat_state_after flat bits = map (λ latch. bits (class_of flat latch.input)) flat.latches

-- one cycle: from inputs and state to the bits of the main outputs and the next state
pub record IsCycle (flat : Flat) (inputs state outputs next : List Bool) : Type 0 where
  pub bits : ℕ → Bool
  pub solves : IsFlatValuation flat inputs state bits
  pub outputs_are : outputs ≡ flat_output_bits flat bits
  pub next_is : next ≡ flat_state_after flat bits

-- the state of a cycle: in cycle 0 the given one, and later the next state of the cycle before
abbrev pub flat_state_in : Flat → List Bool → (ℕ → ℕ → Bool) → ℕ → List Bool
flat_state_in flat start run zero = start
flat_state_in flat start run (suc cycle) = flat_state_after flat (run cycle)

-- a run on rows of input bits, from a given state: bits for the classes in each cycle. `run cycle`
-- has the bits of that cycle, counted from 0; from the number of rows on it means nothing
abbrev pub IsFlatRun : Flat → List Bool → List (List Bool) → (ℕ → ℕ → Bool) → Type 0
IsFlatRun flat start rows run =
    (cycle : ℕ) (row : List Bool) → slice_get rows cycle ≡ Some row
    → IsFlatValuation flat row (flat_state_in flat start run cycle) (run cycle)

-- rows of input bits: each has one bit for each input
abbrev pub AreFlatRows : Flat → List (List Bool) → Type 0
AreFlatRows flat rows = All (λ row. length row ≡ length flat.ins) rows
