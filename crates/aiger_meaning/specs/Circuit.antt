-- What a circuit means, by the AIGER format: bits for its literals, cycle by cycle.
use Rattle.std.specs.Prelude.{ℕ, zero, suc, ◌≡◌, ◌==◌, ◌+◌, ◌*◌, ◌&&◌, not, Bool, false, List, length, map, get_or, Some, slice_get, All}
use Rattle.aiger_text.specs.declared.aig.AigLatch.{AigLatch}
use Rattle.aiger_text.specs.declared.aig.AigAnd.{AigAnd}
use Rattle.aiger_text.specs.declared.aig.Aig.{Aig}

-- The bits solve the circuit's equations, for the bits of its inputs and the state of its latches,
-- each in order: literal 0 is 0, an odd literal has the other bit of the even one before it, and a
-- left side is 1 exactly if both right sides are 1.
pub record IsAigValuation (aig : Aig) (inputs state : List Bool) (bits : ℕ → Bool) : Type 0 where
  pub constant : bits 0 ≡ false
  pub inverted : (variable : ℕ) → bits (2 * variable + 1) ≡ not (bits (2 * variable))
  pub inputs_given : map bits aig.inputs ≡ inputs
  pub latches_hold : map (λ (latch : AigLatch). bits latch.lit) aig.latches ≡ state
  pub gates_hold : All (λ (gate : AigAnd). bits gate.lhs
      ≡ (bits gate.rhs0 && bits gate.rhs1)) aig.ands

-- a latch with reset 1 starts as 1, each other as 0
abbrev pub aig_start_bits : Aig → List Bool
aig_start_bits aig = map (λ (latch : AigLatch). latch.reset == 1) aig.latches

-- the next state has the bits of what latches read next
abbrev pub aig_state_after : Aig → (ℕ → Bool) → List Bool
aig_state_after aig bits = map (λ (latch : AigLatch). bits latch.next) aig.latches

-- the latches' state in a cycle
abbrev pub aig_state_in : Aig → (ℕ → ℕ → Bool) → ℕ → List Bool
aig_state_in aig run zero = aig_start_bits aig
aig_state_in aig run (suc cycle) = aig_state_after aig (run cycle)

-- A run has bits for each row of input bits, from the start on. `run cycle` are the bits of that
-- cycle, counted from 0; from the number of rows on they mean nothing.
abbrev pub IsAigRun : Aig → List (List Bool) → (ℕ → ℕ → Bool) → Type 0
IsAigRun aig rows run =
    (cycle : ℕ) (row : List Bool) → slice_get rows cycle ≡ Some row
    → IsAigValuation aig row (aig_state_in aig run cycle) (run cycle)

-- rows of input bits, one for each input
abbrev pub AreAigRows : Aig → List (List Bool) → Type 0
AreAigRows aig rows = All (λ row. length row ≡ length aig.inputs) rows

-- the bits of the outputs, in order; and below, the bit of one output by its number, from 0, which
-- means nothing from the number of outputs on
abbrev pub aig_output_bits : Aig → (ℕ → Bool) → List Bool
aig_output_bits aig bits = map bits aig.outputs

abbrev pub aig_output_bit : Aig → (ℕ → Bool) → ℕ → Bool
aig_output_bit aig bits output = get_or (aig_output_bits aig bits) output false

-- The weight: one for each input, four for each output and each gate, five for each latch, and two.
-- It is one more than what the ports, latches and covers of the flat netlist weigh.
abbrev pub aig_weight : Aig → ℕ
aig_weight aig =
    length aig.inputs + 4 * length aig.outputs + 5 * length aig.latches + 4 * length aig.ands + 2
