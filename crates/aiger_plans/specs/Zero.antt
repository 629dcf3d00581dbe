-- The bits of a circuit without latches while all inputs are 0, computed.
use Rattle.std.specs.Prelude.{ℕ, zero, suc, ◌≡◌, ◌==◌, ◌%◌, ◌&&◌, Bool, false, List, [], map, length, replicate, Option}
use Rattle.std.specs.List.{find, list_any}
use Rattle.std.specs.Option.{option_map_or}
use Rattle.netlist_core.specs.declared.flat.Flat.{Flat}
use Rattle.netlist_meaning.specs.FlatOrder.{IsOrder}
use Rattle.cell_polarity.specs.Zero.{complement_if}
use Rattle.aiger_text.specs.declared.aig.AigAnd.{AigAnd}
use Rattle.aiger_text.specs.declared.aig.Aig.{Aig}
use Rattle.aiger_text.specs.EntryFaults.{even}
use Rattle.aiger_text.specs.SoundAig.{IsSoundAig}
use Rattle.aiger_meaning.specs.Circuit.{IsAigValuation, aig_output_bits}
use Rattle.aiger_meaning.specs.FlatOf.{IsFlatOfAig}

abbrev pub is_odd : ℕ → Bool
is_odd lit = lit % 2 == 1

-- the gate whose left side is the literal
abbrev pub and_gate_of : Aig → ℕ → Option AigAnd
and_gate_of aig lit = find (λ (gate : AigAnd). gate.lhs == lit) aig.ands

-- The bit of a literal, through at most so many gates one after the other. An odd literal has the
-- other bit of the even one before it, and an even literal that is no left side is 0.
abbrev pub bit_at_zero : Aig → ℕ → ℕ → Bool
bit_at_zero aig zero lit = is_odd lit
bit_at_zero aig (suc depth) lit =
    complement_if (is_odd lit) (option_map_or (λ (gate : AigAnd). bit_at_zero aig depth gate.rhs0
    && bit_at_zero aig depth gate.rhs1) (and_gate_of aig (even lit)) false)

-- while all inputs are 0, some output is 1
abbrev pub some_output_is_one : Aig → Bool
some_output_is_one aig = list_any (bit_at_zero aig (length aig.ands)) aig.outputs

-- in a circuit without loops the outputs have these bits
abbrev pub BitsAtZeroAreMeant : Type 0
BitsAtZeroAreMeant =
    (aig : Aig) (flat : Flat) (order : List ℕ) → IsSoundAig aig → IsFlatOfAig aig flat
    → IsOrder flat order
    → (bits : ℕ → Bool) → IsAigValuation aig (replicate (length aig.inputs) false) [] bits
    → map (bit_at_zero aig (length aig.ands)) aig.outputs ≡ aig_output_bits aig bits
