-- A flat netlist that does what a circuit does.
use Rattle.std.specs.Prelude.{ℕ, ◌≡◌, Bool, false, List}
use Rattle.netlist_core.specs.declared.flat.Flat.{Flat}
use Rattle.netlist_meaning.specs.Flat.{IsSound, IsWeighed, IsNamed, names_of_ports}
use Rattle.netlist_meaning.specs.FlatValuation.{IsFlatValuation, start_bits, flat_output_bits, flat_state_after}
use Rattle.aiger_text.specs.declared.aig.Aig.{Aig}
use Rattle.aiger_text.specs.SoundAig.{input_names, output_names}
use Rattle.aiger_meaning.specs.Circuit.{IsAigValuation, aig_start_bits, aig_state_after, aig_output_bits, aig_weight}

-- under these bits of the circuit and of the netlist's classes, the outputs are the same, and so is
-- the next state
pub record AreSameCycle (aig : Aig) (flat : Flat) (bits class_bits : ℕ → Bool) : Type 0 where
  pub outputs : flat_output_bits flat class_bits ≡ aig_output_bits aig bits
  pub next : flat_state_after flat class_bits ≡ aig_state_after aig bits

-- The flat netlist is sound, and within its weight, which is the circuit's; tables do not list its
-- nets. Its ports have the circuit's names, and it starts as the circuit does. Each solution of the
-- circuit's equations is one of the netlist's, and the other way round, with the same inputs,
-- state, outputs and next state.
pub record IsLowered (aig : Aig) (flat : Flat) : Type 0 where
  pub sound : IsSound flat
  pub weighed : IsWeighed flat
  pub named : IsNamed flat
  pub weight : flat.weight ≡ aig_weight aig
  pub unlisted : flat.listed ≡ false
  pub in_names : names_of_ports flat flat.ins ≡ input_names aig
  pub out_names : names_of_ports flat flat.outs ≡ output_names aig
  pub starts : start_bits flat ≡ aig_start_bits aig
  pub is_flat : (inputs state : List Bool) (bits : ℕ → Bool) → IsAigValuation aig inputs state bits
      → (class_bits : ℕ → Bool) × IsFlatValuation flat inputs state class_bits
      × AreSameCycle aig flat bits class_bits
  pub of_flat : (inputs state : List Bool) (class_bits : ℕ → Bool)
      → IsFlatValuation flat inputs state class_bits
      → (bits : ℕ → Bool) × IsAigValuation aig inputs state bits
      × AreSameCycle aig flat bits class_bits
