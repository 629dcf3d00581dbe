-- The design of a made text.
use Rattle.std.specs.Prelude.{ℕ, ◌≡◌, ◌≤◌, ◌+◌, ◌-◌, ◌*◌, List, [], ◌∷◌, length, codes}
use Rattle.netlist_core.specs.declared.flat.Flat.{Flat}
use Rattle.netlist_core.specs.Names.{Name}
use Rattle.netlist_meaning.specs.Places.{main_outputs}
use Rattle.netlist_meaning.specs.Nets.{IsInNames}
use Rattle.netlist_meaning.specs.Weight.{weight}
use Rattle.netlist_meaning.specs.FlatOf.{IsFlatOf}
use Rattle.netlist_text.specs.NetlistText.{IsNetlist}
use Rattle.made_netlists.specs.Text.{made_text, net_name, net_of_gate}
use Rattle.made_netlists.specs.Design.{made_design}

-- the names of the inputs of a made design, and below, of its outputs: the last gate and the two
-- latches
abbrev pub made_in_names : List Name
made_in_names = codes "i0" ∷ codes "i1" ∷ codes "i2" ∷ codes "i3" ∷ []

abbrev pub made_out_names : ℕ → List Name
made_out_names size = net_name (net_of_gate (size - 1)) ∷ codes "q0" ∷ codes "q1" ∷ []

-- A flat netlist of a made design has four inputs, three outputs, two latches, a cover for each
-- gate, and no clocks.
pub record HasMadeSizes (size : ℕ) (flat : Flat) : Type 0 where
  pub ins : length flat.ins ≡ 4
  pub outs : length flat.outs ≡ 3
  pub latches : length flat.latches ≡ 2
  pub nodes : length flat.nodes ≡ size
  pub clocks : flat.clocks ≡ []

-- The text of every seed and of 1 to 128 gates is a netlist: its design is within the limit of
-- weight, no clock is at fault, and no covers read each other in a circle.
abbrev pub MadeAreNetlists : Type 0
MadeAreNetlists =
    (seed size : ℕ) → 1 ≤ size → size ≤ 128
    → IsNetlist (made_text seed size) (made_design seed size)

-- Inputs, outputs and latches weigh 11, and a gate weighs at most 7.
abbrev pub MadeHaveWeights : Type 0
MadeHaveWeights = (seed size : ℕ) → weight (made_design seed size) ≤ 11 + 7 * size

-- The IN names of a made design are these, and no others, and its outputs have these names.
pub record HasMadeNames (seed size : ℕ) : Type 0 where
  pub ins : IsInNames (made_design seed size) made_in_names
  pub no_other_ins : (names : List Name) → IsInNames (made_design seed size) names
      → names ≡ made_in_names
  pub outs : main_outputs (made_design seed size) ≡ made_out_names size

abbrev pub MadeHaveNames : Type 0
MadeHaveNames = (seed size : ℕ) → HasMadeNames seed size

abbrev pub MadeHaveSizes : Type 0
MadeHaveSizes =
    (seed size : ℕ) (flat : Flat) → IsFlatOf (made_design seed size) flat → HasMadeSizes size flat
