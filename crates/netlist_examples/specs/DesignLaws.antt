-- Laws of what designs mean and of the rules on them, on which nothing else stands.
use Rattle.std.specs.Prelude.{Bool, ◌≡◌, ◌≢◌, ℕ, ◌↔◌, List, [], ◌∷◌, ◌++◌, true, false, Some, slice_get, Any}
use Rattle.netlist_core.specs.declared.model.Port.{Port}
use Rattle.netlist_core.specs.declared.model.Subckt.{Subckt}
use Rattle.netlist_core.specs.declared.model.Model.{Model}
use Rattle.netlist_core.specs.declared.model.Design.{Design}
use Rattle.netlist_rules.specs.Drivers.{drivers_of, readings_of, repeats}
use Rattle.netlist_rules.specs.ModelFaults.{duplicate_ports, second_drivers, undriven_readings, unknown_formals, formals_of}
use Rattle.netlist_rules.specs.Clocks.{IsWired}
use Rattle.netlist_meaning.specs.CoverValue.{cover_value}
use Rattle.netlist_meaning.specs.Valuation.{Valuation, LatchState, IsValuation, AgreeOnNets, output_bits}

-- each `1` of a row stands under a bit 1, and each `0` under a bit 0
abbrev pub HoldsUnder : List ℕ → List Bool → Type 0
HoldsUnder row bits =
    (column : ℕ) (bit : Bool) → slice_get bits column ≡ Some bit
    → (slice_get row column ≡ Some 49 → bit ≡ true) × (slice_get row column ≡ Some 48 → bit ≡ false)

-- rows that end in `1`: the value is 1 exactly when a row holds; rows that end in `0`: it is 0
-- exactly when one holds; no rows: it is 0
pub record CoversSay : Type 0 where
  pub on : (rows : List (List ℕ)) (bits : List Bool) → (cover_value rows true bits ≡ true)
      ↔ Any (λ row. HoldsUnder row bits) rows
  pub no_rows : (on : Bool) (bits : List Bool) → cover_value [] on bits ≡ false
  pub off : (rows : List (List ℕ)) (bits : List Bool) → rows ≢ []
      → (cover_value rows false bits ≡ false) ↔ Any (λ row. HoldsUnder row bits) rows

-- the bits at the design's nets alone decide whether bits are a valuation, and what its outputs are
pub record OnlyNetsMatter (design : Design) : Type 0 where
  pub solves : (inputs : List Bool) (state : LatchState) (bits others : Valuation)
      → AgreeOnNets design bits others → IsValuation design inputs state bits
      → IsValuation design inputs state others
  pub outputs : (bits others : Valuation) → AgreeOnNets design bits others
      → output_bits design bits ≡ output_bits design others

-- only the nets matter if each formal is a name of its model, no line names one with two actuals,
-- and no clock net is read or driven
abbrev pub WiredDesignsHaveNets : Type 0
WiredDesignsHaveNets = (design : Design) → IsWired design → OnlyNetsMatter design

-- the first list is the second without some of its ports, in the same order
pub data IsSublist : List Port → List Port → Type 0 where
  nothing : IsSublist [] []
  without : {p : Port} {some all : List Port} → IsSublist some all → IsSublist some (p ∷ all)
  with : {p : Port} {some all : List Port} → IsSublist some all → IsSublist (p ∷ some) (p ∷ all)

-- The words at fault stand in the order of the models' own lists, in which the words of one line
-- stand as on the line. So the first word of the earliest line is that line's first.
pub record WordsKeepOrder : Type 0 where
  pub ports : (m : Model) → IsSublist (duplicate_ports m) (m.ins ++ m.clocks ++ m.outs)
  pub drivers : (models : List Model) (m : Model)
      → IsSublist (second_drivers models m) (drivers_of models m)
  pub readings : (models : List Model) (m : Model)
      → IsSublist (undriven_readings models m) (readings_of models m)
  pub formals : (models : List Model) (s : Subckt)
      → IsSublist (unknown_formals models s) (formals_of s)
  pub formals_twice : (s : Subckt) → IsSublist (repeats (formals_of s)) (formals_of s)
