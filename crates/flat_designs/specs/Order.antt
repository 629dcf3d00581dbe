-- An order of covers in which each comes after those that it reads.
use Rattle.std.specs.Prelude.{ℕ, ◌≡◌, length, List, ◌∷◌, ◌++◌, Some, slice_get, Contains, Bool}
use Rattle.netlist_core.specs.declared.model.Design.{Design}
use Rattle.netlist_core.specs.declared.model.Model.{Model}
use Rattle.netlist_core.specs.declared.model.Cover.{Cover}
use Rattle.netlist_core.specs.Names.{Name}
use Rattle.netlist_meaning.specs.Places.{Place, model_at}
use Rattle.netlist_meaning.specs.Nets.{Net, net_at, Joined, IsInNames}
use Rattle.netlist_meaning.specs.Loop.{IsCombinationalLoop}
use Rattle.netlist_rules.specs.Clocks.{HasNoClockFault}
use Rattle.netlist_meaning.specs.Valuation.{Valuation, LatchState, IsValuation, AgreeOnNets}
use Rattle.netlist_rules.specs.ModelFaults.{AreFaultless}

-- a cover, by its place and its number there
pub record CoverAt : Type 0 where
  pub place : Place
  pub number : ℕ

pub record IsCoverAt (design : Design) (at : CoverAt) (cover : Cover) : Type 0 where
  pub model : Model
  pub has_model : model_at design at.place ≡ Some model
  pub has_cover : slice_get model.covers at.number ≡ Some cover

pub record IsCoverOrder (design : Design) (order : List CoverAt) : Type 0 where
  pub all : (at : CoverAt) (cover : Cover) → IsCoverAt design at cover → Contains order at
  pub once : (front back : List CoverAt) (at : CoverAt) → order ≡ front ++ at ∷ back
      → ¬ Contains front at
  pub after : (front back : List CoverAt) (at other : CoverAt) (cover read : Cover) (input : Name)
      → order ≡ front ++ at ∷ back → IsCoverAt design at cover → Contains cover.ins input
      → IsCoverAt design other read → Joined design (net_at other.place read.out)
      (net_at at.place input) → Contains front other

-- a design without a fault that has such an order has at most one valuation for given input bits
-- and a given state
abbrev pub OrderedHaveAtMostOneValuation : Type 0
OrderedHaveAtMostOneValuation =
    (design : Design) → AreFaultless design.models → HasNoClockFault design → (order : List CoverAt)
    → IsCoverOrder design order
    → (inputs : List Bool) (state : LatchState) (bits others : Valuation)
    → IsValuation design inputs state bits → IsValuation design inputs state others
    → AgreeOnNets design bits others

-- a design with such an order has no loop
abbrev pub OrderedHaveNoLoop : Type 0
OrderedHaveNoLoop =
    (design : Design) (order : List CoverAt) → IsCoverOrder design order → (nets : List Net)
    → ¬ IsCombinationalLoop design nets

-- a design without a fault that has such an order has a valuation for all bits of the IN names and
-- each state
abbrev pub OrderedHaveAValuation : Type 0
OrderedHaveAValuation =
    (design : Design) → AreFaultless design.models → HasNoClockFault design → (order : List CoverAt)
    → IsCoverOrder design order
    → (names : List Name) → IsInNames design names → (inputs : List Bool)
    → length inputs ≡ length names → (state : LatchState)
    → (bits : Valuation) × IsValuation design inputs state bits
