-- What is proved of the definitions, for every design.
use Rattle.std.specs.Prelude.{◌⊎◌, ◌≢◌, ◌<◌, ◌++◌, [], Some, ℕ, ◌&&◌, cond, length, nat_lt, is_some, bytes_eq, count_by, sum_by, ◌≡◌, ◌↔◌, Bool, List, IsTrue}
use Rattle.std.specs.Cmp.{IsEquivalence}
use Rattle.netlist_core.specs.declared.model.Design.{Design}
use Rattle.netlist_core.specs.declared.model.Model.{Model}
use Rattle.netlist_core.specs.Names.{Name}
use Rattle.netlist_meaning.specs.Places.{Place, model_at, IsPlace, IsBefore}
use Rattle.netlist_meaning.specs.Nets.{Net, IsPinned, Joined, IsClockNet, IsInNames}
use Rattle.netlist_meaning.specs.Roots.{NamesFormalsOnce}
use Rattle.netlist_meaning.specs.Weight.{weight, of_model}
use Rattle.netlist_core.specs.OwnWeight.{own_weight}
use Rattle.netlist_meaning.specs.Valuation.{Valuation}

-- being joined is an equivalence that holds at each pin, and any test that is such an equivalence
-- holds of joined nets
pub record IsLeastEquivalence (design : Design) : Type 0 where
  pub holds_at_pins : (outer inner : Net) → IsPinned design outer inner → Joined design outer inner
  pub itself : (a : Net) → Joined design a a
  pub reversed : (a b : Net) → Joined design a b → Joined design b a
  pub followed : (a b c : Net) → Joined design a b → Joined design b c → Joined design a c
  pub is_least : (test : Net → Net → Bool) → IsEquivalence test
      → ((outer inner : Net) → IsPinned design outer inner → IsTrue (test outer inner)) → (a b : Net)
      → Joined design a b → IsTrue (test a b)

-- the bits of each pin's actual and formal agree, unless these are clock nets
abbrev pub AgreeAtPins : Design → Valuation → Type 0
AgreeAtPins design bits =
    (outer inner : Net) → IsPinned design outer inner → ¬ IsClockNet design outer
    → bits outer.place outer.name ≡ bits inner.place inner.name

-- the bits of joined nets agree, unless these are clock nets
abbrev pub AgreeWhereJoined : Design → Valuation → Type 0
AgreeWhereJoined design bits =
    (a b : Net) → Joined design a b → ¬ IsClockNet design a
    → bits a.place a.name ≡ bits b.place b.name

-- bits agree at all pins exactly if they agree on all joined nets
abbrev pub PinsAreEnough : Type 0
PinsAreEnough =
    (design : Design) (bits : Valuation) → AgreeAtPins design bits ↔ AgreeWhereJoined design bits

-- a design has at most one list of IN names
abbrev pub InNamesAreOne : Type 0
InNamesAreOne =
    (design : Design) (names others : List Name) → IsInNames design names → IsInNames design others
    → names ≡ others

-- the list has each place that is fewer than so many lines deep exactly once, and nothing else
abbrev pub ListsPlaces : Design → ℕ → List Place → Type 0
ListsPlaces design depth places =
    (place : Place) → count_by (bytes_eq place) places ≡ cond
    (is_some (model_at design place) && nat_lt (length place) depth) 1 0

-- the weight is the sum of the own weights of the models at the places that are fewer lines deep
-- than there are models
abbrev pub WeightIsSum : Type 0
WeightIsSum =
    (design : Design) → (places : List Place) × ListsPlaces design (length design.models) places
    × (weight design ≡ sum_by (λ place. of_model own_weight (model_at design place)) places)

-- no model stands, by its name, inside a place of itself, as in a design without a circle of subckt
-- lines
abbrev pub IsNotRecursive : Design → Type 0
IsNotRecursive design =
    (outer inner : Place) (a b : Model) → inner ≢ [] → model_at design outer ≡ Some a
    → model_at design (outer ++ inner) ≡ Some b → a.name ≢ b.name

-- in a design that is not recursive each place is fewer lines deep than there are models
abbrev pub PlacesAreShallow : Type 0
PlacesAreShallow =
    (design : Design) → IsNotRecursive design → (place : Place) → IsPlace design place
    → length place < length design.models

-- in a design that is not recursive the weight is the sum of the own weights over a list that has
-- each place once
abbrev pub WeightIsSumOverAll : Type 0
WeightIsSumOverAll =
    (design : Design) → IsNotRecursive design → (places : List Place)
    × ((place : Place) → count_by (bytes_eq place) places ≡ cond
    (is_some (model_at design place)) 1 0)
    × (weight design ≡ sum_by (λ place. of_model own_weight (model_at design place)) places)

-- of two places exactly one is true: the first is before the other, they are the same, or the first
-- is after the other
pub record PlacesAreOrdered : Type 0 where
  pub one_of_three : (p q : Place) → IsBefore p q ⊎ (p ≡ q) ⊎ IsBefore q p
  pub never_itself : (p : Place) → ¬ IsBefore p p
  pub goes_on : (p q r : Place) → IsBefore p q → IsBefore q r → IsBefore p r

-- if no line names a formal with two actuals and no model stands inside a place of itself, there is
-- a list of IN names
abbrev pub InNamesAreThere : Type 0
InNamesAreThere =
    (design : Design) → NamesFormalsOnce design → IsNotRecursive design
    → (names : List Name) × IsInNames design names
