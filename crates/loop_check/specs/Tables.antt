-- What is kept by class: the node that drives it, and its first net.
use Rattle.std.specs.Prelude.{ℕ, ◌≡◌, ◌≢◌, ◌<◌, List, length, get_or, Option, None, MatchOption}
use Rattle.netlist_core.specs.declared.flat.Flat.{Flat}
use Rattle.netlist_core.specs.declared.flat.NetId.{NetId}
use Rattle.netlist_meaning.specs.Flat.{out_class, class_of, IsNetId, no_net}
use Rattle.netlist_meaning.specs.FlatOrder.{IsFirstOfClass}

-- the node that drives a class among the nodes before `count`, if one does
abbrev pub IsDriverBefore : Flat → ℕ → ℕ → Option ℕ → Type 0
IsDriverBefore flat count class found =
    MatchOption found ((b : ℕ) → b < count → out_class flat b ≢ class)
    (λ b. (b < count) × (out_class flat b ≡ class))

-- the table has the node that drives each class, if one does
abbrev pub IsTableBefore : Flat → ℕ → List (Option ℕ) → Type 0
IsTableBefore flat count table =
    (length table ≡ length flat.nets) × ((class : ℕ) → class < length flat.nets
    → IsDriverBefore flat count class (get_or table class None))

abbrev pub IsTable : Flat → List (Option ℕ) → Type 0
IsTable flat table = IsTableBefore flat (length flat.nodes) table

-- the first of the nets before `count` that is of a class, if one is
abbrev pub IsFirstBefore : Flat → ℕ → ℕ → Option ℕ → Type 0
IsFirstBefore flat count class found =
    MatchOption found ((k : ℕ) → k < count → (get_or flat.nets k no_net).class ≢ class)
    (λ n. (n < count) × ((get_or flat.nets n no_net).class ≡ class)
    × ((k : ℕ) → k < n → (get_or flat.nets k no_net).class ≢ class))

abbrev pub AreFirstsBefore : Flat → ℕ → List (Option ℕ) → Type 0
AreFirstsBefore flat count table =
    (length table ≡ length flat.nets) × ((class : ℕ) → class < length flat.nets
    → IsFirstBefore flat count class (get_or table class None))

abbrev pub AreFirsts : Flat → List (Option ℕ) → Type 0
AreFirsts flat table = AreFirstsBefore flat (length flat.nets) table

-- this is the first net of the class of a net
abbrev pub IsFirstFor : Flat → NetId → NetId → Type 0
IsFirstFor flat net first =
    (class_of flat first ≡ class_of flat net) × IsNetId flat first × IsFirstOfClass flat first

-- these are the first nets of the classes of nets
pub record AreFirstsFor (flat : Flat) (nets firsts : List NetId) : Type 0 where
  pub long : length firsts ≡ length nets
  pub each : (k : ℕ) (d : NetId) → k < length nets
      → IsFirstFor flat (get_or nets k d) (get_or firsts k d)
