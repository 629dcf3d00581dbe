-- Sets of names, and which names they have.
use Rattle.std.specs.Prelude.{◌≡◌, ℕ, Bool, List}
use Rattle.std.specs.BTreeSet.{BTreeSet}
use denote.Ref.{Bor}
use Rattle.lists.specs.Names.{holds_name}
use Rattle.netlist_core.specs.Names.{Name}

-- The set has the names that pass the test, and no others.
abbrev pub HasNames : BTreeSet (Bor (List ℕ)) → (Name → Bool) → Type 0
HasNames names test = (name : Name) → holds_name names name ≡ test name
