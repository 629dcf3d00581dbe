-- Names, as bytes, among other names.
use Rattle.std.specs.Prelude.{ℕ, Bool, List}
use Rattle.std.specs.List.{list_any}
use Rattle.std.specs.Str.{bytes_eq}
use Rattle.std.specs.BTreeSet.{BTreeSet, contains_by}
use Rattle.std.specs.Cmp.Lexicographic.{slice_cmp}
use Rattle.std.specs.Ordering.{nat_cmp}
use denote.Ref.{Bor}

-- is the name one of these?
abbrev pub is_among : List ℕ → List (List ℕ) → Bool
is_among name names = list_any (bytes_eq name) names

-- whether a set of names has this name
abbrev pub holds_name : BTreeSet (Bor (List ℕ)) → List ℕ → Bool
holds_name names name = contains_by (λ k. slice_cmp nat_cmp name k.now) names
