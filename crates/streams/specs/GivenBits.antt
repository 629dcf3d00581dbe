-- The names of inputs in a set, and the bits that words give them in a map.
use Rattle.std.specs.Prelude.{◌≡◌, ℕ, List}
use Rattle.std.specs.BTreeMap as map
use Rattle.std.specs.BTreeSet as set
use Rattle.std.specs.Cmp.Lexicographic.{slice_cmp}
use Rattle.std.specs.Option.{option_copied}
use Rattle.std.specs.declared.cmp.Ordering.{Ordering}
use Rattle.std.specs.Ordering.{nat_cmp, ordering_then}
use denote.Ref.{Bor}
use Rattle.lists.specs.Names.{is_among}
use Rattle.streams.specs.Streams.{bits_for}

-- A set has these names, and no others.
abbrev pub AreNamesOf : set.BTreeSet (Bor (List ℕ)) → List (List ℕ) → Type 0
AreNamesOf known names =
    (name : List ℕ) → set.contains_by (λ k. slice_cmp nat_cmp name k.now) known
    ≡ is_among name names

-- inputs are ordered by their contexts, and in a context by the bytes of their names
abbrev pub input_cmp : ℕ × Bor (List ℕ) → ℕ × Bor (List ℕ) → Ordering
input_cmp a b = ordering_then (nat_cmp a.0 b.0) (slice_cmp nat_cmp a.1.now b.1.now)

-- A map has, for each input, the bits of the first of these words that is for it.
abbrev pub AreBitsOf : (contexts : ℕ) → map.BTreeMap (ℕ × Bor (List ℕ)) (Bor (List ℕ))
    → List (List ℕ) → Type 0
AreBitsOf contexts bits words =
    (input : ℕ × Bor (List ℕ)) → option_copied (map.get input_cmp bits input)
    ≡ bits_for contexts words (input.0, input.1.now)
