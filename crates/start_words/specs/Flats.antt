-- What start words mean for a flat netlist.
use Rattle.std.specs.Prelude.{ℕ, ◌≡◌, ◌==◌, Bool, List, map, option_and_then, unwrap_or}
use Rattle.std.specs.BTreeMap as tree
use Rattle.std.specs.Bool.{then_some}
use Rattle.std.specs.List.{list_any, range_with_len}
use Rattle.std.specs.declared.cmp.Ordering.{Ordering}
use Rattle.std.specs.Ordering.{nat_cmp, ordering_then}
use Rattle.netlist_core.specs.declared.flat.FlatLatch.{FlatLatch}
use Rattle.netlist_core.specs.declared.flat.Flat.{Flat}
use Rattle.netlist_core.specs.LatchNames.{class_named, drives_class}
use Rattle.netlist_meaning.specs.Flat.{class_of}
use Rattle.start_words.specs.Words.{Latches, bit_set}

-- the class of the main model's net of each name, if that net is joined with a latch's output
abbrev pub flat_latches : Flat → Latches
flat_latches flat name =
    option_and_then (λ class. then_some
    (list_any (drives_class flat.nets class) flat.latches) class) (class_named flat.nets name)

-- the bit with which a flat latch starts in a context
abbrev pub flat_start_bit : Flat → List (List ℕ) → (context : ℕ) → FlatLatch → Bool
flat_start_bit flat words context latch =
    unwrap_or (bit_set (flat_latches flat) context (class_of flat latch.output) words)
    (latch.init == 1)

-- the bits with which all flat latches start in a context, in order
abbrev pub flat_start_bits : Flat → List (List ℕ) → (context : ℕ) → List Bool
flat_start_bits flat words context = map (flat_start_bit flat words context) flat.latches

-- the bits with which the flat latches start in each context
abbrev pub flat_starts : Flat → List (List ℕ) → (contexts : ℕ) → List (List Bool)
flat_starts flat words contexts = map (flat_start_bits flat words) (range_with_len 0 contexts)

-- the order of pairs of a context and a class
abbrev pub pair_cmp : ℕ × ℕ → ℕ × ℕ → Ordering
pair_cmp a b = ordering_then (nat_cmp a.0 b.0) (nat_cmp a.1 b.1)

-- A map has, for each context and class, the bit that the words set.
abbrev pub AreBitsSet : Latches → tree.BTreeMap (ℕ × ℕ) Bool → List (List ℕ) → Type 0
AreBitsSet latches bits words =
    (context class : ℕ) → tree.get pair_cmp bits (context, class)
    ≡ bit_set latches context class words
