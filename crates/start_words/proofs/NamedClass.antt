-- The class of the output of the latch that a name names.
use Rattle.std.proofs.Common.{ℕ, ◌≡◌, ◌==◌, ◌<◌, Bool, true, false, Option, Some, None, slice_get, get_or, length, option_and_then, refl, sym, ap, ◌∙◌, true≢false}
use Rattle.std.specs.Bool.{then_some}
use Rattle.std.specs.List.{list_any, position}
use Rattle.std.specs.Option.{option_map_or}
use Rattle.std.proofs.lemmas.Bool.{eqb-true}
use Rattle.std.proofs.lemmas.List.Folds.{list_any_at}
use Rattle.std.proofs.lemmas.List.Quantifiers.{position-Some}
use Rattle.std.proofs.lemmas.Option.{get_or_from_slice_get}
use Rattle.lists.proofs.Members.{passes_at}
use Rattle.netlist_core.specs.declared.flat.Flat.{Flat}
use Rattle.netlist_core.specs.declared.flat.FlatLatch.{FlatLatch}
use Rattle.netlist_core.specs.declared.flat.Net.{Net as FlatNet}
use Rattle.netlist_core.specs.Names.{Name}
use Rattle.netlist_core.specs.LatchNames.{class_named, drives_class, latch_named}
use Rattle.netlist_meaning.specs.Flat.{class_of, no_net}
use Rattle.start_words.specs.Flats.{flat_latches}
use Rattle.start_words.proofs.Named.{not_nowhere}

-- a latch that drives a class has it
drives_own : (flat : Flat) (class : ℕ) (latch : FlatLatch) → drives_class flat.nets class latch ≡ true → class_of flat latch.output ≡ class
drives_own flat class latch e = by (slice_get flat.nets latch.output.0) refl e
  where
    by : (o : Option FlatNet) → slice_get flat.nets latch.output.0 ≡ o → option_map_or (λ net. net.class == class) o false ≡ true → class_of flat latch.output ≡ class
    by None is e = absurd (true≢false (sym e))
    by (Some net) is e = ap (λ (n : FlatNet). n.class) (get_or_from_slice_get flat.nets latch.output.0 net no_net is) ∙ eqb-true net.class class e

pub named_class : (flat : Flat) (name : Name) (i : ℕ) (d : FlatLatch) → latch_named flat name ≡ Some i → (i < length flat.latches) × (flat_latches flat name ≡ Some (class_of flat (get_or flat.latches i d).output))
named_class flat name i d e = by (class_named flat.nets name) e
  where
    by : (o : Option ℕ) → option_and_then (λ class. position (drives_class flat.nets class) flat.latches) o ≡ Some i
        → (i < length flat.latches) × (option_and_then (λ class. then_some (list_any (drives_class flat.nets class) flat.latches) class) o ≡ Some (class_of flat (get_or flat.latches i d).output))
    by None e = cc
    by (Some class) e =
        let (less, passes, _) = position-Some (drives_class flat.nets class) flat.latches i d e in (
          less,
          ap (λ (b : Bool). then_some b class) (list_any_at (drives_class flat.nets class) flat.latches i d less passes)
              ∙ ap (λ (c : ℕ). Some c) (sym (drives_own flat class (get_or flat.latches i d) passes)),
        )

pub named_none : (flat : Flat) (name : Name) → latch_named flat name ≡ None → flat_latches flat name ≡ None
named_none flat name e = by (class_named flat.nets name) e
  where
    by : (o : Option ℕ) → option_and_then (λ class. position (drives_class flat.nets class) flat.latches) o ≡ None
        → option_and_then (λ class. then_some (list_any (drives_class flat.nets class) flat.latches) class) o ≡ None
    by None e = refl
    by (Some class) e = at (list_any (drives_class flat.nets class) flat.latches) refl
      where
        at : (b : Bool) → list_any (drives_class flat.nets class) flat.latches ≡ b → then_some b class ≡ None
        at false is = refl
        at true is =
            let (latch, i, passes) = passes_at (drives_class flat.nets class) flat.latches is in
            absurd (not_nowhere (drives_class flat.nets class) flat.latches latch i passes e)
