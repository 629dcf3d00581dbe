-- Roots by pins.
use Rattle.std.proofs.Common.{ℕ, ◌≡◌, ◌≢◌, inl, inr, List, [], ◌∷◌, ◌++◌, Bool, true, false, cond, Option, Some, None, slice_get, find, option_and_then, option_map, unwrap_or, bytes_eq, refl, sym, ap, ◌∙◌}
use Rattle.std.proofs.lemmas.Slice.Eq.{bytes_eq-Decides}
use Rattle.std.proofs.lemmas.Option.{none-some, same_Some}
use Rattle.netlist_core.specs.declared.model.Design.{Design}
use Rattle.netlist_core.specs.declared.model.Model.{Model}
use Rattle.netlist_core.specs.declared.model.Pin.{Pin}
use Rattle.netlist_core.specs.declared.model.Subckt.{Subckt}
use Rattle.netlist_core.specs.Names.{Name}
use Rattle.netlist_meaning.specs.Places.{Place, main_model, model_placed, model_below, model_at}
use Rattle.netlist_meaning.specs.Nets.{Net, net_at, IsPinned, by_pin, reversed}
use Rattle.netlist_meaning.specs.Roots.{pin_named, actual_or_formal, out_of_line, root_below, root}
use Rattle.netlist_meaning.proofs.InNames.{root_of_top}
use Rattle.netlist_meaning.proofs.Roots.{joined_is_same_root}
use Rattle.lists.proofs.Members.{In, contains_from}
use Rattle.flat_designs.proofs.Faultless.{formals_once}
use Rattle.flat_designs.specs.Laws.{RootsAreByPins}
use Rattle.lists.proofs.Ends.{not_nil}

-- the pin that is found names the formal
is_found : (formal : Name) (pins : List Pin) (pin : Pin) → find (λ (p : Pin). bytes_eq p.formal formal) pins ≡ Some pin → In pin pins × (pin.formal ≡ formal)
is_found formal [] pin e = absurd (none-some pin e)
is_found formal (first ∷ pins) pin e = by (bytes_eq first.formal formal) refl e (is_found formal pins pin)
  where
    by : (b : Bool) → bytes_eq first.formal formal ≡ b → cond b (Some first) (find (λ (p : Pin). bytes_eq p.formal formal) pins) ≡ Some pin → (find (λ (p : Pin). bytes_eq p.formal formal) pins ≡ Some pin → In pin pins × (pin.formal ≡ formal)) → In pin (first ∷ pins) × (pin.formal ≡ formal)
    by true h e rest = (inl (sym (same_Some _ _ e)), ap (λ (p : Pin). p.formal) (sym (same_Some _ _ e)) ∙ (bytes_eq-Decides first.formal formal).0 h)
    by false h e rest = let (i, same) = rest e in (inr i, same)

-- out of a line a place that is not its own goes on
goes_on : (line : Option Subckt) (n : ℕ) (p : Place) (name : Name) → p ≢ [] → out_of_line line n p name ≡ net_at (n ∷ p) name
goes_on line n [] name some = absurd (some refl)
goes_on line n (first ∷ p) name some = refl

-- a formal that no pin names stays
stays : (design : Design) (outer : Place) (number : ℕ) (name : Name) (model : Model) → ((inner : Model) (line : Subckt) → model_below design outer model ≡ Some inner → slice_get inner.subckts number ≡ Some line → pin_named name line ≡ None)
    → root_below design (outer ++ number ∷ []) name model ≡ net_at (outer ++ number ∷ []) name
stays design [] number name model unnamed = by (model_placed design model number) ∙ ap (actual_or_formal number name) (none (slice_get model.subckts number) refl)
  where
    by : (o : Option Model) → (let inner : Net = unwrap_or (option_map (root_below design [] name) o) (net_at [] name) in out_of_line (slice_get model.subckts number) number inner.place inner.name) ≡ actual_or_formal number name (option_and_then (pin_named name) (slice_get model.subckts number))
    by None = refl
    by (Some m) = refl

    none : (o : Option Subckt) → slice_get model.subckts number ≡ o → option_and_then (pin_named name) o ≡ None
    none None e = refl
    none (Some line) e = unnamed model line refl e
stays design (n ∷ outer) number name model unnamed = by (model_placed design model n) refl (λ m h. stays design outer number name m h)
  where
    by : (o : Option Model) → model_placed design model n ≡ o
        → ((m : Model) → ((inner : Model) (line : Subckt) → model_below design outer m ≡ Some inner → slice_get inner.subckts number ≡ Some line → pin_named name line ≡ None) → root_below design (outer ++ number ∷ []) name m ≡ net_at (outer ++ number ∷ []) name)
        → (let inner : Net = unwrap_or (option_map (root_below design (outer ++ number ∷ []) name) o) (net_at (outer ++ number ∷ []) name) in out_of_line (slice_get model.subckts n) n inner.place inner.name) ≡ net_at (n ∷ (outer ++ number ∷ [])) name
    by None e rest = goes_on (slice_get model.subckts n) n (outer ++ number ∷ []) name (not_nil outer number)
    by (Some m) e rest =
        ap (λ (v : Net). out_of_line (slice_get model.subckts n) n v.place v.name) (rest m (λ inner line below is. unnamed inner line (ap (option_and_then (model_below design outer)) e ∙ below) is))
        ∙ goes_on (slice_get model.subckts n) n (outer ++ number ∷ []) name (not_nil outer number)

unpinned : (design : Design) (outer : Place) (number : ℕ) (name : Name) → ((net : Net) → ¬ IsPinned design net (net_at (outer ++ number ∷ []) name)) → root design (net_at (outer ++ number ∷ []) name) ≡ net_at (outer ++ number ∷ []) name
unpinned design outer number name free = by (main_model design) refl
  where
    none : (inner : Model) (line : Subckt) → model_at design outer ≡ Some inner → slice_get inner.subckts number ≡ Some line → (o : Option Pin) → pin_named name line ≡ o → o ≡ None
    none inner line is_inner is_line None e = refl
    none inner line is_inner is_line (Some pin) e =
        let (i, same) = is_found name line.pins pin e in
        absurd (free (net_at outer pin.actual) (record { model = inner; line = line; pin = pin; number = number; has_model = is_inner; has_line = is_line; has_pin = contains_from line.pins pin i; is_actual = refl; is_deeper = refl; is_formal = sym same }))

    by : (o : Option Model) → main_model design ≡ o → unwrap_or (option_map (root_below design (outer ++ number ∷ []) name) o) (net_at (outer ++ number ∷ []) name) ≡ net_at (outer ++ number ∷ []) name
    by None e = refl
    by (Some m) e = stays design outer number name m (λ inner line below is. none inner line (ap (option_and_then (model_below design outer)) e ∙ below) is (pin_named name line) refl)

pub roots_are_by_pins : RootsAreByPins
roots_are_by_pins design faultless = record {
  main = root_of_top design;
  pinned = λ outer inner h. (joined_is_same_root design (formals_once design faultless) inner outer).0 (reversed (by_pin h));
  unpinned = unpinned design;
}
