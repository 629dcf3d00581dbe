-- Joined nets are those of one root.
use Rattle.std.proofs.Common.{ℕ, zero, suc, ◌≡◌, ◌<◌, List, [], ◌∷◌, ◌++◌, Bool, true, false, cond, Option, Some, None, slice_get, get_or, length, find, option_and_then, option_map, unwrap_or, bytes_eq, Contains, ◌⊎◌, ◌≤◌, inl, inr, refl, sym, ap, ◌∙◌, subst, arith, append_assoc, true≢false}
use Rattle.std.proofs.lemmas.Slice.Eq.{bytes_eq-Decides}
use Rattle.std.proofs.lemmas.Option.{none-some, same_Some}
use Rattle.std.proofs.lemmas.List.{append-nil}
use Rattle.netlist_core.specs.declared.model.Design.{Design}
use Rattle.netlist_core.specs.declared.model.Model.{Model}
use Rattle.netlist_core.specs.declared.model.Subckt.{Subckt}
use Rattle.netlist_core.specs.declared.model.Pin.{Pin}
use Rattle.netlist_core.specs.Names.{Name}
use Rattle.netlist_meaning.specs.Places.{Place, main_model, model_placed, model_below, model_at}
use Rattle.netlist_meaning.specs.Nets.{Net, net_at, IsPinned, Joined, by_pin, itself, reversed, followed}
use Rattle.netlist_meaning.specs.Roots.{pin_named, actual_or_formal, out_of_line, root_below, root, NamesFormalsOnce, JoinedIsSameRoot, RootsAreNearest}
use Rattle.netlist_meaning.proofs.Names.{and_then-from}
use Rattle.netlist_meaning.proofs.Joined.{joined_gives}
use Rattle.netlist_meaning.proofs.Depth.{model_at-append}

-- a pin that is found is one of the line's, and names the formal
found_pin : (formal : Name) (pins : List Pin) (pin : Pin) → find (λ p. bytes_eq p.formal formal) pins ≡ Some pin → Contains pins pin × (pin.formal ≡ formal)
found_pin formal [] pin e = absurd (none-some pin e)
found_pin formal (first ∷ pins) pin e = by_test (bytes_eq first.formal formal) refl e (found_pin formal pins pin)
  where
    by_test : (t : Bool) → bytes_eq first.formal formal ≡ t → cond t (Some first) (find (λ p. bytes_eq p.formal formal) pins) ≡ Some pin
        → (find (λ p. bytes_eq p.formal formal) pins ≡ Some pin → Contains pins pin × (pin.formal ≡ formal)) → Contains (first ∷ pins) pin × (pin.formal ≡ formal)
    by_test true is_test e rest =
        let same : first ≡ pin = same_Some _ _ e in
        ((0, omega arith, same), ap (λ p. p.formal) (sym same) ∙ (bytes_eq-Decides first.formal formal).0 is_test)
    by_test false is_test e rest = let ((k, lt, is), is_formal) = rest e in ((suc k, omega arith, is), is_formal)

-- a formal that a pin names is found
finds_pin : (formal : Name) (pins : List Pin) (pin : Pin) → Contains pins pin → pin.formal ≡ formal → (other : Pin) × (find (λ p. bytes_eq p.formal formal) pins ≡ Some other)
finds_pin formal [] pin (k, lt, is) same = absurd (omega arith)
finds_pin formal (first ∷ pins) pin (k, lt, is) same = by_test (bytes_eq first.formal formal) refl k lt is (finds_pin formal pins pin)
  where
    by_test : (t : Bool) → bytes_eq first.formal formal ≡ t → (k : ℕ) → k < length (first ∷ pins) → get_or (first ∷ pins) k pin ≡ pin
        → (Contains pins pin → pin.formal ≡ formal → (other : Pin) × (find (λ p. bytes_eq p.formal formal) pins ≡ Some other))
        → (other : Pin) × (cond t (Some first) (find (λ p. bytes_eq p.formal formal) pins) ≡ Some other)
    by_test true is_test k lt is rest = (first, refl)
    by_test false is_test zero lt is rest = absurd (true≢false (sym ((bytes_eq-Decides first.formal formal).1 (ap (λ p. p.formal) is ∙ same)) ∙ is_test))
    by_test false is_test (suc k) lt is rest = rest (k, omega arith, is) same

-- a net inside the model at a place, seen from the main model
lifted : Place → Net → Net
lifted outer net = net_at (outer ++ net.place) net.name

-- where a net leads out of a line, it is joined with what it leads to
leads_out : (design : Design) (outer : Place) (model : Model) → model_at design outer ≡ Some model → (number : ℕ) (place : Place) (name : Name)
    → Joined design (net_at (outer ++ (number ∷ place)) name) (lifted outer (out_of_line (slice_get model.subckts number) number place name))
unfolding lifted
leads_out design outer model is_at number (first ∷ place) name = itself
leads_out design outer model is_at number [] name = by_pin_found (option_and_then (pin_named name) (slice_get model.subckts number)) refl
  where
    by_pin_found : (found : Option Pin) → option_and_then (pin_named name) (slice_get model.subckts number) ≡ found
        → Joined design (net_at (outer ++ number ∷ []) name) (lifted outer (actual_or_formal number name found))
    by_pin_found None e = itself
    by_pin_found (Some pin) e =
        let (line, is_line, is_pin) = and_then-from (pin_named name) (slice_get model.subckts number) pin e in
        let (has_pin, is_formal) = found_pin name line.pins pin is_pin in
        reversed (by_pin (record {
          model = model;
          line = line;
          pin = pin;
          number = number;
          has_model = ap (model_at design) (append-nil outer) ∙ is_at;
          has_line = is_line;
          has_pin = has_pin;
          is_actual = refl;
          is_deeper = ap (λ p. p ++ number ∷ []) (sym (append-nil outer));
          is_formal = sym is_formal;
        }))

joins_root_placed : (design : Design) (place : Place) (name : Name) (outer : Place) (model : Model) (number : ℕ) → model_at design outer ≡ Some model
    → ((inner : Place) (m : Model) → model_at design inner ≡ Some m → Joined design (net_at (inner ++ place) name) (lifted inner (root_below design place name m)))
    → (placed : Option Model) → model_placed design model number ≡ placed
    → let inner : Net = unwrap_or (option_map (root_below design place name) placed) (net_at place name) in
    Joined design (net_at (outer ++ (number ∷ place)) name) (net_at (outer ++ (number ∷ inner.place)) inner.name)
unfolding lifted
joins_root_placed design place name outer model number is_at each None is_placed = itself
joins_root_placed design place name outer model number is_at each (Some m) is_placed =
    let at_inner : model_at design (outer ++ number ∷ []) ≡ Some m =
    model_at-append design outer (number ∷ []) ∙ ap (option_and_then (model_below design (number ∷ []))) is_at ∙ ap (option_and_then (model_below design [])) is_placed in
    let inner : Net = root_below design place name m in
    subst (λ p. Joined design (net_at p name) (net_at (outer ++ (number ∷ inner.place)) inner.name)) (append_assoc outer (number ∷ []) place)
    (subst (λ p. Joined design (net_at ((outer ++ number ∷ []) ++ place) name) (net_at p inner.name)) (append_assoc outer (number ∷ []) inner.place)
    (each (outer ++ number ∷ []) m at_inner))

-- a net is joined with its root
joins_root_below : (design : Design) (place : Place) (name : Name) (outer : Place) (model : Model) → model_at design outer ≡ Some model
    → Joined design (net_at (outer ++ place) name) (lifted outer (root_below design place name model))
unfolding lifted
joins_root_below design [] name outer model is_at = itself
joins_root_below design (number ∷ place) name outer model is_at =
    let inner : Net = unwrap_or (option_map (root_below design place name) (model_placed design model number)) (net_at place name) in
    followed
    (joins_root_placed design place name outer model number is_at (joins_root_below design place name) (model_placed design model number) refl)
    (leads_out design outer model is_at number inner.place inner.name)

joins_root : (design : Design) (net : Net) → Joined design net (root design net)
unfolding lifted
joins_root design net = by_main (main_model design) refl
  where
    by_main : (main : Option Model) → main_model design ≡ main → Joined design net (unwrap_or (option_map (root_below design net.place net.name) main) net)
    by_main None is_main = itself
    by_main (Some main) is_main = joins_root_below design net.place net.name [] main (ap (option_and_then (model_below design [])) is_main)

-- the two nets of a pin have one root
same_root_below : (design : Design) (place : Place) (model inner : Model) (number : ℕ) (line : Subckt) (pin : Pin)
    → model_below design place model ≡ Some inner → slice_get inner.subckts number ≡ Some line → Contains line.pins pin
    → ((other : Pin) → Contains line.pins other → other.formal ≡ pin.formal → other.actual ≡ pin.actual)
    → root_below design (place ++ number ∷ []) pin.formal model ≡ root_below design place pin.actual model
same_root_below design [] model inner number line pin is_inner is_line has_pin once =
    ap (λ net. out_of_line (slice_get model.subckts number) number net.place net.name) (at_top (model_placed design model number))
    ∙ ap (λ o. actual_or_formal number pin.formal (option_and_then (pin_named pin.formal) o)) (ap (λ m. slice_get m.subckts number) (same_Some _ _ is_inner) ∙ is_line)
    ∙ ap (actual_or_formal number pin.formal) (finds_pin pin.formal line.pins pin has_pin refl).1
    ∙ ap (net_at []) (let (has_other, is_formal) = found_pin pin.formal line.pins _ (finds_pin pin.formal line.pins pin has_pin refl).1 in once _ has_other is_formal)
  where
    at_top : (placed : Option Model) → unwrap_or (option_map (root_below design [] pin.formal) placed) (net_at [] pin.formal) ≡ net_at [] pin.formal
    at_top None = refl
    at_top (Some m) = refl
same_root_below design (first ∷ place) model inner number line pin is_inner is_line has_pin once =
    let (m, is_placed, is_below) = and_then-from (model_below design place) (model_placed design model first) inner is_inner in
    ap (through (place ++ number ∷ []) pin.formal) is_placed
    ∙ ap (λ net. out_of_line (slice_get model.subckts first) first net.place net.name) (same_root_below design place m inner number line pin is_below is_line has_pin once)
    ∙ sym (ap (through place pin.actual) is_placed)
  where
    through : Place → Name → Option Model → Net
    through p name placed =
        let net : Net = unwrap_or (option_map (root_below design p name) placed) (net_at p name) in
        out_of_line (slice_get model.subckts first) first net.place net.name

same_root : (design : Design) → NamesFormalsOnce design → (outer inner : Net) → IsPinned design outer inner → root design outer ≡ root design inner
same_root design once outer inner h =
    let (main, is_main, is_below) = and_then-from (model_below design outer.place) (main_model design) h.model h.has_model in
    ap (λ o. unwrap_or (option_map (root_below design outer.place outer.name) o) outer) is_main
    ∙ ap (λ name. root_below design outer.place name main) h.is_actual
    ∙ sym (same_root_below design outer.place main h.model h.number h.line h.pin is_below h.has_line h.has_pin
    (λ other has_other same. once outer.place h.number h.model h.line other h.pin h.has_model h.has_line has_other h.has_pin same))
    ∙ sym (ap (λ o. unwrap_or (option_map (root_below design inner.place inner.name) o) inner) is_main
    ∙ ap (λ p. root_below design p inner.name main) h.is_deeper
    ∙ ap (λ name. root_below design (outer.place ++ h.number ∷ []) name main) h.is_formal)

pub joined_is_same_root : JoinedIsSameRoot
joined_is_same_root design once a b = (
  joined_gives design (λ x y. root design x ≡ root design y) (λ x. refl) (λ x y e. sym e) (λ x y z e f. e ∙ f) (same_root design once),
  λ e. followed (subst (λ r. Joined design a r) e (joins_root design a)) (reversed (joins_root design b)),
)

-- out of a line a net stays where it is, or comes out
out_is : (line : Option Subckt) (number : ℕ) (place : Place) (name : Name) → (net_at (number ∷ place) name ≡ out_of_line line number place name) ⊎ (length (out_of_line line number place name).place ≤ length place)
out_is line number [] name = by_pin_found (option_and_then (pin_named name) line)
  where
    by_pin_found : (found : Option Pin) → (net_at (number ∷ []) name ≡ actual_or_formal number name found) ⊎ (length (actual_or_formal number name found).place ≤ 0)
    by_pin_found None = inl refl
    by_pin_found (Some pin) = inr (omega arith)
out_is line number (first ∷ place) name = inl refl

-- a net that is not its own root lies deeper
own_root_below : (design : Design) (place : Place) (name : Name) (model : Model) → (net_at place name ≡ root_below design place name model) ⊎ (length (root_below design place name model).place < length place)
own_root_below design [] name model = inl refl
own_root_below design (number ∷ place) name model =
    elim (in_placed (own_root_below design place name) (model_placed design model number)) [
      | inl same ↦ subst Goal same stays
      | inr lt ↦ inr (comes_out inner lt)
    ]
  where
    inner : Net
    inner = unwrap_or (option_map (root_below design place name) (model_placed design model number)) (net_at place name)

    out : Net → Net
    out net = out_of_line (slice_get model.subckts number) number net.place net.name

    Goal : Net → Type 0
    Goal net = (net_at (number ∷ place) name ≡ out net) ⊎ (length (out net).place < suc (length place))

    in_placed : ((m : Model) → (net_at place name ≡ root_below design place name m) ⊎ (length (root_below design place name m).place < length place)) → (placed : Option Model)
        → let net : Net = unwrap_or (option_map (root_below design place name) placed) (net_at place name) in (net_at place name ≡ net) ⊎ (length net.place < length place)
    in_placed each None = inl refl
    in_placed each (Some m) = each m

    stays : Goal (net_at place name)
    stays = elim (out_is (slice_get model.subckts number) number place name) [
      | inl same ↦ inl same
      | inr le ↦ inr (omega arith)
    ]

    comes_out : (net : Net) → length net.place < length place → length (out net).place < suc (length place)
    comes_out net lt = elim (out_is (slice_get model.subckts number) number net.place net.name) [
      | inl same ↦ let long : length (out net).place ≡ suc (length net.place) = sym (ap (λ n. length n.place) same) in omega arith
      | inr le ↦ omega arith
    ]

own_root : (design : Design) (net : Net) → (net ≡ root design net) ⊎ (length (root design net).place < length net.place)
own_root design net = by_main (main_model design)
  where
    by_main : (main : Option Model) → let r : Net = unwrap_or (option_map (root_below design net.place net.name) main) net in (net ≡ r) ⊎ (length r.place < length net.place)
    by_main None = inl refl
    by_main (Some main) = own_root_below design net.place net.name main

pub roots_are_nearest : RootsAreNearest
roots_are_nearest design once =
    record {
      joined = joins_root design;
      nearest = λ a b h.
          let same : root design a ≡ root design b = (joined_is_same_root design once a b).0 h in
          elim (own_root design b) [
            | inl own ↦ inl (own ∙ sym same)
            | inr lt ↦ inr (let e : length (root design a).place ≡ length (root design b).place = ap (λ n. length n.place) same in omega arith)
          ];
    }
