-- What a subckt line that names a model has, by numbers and by names.
use Rattle.std.proofs.Common.{◌⊎◌, inl, inr, true, true≢false, ◌≡◌, refl, sym, ap, subst, ◌∙◌, ℕ, ◌<◌, ◌≤◌, List, [], ◌∷◌, length, map, Option, Some, None, MatchOption, slice_get, option_and_then, position, get_or}
use Rattle.std.specs.Prelude.{IfSome}
use Rattle.std.specs.Option.{option_map_or}
use Rattle.std.proofs.lemmas.Option.{none-some, slice_get_within, get_or_from_slice_get, slice_get_read, slice_get_past}
use Rattle.std.proofs.lemmas.Slice.Eq.{bytes_eq-Decides}
use Rattle.std.proofs.lemmas.Bool.{cases_order}
use Rattle.netlist_core.specs.declared.model.Model.{Model}
use Rattle.netlist_core.specs.declared.model.Subckt.{Subckt}
use Rattle.netlist_core.specs.Names.{Name, is_model_named, model_named}
use Rattle.model_index.specs.ByName.{IsNumberOf}
use Rattle.model_index.proofs.Numbered.{number_found}
use Rattle.netlist_rules.specs.Circles.{HasSubcktOf, Leads}
use Rattle.netlist_rules.proofs.ModelSteps.{model_of_name}
use Rattle.model_index.specs.Numbers.{first_named, name_at, subckts_of, number_placed, Places, PlacesSomewhere, LeadsBy}

-- a name finds no model, or the first of that name has a number
pub numbered : (models : List Model) (name : Name) → MatchOption (first_named models name) (model_named models name ≡ None) (IsNumberOf models name)
unfolding first_named
numbered models name = number_found models name

-- the first model of a name has a number, and the name
pub number_of : (models : List Model) (name : Name) (n : ℕ) → first_named models name ≡ Some n → IsNumberOf models name n
unfolding first_named
number_of models name n e = subst (λ o. MatchOption o (model_named models name ≡ None) (IsNumberOf models name)) e (number_found models name)

pub number_within : (models : List Model) (name : Name) (n : ℕ) → IsNumberOf models name n → n < length models
number_within models name n is = slice_get_within models n is.model is.is_there

pub name_is : (models : List Model) (name : Name) (n : ℕ) → IsNumberOf models name n → name_at models n ≡ name
name_is models name n is = ap (λ o. option_map_or (λ (m : Model). m.name) o []) is.is_there ∙ (model_of_name models name is.model is.is_named).1

-- a line that places a model
pub record IsPlacing (models : List Model) (n k inner : ℕ) : Type 0 where
  pub line : Subckt
  pub is_line : slice_get (subckts_of models n) k ≡ Some line
  pub is_number : IsNumberOf models line.model inner

pub placing : (models : List Model) (n k inner : ℕ) → Places models n k inner → IsPlacing models n k inner
unfolding number_placed
placing models n k inner e = by (slice_get (subckts_of models n) k) refl e
  where
    by : (o : Option Subckt) → slice_get (subckts_of models n) k ≡ o → option_and_then (λ line. first_named models line.model) o ≡ Some inner → IsPlacing models n k inner
    by None is f = absurd (none-some inner f)
    by (Some line) is f = record { line = line; is_line = is; is_number = number_of models line.model inner f }

pub placed_within : (models : List Model) (n k inner : ℕ) → Places models n k inner → inner < length models
placed_within models n k inner e = let p = placing models n k inner e in number_within models p.line.model inner p.is_number

pub line_within : (models : List Model) (n k inner : ℕ) → Places models n k inner → k < length (subckts_of models n)
line_within models n k inner e = let p = placing models n k inner e in slice_get_within (subckts_of models n) k p.line p.is_line

-- what a line places is the first of its own name
pub placed_named : (models : List Model) (n k inner : ℕ) → Places models n k inner → IsNumberOf models (name_at models inner) inner
placed_named models n k inner e =
    let p = placing models n k inner e in
    subst (λ v. IsNumberOf models v inner) (sym (name_is models p.line.model inner p.is_number)) p.is_number

-- a step by numbers is one by names
pub step_named : (models : List Model) (name : Name) (n inner : ℕ) → IsNumberOf models name n → PlacesSomewhere models n inner → HasSubcktOf models name (name_at models inner)
step_named models name n inner is (k, e) =
    let p = placing models n k inner e in
    let lines : subckts_of models n ≡ is.model.subckts = ap (λ o. option_map_or (λ (m : Model). m.subckts) o []) is.is_there in
    let at : slice_get is.model.subckts k ≡ Some p.line = subst (λ v. slice_get v k ≡ Some p.line) lines p.is_line in
    record {
      model = is.model;
      is_model = is.is_named;
      subckt = p.line;
      is_line = (k, slice_get_within is.model.subckts k p.line at, get_or_from_slice_get is.model.subckts k p.line p.line at);
      names_other = sym (name_is models p.line.model inner p.is_number);
    }

pub leads_named : (models : List Model) (name : Name) (n : ℕ) (numbers : List ℕ) (end : ℕ) → IsNumberOf models name n → LeadsBy models n numbers end → Leads models name (map (name_at models) numbers) (name_at models end)
leads_named models name n [] end is s = step_named models name n end is s
leads_named models name n (next ∷ numbers) end is ((k, e), rest) =
    (step_named models name n next is (k, e), leads_named models (name_at models next) next numbers end (placed_named models n k next e) rest)

-- the lines of a model that was read
pub lines_at : (models : List Model) (n : ℕ) (m : Model) → n < length models → m ≡ get_or models n m → subckts_of models n ≡ m.subckts
lines_at models n m l e = ap (λ o. option_map_or (λ (m : Model). m.subckts) o []) (slice_get_read models (length models) n m refl l e)

pub no_model : (models : List Model) (n k : ℕ) → length models ≤ n → number_placed models n k ≡ None
unfolding number_placed
no_model models n k past = ap (λ o. option_and_then (λ (line : Subckt). first_named models line.model) (slice_get (option_map_or (λ (m : Model). m.subckts) o []) k)) (slice_get_past models n past)

pub no_line : (models : List Model) (n k : ℕ) (m : Model) → n < length models → m ≡ get_or models n m → length m.subckts ≤ k → number_placed models n k ≡ None
unfolding number_placed
no_line models n k m l e past = ap (λ (lines : List Subckt). option_and_then (λ (line : Subckt). first_named models line.model) (slice_get lines k)) (lines_at models n m l e) ∙ ap (option_and_then (λ (line : Subckt). first_named models line.model)) (slice_get_past m.subckts k past)

pub line_placed : (models : List Model) (n k : ℕ) (m : Model) (line : Subckt) → n < length models → m ≡ get_or models n m → k < length m.subckts → line ≡ get_or m.subckts k line → number_placed models n k ≡ position (is_model_named line.model) models
unfolding number_placed first_named
line_placed models n k m line l e below is =
    ap (λ (lines : List Subckt). option_and_then (λ (line : Subckt). first_named models line.model) (slice_get lines k)) (lines_at models n m l e)
    ∙ ap (option_and_then (λ (line : Subckt). first_named models line.model)) (slice_get_read m.subckts (length m.subckts) k line refl below is)

-- the number of the first model of a name is below that of all
pub found_within : (models : List Model) (name : Name) → IfSome (position (is_model_named name) models) (λ n. n < length models)
found_within models name = by (position (is_model_named name) models) (number_found models name)
  where
    by : (o : Option ℕ) → MatchOption o (model_named models name ≡ None) (IsNumberOf models name) → IfSome o (λ n. n < length models)
    by None f = tt
    by (Some n) f = number_within models name n f

-- the number of a name is found by it
pub number_named : (models : List Model) (name : Name) (n : ℕ) → IsNumberOf models name n → first_named models name ≡ Some n
unfolding first_named
number_named models name n is = by (position (is_model_named name) models) refl (number_found models name)
  where
    by : (o : Option ℕ) → position (is_model_named name) models ≡ o → MatchOption o (model_named models name ≡ None) (IsNumberOf models name) → position (is_model_named name) models ≡ Some n
    by None e none = absurd (none-some is.model (sym none ∙ is.is_named))
    by (Some m) e number = e ∙ ap Some (same number (cases_order m n))
      where
        has_it : (n : ℕ) (is : IsNumberOf models name n) → is_model_named name is.model ≡ true
        has_it n is = (bytes_eq-Decides is.model.name name).1 (model_of_name models name is.model is.is_named).1

        same : IsNumberOf models name m → (m ≡ n) ⊎ ((m < n) ⊎ (n < m)) → m ≡ n
        same number (inr (inl less)) = absurd (true≢false (sym (has_it m number) ∙ is.is_first m number.model less number.is_there))
        same number (inr (inr more)) = absurd (true≢false (sym (has_it n is) ∙ number.is_first n is.model more is.is_there))
        same number (inl e) = e

pub places_by : (models : List Model) (n k inner : ℕ) (m : Model) (line : Subckt) → slice_get models n ≡ Some m → slice_get m.subckts k ≡ Some line → first_named models line.model ≡ Some inner → Places models n k inner
unfolding number_placed
places_by models n k inner m line there at e =
    ap (λ o. option_and_then (λ (line : Subckt). first_named models line.model) (slice_get (option_map_or (λ (m : Model). m.subckts) o []) k)) there
    ∙ ap (option_and_then (λ (line : Subckt). first_named models line.model)) at ∙ e

pub name_read : (models : List Model) (n : ℕ) (m : Model) → n < length models → m ≡ get_or models n m → m.name ≡ name_at models n
name_read models n m l e = sym (ap (λ o. option_map_or (λ (m : Model). m.name) o []) (slice_get_read models (length models) n m refl l e))
