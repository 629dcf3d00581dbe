-- Circles by number are circles by name.
use Rattle.std.proofs.Common.{◌≡◌, refl, sym, ap, subst, ◌∙◌, ℕ, zero, suc, ◌<◌, ◌≤◌, inl, inr, List, [], ◌∷◌, length, map, Option, Some, None, MatchOption, slice_get, arith}
use Rattle.std.specs.Prelude.{All}
use Rattle.std.specs.Option.{option_map_or}
use Rattle.std.proofs.lemmas.Option.{none-some, same_Some, slice_get_within, get_or_from_slice_get, slice_get-get_or}
use Rattle.lists.proofs.Members.{In, Distinct, is_distinct}
use Rattle.netlist_core.specs.declared.model.Model.{Model}
use Rattle.netlist_core.specs.declared.model.Subckt.{Subckt}
use Rattle.netlist_core.specs.Names.{Name, model_named}
use Rattle.netlist_rules.specs.Circles.{HasSubcktOf, Leads, LeadsBack, IsOnCircle, IsCircleFault}
use Rattle.netlist_rules.specs.declared.fault.Fault.{Fault}
use Rattle.model_index.specs.ByName.{IsNumberOf}
use Rattle.model_index.specs.Numbers.{first_named, name_at, subckts_of, Places, PlacesSomewhere, LeadsBy}
use Rattle.model_index.proofs.Naming.{numbered, number_named, name_is, placing, placed_named, number_within, leads_named, places_by}
use Rattle.model_circles.specs.declared.circle.Circle.{Circle}
use Rattle.model_circles.specs.Earliest.{IsCircle, IsCircleIfAny, IsFaultOf, IsNoLater, IsEarliestCircle}
use Rattle.model_circles.specs.Ways.{LeadsBackBy, Stands, AreDifferent, LiesOnCircle}

-- each is the first of its name
abbrev AreNumbers : List Model → List ℕ → Type 0
AreNumbers models [] = Unit {0}
AreNumbers models (n ∷ ns) = IsNumberOf models (name_at models n) n × AreNumbers models ns

-- those that are led through, and the one led to
led_numbers : (models : List Model) (x : ℕ) (numbers : List ℕ) (end : ℕ) → LeadsBy models x numbers end → AreNumbers models numbers × IsNumberOf models (name_at models end) end
led_numbers models x [] end (k, e) = (tt, placed_named models x k end e)
led_numbers models x (next ∷ numbers) end ((k, e), rest) = let (are, is) = led_numbers models next numbers end rest in ((placed_named models x k next e, are), is)

led_back : (models : List Model) (n k inner : ℕ) (numbers : List ℕ) (end : ℕ) → Places models n k inner → LeadsBackBy models inner numbers end → AreNumbers models (end ∷ numbers)
led_back models n k inner [] end p e = (subst (λ v. IsNumberOf models (name_at models v) v) e (placed_named models n k inner p), tt)
led_back models n k inner (next ∷ numbers) end p (e, rest) =
    let (are, is) = led_numbers models next numbers end rest in
    (is, (subst (λ v. IsNumberOf models (name_at models v) v) e (placed_named models n k inner p), are))

number_stands : (models : List Model) (n : ℕ) (numbers : List ℕ) → IsNumberOf models (name_at models n) n → AreNumbers models numbers → In (name_at models n) (map (name_at models) numbers) → Stands n numbers
number_stands models n [] is are i = i
number_stands models n (m ∷ ms) is are (inl e) = inl (same_number models n m is are.0 e)
  where
    same_number : (models : List Model) (n m : ℕ) → IsNumberOf models (name_at models n) n → IsNumberOf models (name_at models m) m → name_at models n ≡ name_at models m → n ≡ m
    same_number models n m a b e = same_Some n m (sym (number_named models (name_at models n) n a) ∙ ap (first_named models) e ∙ number_named models (name_at models m) m b)
number_stands models n (m ∷ ms) is are (inr i) = inr (number_stands models n ms is are.1 i)

names_apart : (models : List Model) (numbers : List ℕ) → AreNumbers models numbers → AreDifferent numbers → Distinct (map (name_at models) numbers)
names_apart models [] are apart = tt
names_apart models (n ∷ ns) are apart = ((λ i. apart.0 (number_stands models n ns are.0 are.1 i)), names_apart models ns are.1 apart.1)

-- a circle by number
pub on_circle : (models : List Model) (circle : Circle) → IsCircle models circle → IsOnCircle models circle.line (map (name_at models) (circle.first ∷ circle.others))
on_circle models circle c =
    let are : AreNumbers models (circle.first ∷ circle.others) = led_back models circle.first c.k c.inner circle.others circle.first c.placed c.way.leads in
    let is : IsNumberOf models (name_at models circle.first) circle.first = are.0 in
    let named : name_at models circle.first ≡ is.model.name = ap (λ o. option_map_or (λ (m : Model). m.name) o []) is.is_there in
    let lines : subckts_of models circle.first ≡ is.model.subckts = ap (λ o. option_map_or (λ (m : Model). m.subckts) o []) is.is_there in
    let at : slice_get is.model.subckts c.k ≡ Some c.subckt = subst (λ v. slice_get v c.k ≡ Some c.subckt) lines c.is_line in
    let p = placing models circle.first c.k c.inner c.placed in
    let same : c.subckt ≡ p.line = same_Some c.subckt p.line (sym c.is_line ∙ p.is_line) in
    record {
      model = is.model;
      is_model = subst (λ v. model_named models v ≡ Some is.model) named is.is_named;
      subckt = c.subckt;
      is_subckt = (c.k, slice_get_within is.model.subckts c.k c.subckt at, get_or_from_slice_get is.model.subckts c.k c.subckt c.subckt at);
      at_the_line = c.at_the_line;
      others = map (name_at models) circle.others;
      begins = ap (λ v. v ∷ map (name_at models) circle.others) named;
      leads_back = subst (λ v. LeadsBack models v (map (name_at models) circle.others) is.model.name) (name_is models p.line.model c.inner p.is_number ∙ ap (λ (s : Subckt). s.model) (sym same))
          (subst (λ v. LeadsBack models (name_at models c.inner) (map (name_at models) circle.others) v) named (back c.inner circle.others circle.first (placed_named models circle.first c.k c.inner c.placed) c.way.leads));
      is_simple = is_distinct (map (name_at models) (circle.first ∷ circle.others)) (names_apart models (circle.first ∷ circle.others) are c.way.apart);
    }
  where
    back : (inner : ℕ) (numbers : List ℕ) (end : ℕ) → IsNumberOf models (name_at models inner) inner → LeadsBackBy models inner numbers end → LeadsBack models (name_at models inner) (map (name_at models) numbers) (name_at models end)
    back inner [] end is e = ap (name_at models) e
    back inner (next ∷ numbers) end is (e, rest) = (ap (name_at models) e, leads_named models (name_at models next) next numbers end (subst (λ v. IsNumberOf models (name_at models v) v) e is) rest)

-- a name that finds a model has a number
record HasNumber (models : List Model) (name : Name) (m : Model) : Type 0 where
  pub n : ℕ
  pub is : first_named models name ≡ Some n
  pub there : slice_get models n ≡ Some m

has_number : (models : List Model) (name : Name) (m : Model) → model_named models name ≡ Some m → HasNumber models name m
has_number models name m e = by (first_named models name) refl (numbered models name)
  where
    by : (o : Option ℕ) → first_named models name ≡ o → MatchOption o (model_named models name ≡ None) (IsNumberOf models name) → HasNumber models name m
    by None is none = absurd (none-some m (sym none ∙ e))
    by (Some n) is number = let same : number.model ≡ m = same_Some number.model m (sym number.is_named ∙ e) in record { n = n; is = is; there = number.is_there ∙ ap Some same }

-- a step by names is one by numbers
step_numbered : (models : List Model) (a b : Name) (x y : ℕ) → HasSubcktOf models a b → first_named models a ≡ Some x → first_named models b ≡ Some y → PlacesSomewhere models x y
step_numbered models a b x y p e f =
    let h = has_number models a p.model p.is_model in
    let same : h.n ≡ x = same_Some h.n x (sym h.is ∙ e) in
    let (k, l, at) = p.is_line in
    (k, subst (λ v. Places models v k y) same (places_by models h.n k y p.model p.subckt h.there (slice_get-get_or p.model.subckts k p.subckt l ∙ ap Some at) (ap (first_named models) p.names_other ∙ f)))

leads_numbered : (models : List Model) (a : Name) (names : List Name) (b : Name) (x y : ℕ) → Leads models a names b → first_named models a ≡ Some x → first_named models b ≡ Some y → (numbers : List ℕ) × LeadsBy models x numbers y
leads_numbered models a [] b x y p e f = ([], step_numbered models a b x y p e f)
leads_numbered models a (next ∷ names) b x y (p, rest) e f =
    let (m, is_m) = leads_from next names rest in
    let h = has_number models next m is_m in
    let (numbers, more) = leads_numbered models next names b h.n y rest h.is f in
    (h.n ∷ numbers, (step_numbered models a next x h.n p e h.is, more))
  where
    leads_from : (a : Name) (names : List Name) → Leads models a names b → (m : Model) × (model_named models a ≡ Some m)
    leads_from a [] p = (p.model, p.is_model)
    leads_from a (next ∷ names) (p, rest) = (p.model, p.is_model)

-- a circle by name, by the numbers of its line
pub record IsOnCircleBy (models : List Model) (line : ℕ) : Type 0 where
  pub n : ℕ
  pub k : ℕ
  pub within : n < length models
  pub subckt : Subckt
  pub is_line : slice_get (subckts_of models n) k ≡ Some subckt
  pub at_the_line : subckt.line ≡ line
  pub lies : LiesOnCircle models n k

pub circle_numbered : (models : List Model) (line : ℕ) (names : List Name) → IsOnCircle models line names → IsOnCircleBy models line
circle_numbered models line names c =
    let h = has_number models c.model.name c.model c.is_model in
    let (k, l, at) = c.is_subckt in
    let is_line : slice_get c.model.subckts k ≡ Some c.subckt = slice_get-get_or c.model.subckts k c.subckt l ∙ ap Some at in
    let lines : subckts_of models h.n ≡ c.model.subckts = ap (λ o. option_map_or (λ (m : Model). m.subckts) o []) h.there in
    record {
      n = h.n;
      k = k;
      within = slice_get_within models h.n c.model h.there;
      subckt = c.subckt;
      is_line = subst (λ v. slice_get v k ≡ Some c.subckt) (sym lines) is_line;
      at_the_line = c.at_the_line;
      lies = lies h.n k h.is h.there is_line c.others c.leads_back;
    }
  where
    lies : (n k : ℕ) → first_named models c.model.name ≡ Some n → slice_get models n ≡ Some c.model → slice_get c.model.subckts k ≡ Some c.subckt → (others : List Name) → LeadsBack models c.subckt.model others c.model.name → LiesOnCircle models n k
    lies n k is there is_line [] e = record {
      inner = n;
      placed = places_by models n k n c.model c.subckt there is_line (ap (first_named models) e ∙ is);
      numbers = [];
      leads = refl;
    }
    lies n k is there is_line (next ∷ names) (e, rest) =
        let (m, is_m) = leads_from next names rest in
        let h = has_number models next m is_m in
        let (numbers, more) = leads_numbered models next names c.model.name h.n n rest h.is is in
        record {
          inner = h.n;
          placed = places_by models n k h.n c.model c.subckt there is_line (ap (first_named models) e ∙ h.is);
          numbers = h.n ∷ numbers;
          leads = (refl, more);
        }
      where
        leads_from : (a : Name) (names : List Name) → Leads models a names c.model.name → (m : Model) × (model_named models a ≡ Some m)
        leads_from a [] p = (p.model, p.is_model)
        leads_from a (next ∷ names) (p, rest) = (p.model, p.is_model)

numbers_within : (models : List Model) (numbers : List ℕ) → AreNumbers models numbers → All (λ n. n < length models) numbers
numbers_within models [] are i d l = absurd (omega arith)
numbers_within models (n ∷ ns) are zero d l = number_within models (name_at models n) n are.0
numbers_within models (n ∷ ns) are (suc i) d l = numbers_within models ns are.1 i d (omega arith)

pub others_within : (models : List Model) (circle : Circle) → IsCircle models circle → All (λ n. n < length models) circle.others
others_within models circle c = numbers_within models circle.others (led_back models circle.first c.k c.inner circle.others circle.first c.placed c.way.leads).1

-- an earliest circle stands on no later line than any
pub no_later : (models : List Model) (best : Option Circle) → IsEarliestCircle models best → (line : ℕ) (names : List Name) → IsOnCircle models line names → IsNoLater best line
no_later models best e line names c =
    let b = circle_numbered models line names c in
    subst (λ v. IsNoLater best v) b.at_the_line (e.models_before b.n b.k b.within b.subckt b.is_line b.lies)

pub is_fault : (models : List Model) (best : Option Circle) (circle : Circle) (fault : Fault) → IsEarliestCircle models best → best ≡ Some circle → IsFaultOf models circle fault → IsCircleFault models fault
is_fault models best circle fault e is f =
    let c : IsCircle models circle = subst (λ o. IsCircleIfAny models o) is e.is_circle in
    record {
      kind = f.kind;
      names = map (name_at models) (circle.first ∷ circle.others);
      circle = subst (λ v. IsOnCircle models v (map (name_at models) (circle.first ∷ circle.others))) (sym f.line) (on_circle models circle c);
      word = f.word;
      is_earliest = λ line names d. subst (λ v. v ≤ line) (sym f.line) (subst (λ o. IsNoLater o line) is (no_later models best e line names d));
    }
