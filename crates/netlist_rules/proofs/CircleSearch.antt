-- Models either have an earliest subckt line on a circle, or no circle.
use Rattle.std.proofs.Common.{◌≡◌, ◌≢◌, refl, sym, ap, subst, ◌∙◌, ℕ, ◌≤◌, ◌⊎◌, inl, inr, List, [], ◌∷◌, ◌++◌, map, Bool, true, false, ◌&&◌, ◌||◌, true≢false, arith}
use Rattle.std.specs.Prelude.{Some, None, Option, filter_map, bytes_eq, flat_map}
use Rattle.std.specs.Option.{option_map_or}
use Rattle.std.specs.List.{list_any, join_with_byte}
use Rattle.std.proofs.lemmas.Bool.{and_from as both, or_cases as one, or_left, or_right, cases_lt}
use Rattle.std.proofs.lemmas.Slice.Eq.{bytes_eq-Decides}
use Rattle.netlist_core.specs.declared.model.Subckt.{Subckt}
use Rattle.netlist_core.specs.declared.model.Model.{Model}
use Rattle.netlist_rules.specs.declared.fault.Fault.{Fault}
use Rattle.netlist_rules.specs.declared.fault.FaultKind.TheVariants.{Recursive}
use Rattle.netlist_rules.specs.FaultNames.{fault_on}
use Rattle.netlist_core.specs.Names.{model_named}
use Rattle.netlist_rules.specs.Circles.{HasSubcktOf, Leads, LeadsBack, IsOnCircle, IsCircleFault}
use Rattle.netlist_rules.proofs.CircleLemmas.{names}
use Rattle.lists.proofs.Members.{passes_somewhere, in_filtered, filtered_in, In, in_from, contains_from, in_left, in_right, in_map, in_mapped, in_flat, in_flattened, is_in, Distinct, distinct_from, is_distinct, passes_at as found_in}
use Rattle.netlist_rules.proofs.ModelSteps.{leaves, circle_model, model_of_name}
use Rattle.lists.proofs.Bools.{and_true_left as left, and_true_right as right}

-- whether the model of a name places another, and whether it leads to it by way of these names
abbrev pub has_line_of : List ℕ → Model → Bool
has_line_of b m = list_any (names b) m.subckts

abbrev pub places_now : List Model → List ℕ → List ℕ → Bool
places_now models a b = option_map_or (has_line_of b) (model_named models a) false

abbrev pub reach : List Model → List (List ℕ) → List ℕ → List ℕ → Bool
reach models [] a b = places_now models a b
reach models (v ∷ vs) a b = reach models vs a b || (reach models vs a v && reach models vs v b)

places_if : (models : List Model) (a b : List ℕ) → places_now models a b ≡ true → HasSubcktOf models a b
places_if models a b e = by (model_named models a) refl e
  where
    by : (o : Option Model) → model_named models a ≡ o → option_map_or (has_line_of b) o false ≡ true → HasSubcktOf models a b
    by None h d = absurd (true≢false (sym d))
    by (Some m) h d =
        let s : (s : Subckt) × In s m.subckts × (names b s ≡ true) = found_in (names b) m.subckts d in
        record { model = m; is_model = h; subckt = s.0; is_line = contains_from m.subckts s.0 s.1; names_other = (bytes_eq-Decides s.0.model b).0 s.2 }

if_places : (models : List Model) (a b : List ℕ) → HasSubcktOf models a b → places_now models a b ≡ true
if_places models a b p = ap (λ o. option_map_or (has_line_of b) o false) p.is_model ∙ passes_somewhere (names b) p.model.subckts p.subckt p.is_line ((bytes_eq-Decides p.subckt.model b).1 p.names_other)

leads_on : (models : List Model) (a : List ℕ) (xs : List (List ℕ)) (v : List ℕ) (ys : List (List ℕ)) (b : List ℕ) → Leads models a xs v → Leads models v ys b → Leads models a (xs ++ v ∷ ys) b
leads_on models a [] v ys b p q = (p, q)
leads_on models a (x ∷ xs) v ys b p q = (p.0, leads_on models x xs v ys b p.1 q)

leads_cut : (models : List Model) (a : List ℕ) (xs : List (List ℕ)) (v : List ℕ) (ys : List (List ℕ)) (b : List ℕ) → Leads models a (xs ++ v ∷ ys) b → Leads models a xs v × Leads models v ys b
leads_cut models a [] v ys b p = (p.0, p.1)
leads_cut models a (x ∷ xs) v ys b p = let r = leads_cut models x xs v ys b p.1 in ((p.0, r.0), r.1)

-- what is reached is led to
reached : (models : List Model) (vs : List (List ℕ)) (a b : List ℕ) → reach models vs a b ≡ true → (xs : List (List ℕ)) × Leads models a xs b
reached models [] a b e = ([], places_if models a b e)
reached models (v ∷ vs) a b e = elim (one (reach models vs a b) (reach models vs a v && reach models vs v b) e) as (λ _. (xs : List (List ℕ)) × Leads models a xs b) [
  | inl h ↦ reached models vs a b h
  | inr h ↦ let r : (xs : List (List ℕ)) × Leads models a xs v = reached models vs a v (left _ _ h) in
      let s : (ys : List (List ℕ)) × Leads models v ys b = reached models vs v b (right _ _ h) in
      (r.0 ++ v ∷ s.0, leads_on models a r.0 v s.0 b r.1 s.1)
]

-- a list with a word in it is cut there
cut_at : (v : List ℕ) (xs : List (List ℕ)) → In v xs → (front : List (List ℕ)) × (back : List (List ℕ)) × (xs ≡ front ++ v ∷ back)
cut_at v [] i = absurd i
cut_at v (x ∷ xs) (inl e) = ([], xs, ap (λ u. u ∷ xs) (sym e))
cut_at v (x ∷ xs) (inr i) = let r = cut_at v xs i in (x ∷ r.0, r.1, ap (λ u. x ∷ u) r.2)

distinct_cut : (front : List (List ℕ)) (v : List ℕ) (back : List (List ℕ)) → Distinct (front ++ v ∷ back) → Distinct front × Distinct back × ¬ (In v front) × ¬ (In v back)
distinct_cut [] v back d = (tt, d.1, λ i. i, d.0)
distinct_cut (x ∷ xs) v back d =
    let r = distinct_cut xs v back d.1 in
    ((λ i. d.0 (in_left xs (v ∷ back) x i), r.0), r.1, λ i. elim i as (λ _. ⊥) [ inl e ↦ d.0 (in_right xs (v ∷ back) x (inl (sym e))) | inr j ↦ r.2 j ], r.3)

narrowed : (vs : List (List ℕ)) (v : List ℕ) (xs : List (List ℕ)) → ¬ (In v xs) → ((x : List ℕ) → In x xs → In x (v ∷ vs)) → (x : List ℕ) → In x xs → In x vs
narrowed vs v xs n all x i = elim (all x i) as (λ _. In x vs) [ inl e ↦ absurd (n (subst (λ u. In u xs) e i)) | inr j ↦ j ]

-- what is led to by distinct names is reached
reaches : (models : List Model) (vs : List (List ℕ)) (a : List ℕ) (xs : List (List ℕ)) (b : List ℕ) → Leads models a xs b → Distinct xs → ((x : List ℕ) → In x xs → In x vs) → reach models vs a b ≡ true
reaches models [] a [] b p d all = if_places models a b p
reaches models [] a (x ∷ xs) b p d all = absurd (all x (inl refl))
reaches models (v ∷ vs) a xs b p d all = by (is_in v xs) (λ ys q e f. reaches models vs a ys b q e f) (λ ys q e f. reaches models vs a ys v q e f) (λ ys q e f. reaches models vs v ys b q e f)
  where
    Again : List ℕ → List ℕ → Type 0
    Again c z = (ys : List (List ℕ)) → Leads models c ys z → Distinct ys → ((x : List ℕ) → In x ys → In x vs) → reach models vs c z ≡ true

    by : In v xs ⊎ ¬ (In v xs) → Again a b → Again a v → Again v b → (reach models vs a b || (reach models vs a v && reach models vs v b)) ≡ true
    by (inr n) whole first second = or_left (reach models vs a b) (reach models vs a v && reach models vs v b) (whole xs p d (narrowed vs v xs n all))
    by (inl i) whole first second =
        let c : (front : List (List ℕ)) × (back : List (List ℕ)) × (xs ≡ front ++ v ∷ back) = cut_at v xs i in
        let q : Leads models a c.0 v × Leads models v c.1 b = leads_cut models a c.0 v c.1 b (subst (λ u. Leads models a u b) c.2 p) in
        let e : Distinct c.0 × Distinct c.1 × ¬ (In v c.0) × ¬ (In v c.1) = distinct_cut c.0 v c.1 (subst (λ u. Distinct u) c.2 d) in
        let all_front : (x : List ℕ) → In x c.0 → In x (v ∷ vs) = λ x j. all x (subst (λ u. In x u) (sym c.2) (in_left c.0 (v ∷ c.1) x j)) in
        let all_back : (x : List ℕ) → In x c.1 → In x (v ∷ vs) = λ x j. all x (subst (λ u. In x u) (sym c.2) (in_right c.0 (v ∷ c.1) x (inr j))) in
        or_right (reach models vs a b) (reach models vs a v && reach models vs v b) (both (reach models vs a v) (reach models vs v b) (first c.0 q.0 e.0 (narrowed vs v c.0 e.2 all_front)) (second c.1 q.1 e.1 (narrowed vs v c.1 e.3 all_back)))

-- A way from a word to another end, made simple: no word stands twice on it, nor does the end.
pub record IsSimpleWay (models : List Model) (a : List ℕ) (xs : List (List ℕ)) (end : List ℕ) : Type 0 where
  pub leads : Leads models a xs end
  pub distinct : Distinct (end ∷ a ∷ xs)

-- from a word on the way on
tail_of : (models : List Model) (x : List ℕ) (xs : List (List ℕ)) (end a : List ℕ) → IsSimpleWay models x xs end → In a (x ∷ xs) → (ys : List (List ℕ)) × IsSimpleWay models a ys end
tail_of models x xs end a w (inl e) = (xs, subst (λ u. IsSimpleWay models u xs end) (sym e) w)
tail_of models x [] end a w (inr i) = absurd i
tail_of models x (y ∷ ys) end a w (inr i) = tail_of models y ys end a (record { leads = w.leads.1; distinct = (λ j. w.distinct.0 (inr j), w.distinct.1.1) }) i

last_step : (models : List Model) (a end : List ℕ) → a ≢ end → HasSubcktOf models a end → IsSimpleWay models a [] end
last_step models a end n p = record { leads = p; distinct = (λ i. elim i as (λ _. ⊥) [ inl e ↦ n (sym e) | inr j ↦ j ], (λ i. i, tt)) }

longer : (models : List Model) (a next : List ℕ) (xs : List (List ℕ)) (end : List ℕ) → a ≢ end → HasSubcktOf models a next → IsSimpleWay models next xs end → ¬ (In a (next ∷ xs)) → IsSimpleWay models a (next ∷ xs) end
longer models a next xs end n p w new = record {
  leads = (p, w.leads);
  distinct = (λ i. elim i as (λ _. ⊥) [ inl e ↦ n (sym e) | inr j ↦ w.distinct.0 j ], (new, w.distinct.1));
}

pub simple_way : (models : List Model) (a : List ℕ) (xs : List (List ℕ)) (end : List ℕ) → a ≢ end → Leads models a xs end → (ys : List (List ℕ)) × IsSimpleWay models a ys end
simple_way models a [] end n p = ([], last_step models a end n p)
simple_way models a (next ∷ xs) end n p = by (bytes_eq next end) refl (λ m. simple_way models next xs end m p.1)
  where
    join : (ys : List (List ℕ)) → IsSimpleWay models next ys end → In a (next ∷ ys) ⊎ ¬ (In a (next ∷ ys)) → (zs : List (List ℕ)) × IsSimpleWay models a zs end
    join ys w (inl i) = tail_of models next ys end a w i
    join ys w (inr new) = (next ∷ ys, longer models a next ys end n p.0 w new)

    by : (b : Bool) → bytes_eq next end ≡ b → (next ≢ end → (ys : List (List ℕ)) × IsSimpleWay models next ys end) → (ys : List (List ℕ)) × IsSimpleWay models a ys end
    by true h again = ([], last_step models a end n (subst (λ u. HasSubcktOf models a u) ((bytes_eq-Decides next end).0 h) p.0))
    by false h again =
        let r : (ys : List (List ℕ)) × IsSimpleWay models next ys end = again (λ e. let t : bytes_eq next end ≡ true = (bytes_eq-Decides next end).1 e in cc) in
        join r.0 r.1 (is_in a (next ∷ r.0))

-- the names of the models
abbrev pub name_of : Model → List ℕ
name_of m = m.name

abbrev pub all_names : List Model → List (List ℕ)
all_names models = map name_of models

placing_named : (models : List Model) (a b : List ℕ) → HasSubcktOf models a b → In a (all_names models)
placing_named models a b p = subst (λ u. In u (all_names models)) (leaves models a b p).1 (in_map name_of models p.model (in_from models p.model (leaves models a b p).0))

leading_named : (models : List Model) (a : List ℕ) (xs : List (List ℕ)) (end : List ℕ) → Leads models a xs end → (x : List ℕ) → In x (a ∷ xs) → In x (all_names models)
leading_named models a [] end p x (inl e) = subst (λ u. In u (all_names models)) (sym e) (placing_named models a end p)
leading_named models a [] end p x (inr i) = absurd i
leading_named models a (y ∷ ys) end p x (inl e) = subst (λ u. In u (all_names models)) (sym e) (placing_named models a y p.0)
leading_named models a (y ∷ ys) end p x (inr i) = leading_named models y ys end p.1 x i

-- whether a subckt line lies on a circle
abbrev pub is_on_circle : List Model → (Model × Subckt) → Bool
is_on_circle models p = bytes_eq p.1.model p.0.name || reach models (all_names models) p.1.model p.0.name

on_circle : (models : List Model) (p : Model × Subckt) → model_named models p.0.name ≡ Some p.0 → In p.1 p.0.subckts → is_on_circle models p ≡ true → (names : List (List ℕ)) × IsOnCircle models p.1.line names
on_circle models p i j e = by (bytes_eq p.1.model p.0.name) refl e
  where
    circle : (others : List (List ℕ)) → LeadsBack models p.1.model others p.0.name → Distinct (p.0.name ∷ others) → (names : List (List ℕ)) × IsOnCircle models p.1.line names
    circle others back d = (
      p.0.name ∷ others,
      record {
        model = p.0;
        is_model = i;
        subckt = p.1;
        is_subckt = contains_from p.0.subckts p.1 j;
        at_the_line = refl;
        others = others;
        begins = refl;
        leads_back = back;
        is_simple = is_distinct (p.0.name ∷ others) d;
      },
    )

    by : (b : Bool) → bytes_eq p.1.model p.0.name ≡ b → (b || reach models (all_names models) p.1.model p.0.name) ≡ true → (names : List (List ℕ)) × IsOnCircle models p.1.line names
    by true h f = circle [] ((bytes_eq-Decides p.1.model p.0.name).0 h) (λ k. k, tt)
    by false h f =
        let r : (xs : List (List ℕ)) × Leads models p.1.model xs p.0.name = reached models (all_names models) p.1.model p.0.name f in
        let n : p.1.model ≢ p.0.name = λ e. (let t : bytes_eq p.1.model p.0.name ≡ true = (bytes_eq-Decides p.1.model p.0.name).1 e in cc) in
        let w : (ys : List (List ℕ)) × IsSimpleWay models p.1.model ys p.0.name = simple_way models p.1.model r.0 p.0.name n r.1 in
        circle (p.1.model ∷ w.0) (refl, w.1.leads) w.1.distinct

on_circle_reaches : (models : List Model) (s : Subckt) (others : List (List ℕ)) (end : List ℕ) → LeadsBack models s.model others end → Distinct others → (bytes_eq s.model end || reach models (all_names models) s.model end) ≡ true
on_circle_reaches models s [] end p d = or_left _ _ ((bytes_eq-Decides s.model end).1 p)
on_circle_reaches models s (x ∷ xs) end p d = or_right (bytes_eq s.model end) (reach models (all_names models) s.model end)
    (reaches models (all_names models) s.model xs end (subst (λ u. Leads models u xs end) (sym p.0) p.1) d.1 (λ y i. leading_named models x xs end p.1 y (inr i)))

-- the subckt lines with their models
abbrev pub lines_in : Model → List (Model × Subckt)
lines_in m = map (λ (s : Subckt). let p : Model × Subckt = (m, s) in p) m.subckts

abbrev pub own : List Model → Model → Option Model
own models m = model_named models m.name

abbrev pub all_subckts : List Model → List (Model × Subckt)
all_subckts models = flat_map lines_in (filter_map (own models) models)

-- of a list, none passes the test, or one that passes has the least number
first_of_those : {X : Type 0} (test : X → Bool) (number : X → ℕ) (xs : List X) → ((x : X) → In x xs → test x ≡ false) ⊎ ((x : X) × In x xs × (test x ≡ true) × ((y : X) → In y xs → test y ≡ true → number x ≤ number y))
first_of_those test number [] = inl (λ x i. absurd i)
first_of_those {X} test number (z ∷ zs) = by (test z) refl (first_of_those test number zs)
  where
    by : (b : Bool) → test z ≡ b → ((x : X) → In x zs → test x ≡ false) ⊎ ((x : X) × In x zs × (test x ≡ true) × ((y : X) → In y zs → test y ≡ true → number x ≤ number y)) → ((x : X) → In x (z ∷ zs) → test x ≡ false) ⊎ ((x : X) × In x (z ∷ zs) × (test x ≡ true) × ((y : X) → In y (z ∷ zs) → test y ≡ true → number x ≤ number y))
    by false h (inl none) = inl (λ x i. elim i as (λ _. test x ≡ false) [ inl e ↦ subst (λ u. test u ≡ false) (sym e) h | inr j ↦ none x j ])
    by false h (inr r) = inr (r.0, inr r.1, r.2, λ y i t. elim i as (λ _. number r.0 ≤ number y) [ inl e ↦ absurd (let f : test y ≡ false = subst (λ u. test u ≡ false) (sym e) h in cc) | inr j ↦ r.3 y j t ])
    by true h (inl none) = inr (z, inl refl, h, λ y i t. elim i as (λ _. number z ≤ number y) [ inl e ↦ subst (λ u. number z ≤ number u) (sym e) (omega arith) | inr j ↦ absurd (let f : test y ≡ false = none y j in cc) ])
    by true h (inr r) = elim (cases_lt (number z) (number r.0)) as (λ _. ((x : X) → In x (z ∷ zs) → test x ≡ false) ⊎ ((x : X) × In x (z ∷ zs) × (test x ≡ true) × ((y : X) → In y (z ∷ zs) → test y ≡ true → number x ≤ number y))) [
      | inl up ↦ inr (z, inl refl, h, λ y i t. elim i as (λ _. number z ≤ number y) [ inl e ↦ subst (λ u. number z ≤ number u) (sym e) (omega arith) | inr j ↦ (let k : number r.0 ≤ number y = r.3 y j t in omega arith) ])
      | inr down ↦ inr (r.0, inr r.1, r.2, λ y i t. elim i as (λ _. number r.0 ≤ number y) [ inl e ↦ subst (λ u. number r.0 ≤ number u) (sym e) (omega arith) | inr j ↦ r.3 y j t ])
    ]

-- a subckt line on a circle is one of all, and passes the test
passes : (models : List Model) (line : ℕ) (names : List (List ℕ)) → IsOnCircle models line names → (p : Model × Subckt) × In p (all_subckts models) × (is_on_circle models p ≡ true) × (p.1.line ≡ line)
passes models line names c =
    let i : In c.model (filter_map (own models) models) = filtered_in (own models) models c.model c.model (in_from models c.model (circle_model models line names c)) c.is_model in
    let j : In c.subckt c.model.subckts = in_from c.model.subckts c.subckt c.is_subckt in
    let d : Distinct (c.model.name ∷ c.others) = subst (λ u. Distinct u) c.begins (distinct_from names c.is_simple) in
    let p : Model × Subckt = (c.model, c.subckt) in
    (p, in_flat lines_in (filter_map (own models) models) c.model p i (in_map (λ (s : Subckt). let q : Model × Subckt = (c.model, s) in q) c.model.subckts c.subckt j), on_circle_reaches models c.subckt c.others c.model.name c.leads_back d.1, c.at_the_line)

-- where a pair stands among all, its model is the one of its name, and its line is one of that
stands : (models : List Model) (p : Model × Subckt) → In p (all_subckts models) → (model_named models p.0.name ≡ Some p.0) × In p.1 p.0.subckts
stands models p i =
    let r : (m : Model) × In m (filter_map (own models) models) × In p (lines_in m) = in_flattened lines_in (filter_map (own models) models) p i in
    let f : (m : Model) × In m models × (own models m ≡ Some r.0) = in_filtered (own models) models r.0 r.1 in
    let n : model_named models r.0.name ≡ Some r.0 = subst (λ v. model_named models v ≡ Some r.0) (sym (model_of_name models f.0.name r.0 f.2).1) f.2 in
    let s : (s : Subckt) × In s r.0.subckts × (p ≡ (let q : Model × Subckt = (r.0, s) in q)) = in_mapped (λ (s : Subckt). let q : Model × Subckt = (r.0, s) in q) r.0.subckts p r.2 in
    subst (λ (q : Model × Subckt). (model_named models q.0.name ≡ Some q.0) × In q.1 q.0.subckts) (sym s.2) (n, s.1)

-- models have a fault by the rule on circles, or no circle
pub circle_or_none : (models : List Model) → ((f : Fault) × IsCircleFault models f) ⊎ ((line : ℕ) (names : List (List ℕ)) → ¬ (IsOnCircle models line names))
circle_or_none models = by (first_of_those (is_on_circle models) (λ p. p.1.line) (all_subckts models))
  where
    by : ((p : Model × Subckt) → In p (all_subckts models) → is_on_circle models p ≡ false) ⊎ ((p : Model × Subckt) × In p (all_subckts models) × (is_on_circle models p ≡ true) × ((q : Model × Subckt) → In q (all_subckts models) → is_on_circle models q ≡ true → p.1.line ≤ q.1.line)) → ((f : Fault) × IsCircleFault models f) ⊎ ((line : ℕ) (names : List (List ℕ)) → ¬ (IsOnCircle models line names))
    by (inl none) = inr (λ line names c. let r = passes models line names c in let f : is_on_circle models r.0 ≡ false = none r.0 r.1 in let t : is_on_circle models r.0 ≡ true = r.2 in absurd (true≢false (sym t ∙ f)))
    by (inr p) =
        let w : (model_named models p.0.0.name ≡ Some p.0.0) × In p.0.1 p.0.0.subckts = stands models p.0 p.1 in
        let c : (names : List (List ℕ)) × IsOnCircle models p.0.1.line names = on_circle models p.0 w.0 w.1 p.2 in
        inl (
          fault_on Recursive p.0.1.line (join_with_byte 32 c.0),
          record {
            kind = refl;
            names = c.0;
            circle = c.1;
            word = refl;
            is_earliest = λ line names d. let r = passes models line names d in subst (λ n. p.0.1.line ≤ n) r.3 (p.3 r.0 r.1 r.2);
          },
        )
