-- When no circle of models is there, and where the earliest can be.
use Rattle.lists.proofs.Members.{passes_somewhere}
use Rattle.std.proofs.Common.{◌≡◌, refl, sym, subst, ℕ, ◌<◌, ◌≤◌, List, [], ◌∷◌, Bool, true, false, not, ◌&&◌, ◌||◌, arith, true≢false}
use Rattle.std.specs.Prelude.{Contains, nat_lt, nat_le, bytes_eq}
use Rattle.std.specs.List.{list_all, list_any, position_or_len}
use Rattle.std.proofs.lemmas.Bool.{ltb-true, leb-true, and_from as both}
use Rattle.std.proofs.lemmas.List.Sums.{AllPass-from_list_all}
use Rattle.std.proofs.lemmas.Slice.Eq.{bytes_eq-Decides}
use Rattle.netlist_core.specs.declared.model.Subckt.{Subckt}
use Rattle.netlist_core.specs.declared.model.Model.{Model}
use Rattle.netlist_rules.proofs.ModelSteps.{leaves, circle_model}
use Rattle.netlist_core.specs.Names.{is_model_named}
use Rattle.netlist_rules.specs.Circles.{HasSubcktOf, Leads, LeadsBack, IsOnCircle}

-- what passes at each element passes at one of them
pub all_pass_at : {X : Type 0} (p : X → Bool) (xs : List X) (x : X) → list_all p xs ≡ true → Contains xs x → p x ≡ true
all_pass_at p xs x e c = subst (λ y. p y ≡ true) c.2 (AllPass-from_list_all p xs e c.0 x c.1)

-- the place of a model in the list, by its name
abbrev pub rank : List Model → List ℕ → ℕ
rank models name = position_or_len (is_model_named name) models

-- each subckt line names a model that stands later in the list
abbrev pub places_later : List Model → Model → Subckt → Bool
places_later models m s = nat_lt (rank models m.name) (rank models s.model)

abbrev pub all_place_later : List Model → Bool
all_place_later models = list_all (λ (m : Model). list_all (places_later models m) m.subckts) models

module _ (models : List Model) (later : all_place_later models ≡ true) where
  line_later : (m : Model) (s : Subckt) → Contains models m → Contains m.subckts s → rank models m.name < rank models s.model
  line_later m s a b = ltb-true _ _ (all_pass_at (places_later models m) m.subckts s (all_pass_at (λ (n : Model). list_all (places_later models n) n.subckts) models m later a) b)

  place_later : (a b : List ℕ) → HasSubcktOf models a b → rank models a < rank models b
  place_later a b p = subst (λ n. rank models n < rank models b) (leaves models a b p).1 (subst (λ n. rank models p.model.name < rank models n) p.names_other (line_later p.model p.subckt (leaves models a b p).0 p.is_line))

  lead_later : (a : List ℕ) (names : List (List ℕ)) (end : List ℕ) → Leads models a names end → rank models a < rank models end
  lead_later a [] end p = place_later a end p
  lead_later a (next ∷ names) end p =
      let here : rank models a < rank models next = place_later a next p.0 in
      let there : rank models next < rank models end = lead_later next names end p.1 in
      omega arith

  lead_back_later : (a : List ℕ) (names : List (List ℕ)) (end : List ℕ) → LeadsBack models a names end → rank models a ≤ rank models end
  lead_back_later a [] end p = subst (λ n. rank models a ≤ rank models n) p (omega arith)
  lead_back_later a (next ∷ names) end p =
      let there : rank models next < rank models end = lead_later next names end p.1 in
      subst (λ n. rank models n ≤ rank models end) (sym p.0) (omega arith)

  -- then no line lies on a circle
  pub no_circle : (line : ℕ) (names : List (List ℕ)) → ¬ (IsOnCircle models line names)
  no_circle line names c =
      let up : rank models c.model.name < rank models c.subckt.model = line_later c.model c.subckt (circle_model models line names c) c.is_subckt in
      let down : rank models c.subckt.model ≤ rank models c.model.name = lead_back_later c.subckt.model c.others c.model.name c.leads_back in
      absurd (omega arith)

-- whether a subckt line names the model
abbrev pub names : List ℕ → Subckt → Bool
names name s = bytes_eq s.model name

abbrev pub is_placed : List Model → List ℕ → Bool
is_placed models name = list_any (λ (m : Model). list_any (names name) m.subckts) models

-- whether a model of this name has a subckt line
abbrev pub has_any : Subckt → Bool
has_any s = true

abbrev pub is_placing : List ℕ → Model → Bool
is_placing name m = bytes_eq m.name name && list_any has_any m.subckts

-- A subckt line that stands in a model that is placed, and names one that places others, has this number at least.
abbrev pub is_late : List Model → ℕ → Model → Subckt → Bool
is_late models first m s = not (is_placed models m.name && list_any (is_placing s.model) models) || nat_le first s.line

abbrev pub are_late : List Model → ℕ → Model → Bool
are_late models first m = list_all (is_late models first m) m.subckts

abbrev pub all_late : ℕ → List Model → Bool
all_late first models = list_all (are_late models first) models

placed : (models : List Model) (a b : List ℕ) → HasSubcktOf models a b → is_placed models b ≡ true
placed models a b p = passes_somewhere (λ (m : Model). list_any (names b) m.subckts) models p.model (leaves models a b p).0
    (passes_somewhere (names b) p.model.subckts p.subckt p.is_line ((bytes_eq-Decides p.subckt.model b).1 p.names_other))

placed_at_end : (models : List Model) (a : List ℕ) (others : List (List ℕ)) (end : List ℕ) → Leads models a others end → is_placed models end ≡ true
placed_at_end models a [] end p = placed models a end p
placed_at_end models a (next ∷ others) end p = placed_at_end models next others end p.1

placed_by : (models : List Model) (a : List ℕ) (others : List (List ℕ)) (end : List ℕ) → is_placed models a ≡ true → LeadsBack models a others end → is_placed models end ≡ true
placed_by models a [] end e p = subst (λ n. is_placed models n ≡ true) p e
placed_by models a (next ∷ others) end e p = placed_at_end models next others end p.1

placing_in : (models : List Model) (m : Model) (s : Subckt) → Contains models m → Contains m.subckts s → list_any (is_placing m.name) models ≡ true
placing_in models m s a b = passes_somewhere (is_placing m.name) models m a (both (bytes_eq m.name m.name) (list_any has_any m.subckts) ((bytes_eq-Decides m.name m.name).1 refl) (passes_somewhere has_any m.subckts s b refl))

placing : (models : List Model) (a b : List ℕ) → HasSubcktOf models a b → list_any (is_placing a) models ≡ true
placing models a b p = subst (λ n. list_any (is_placing n) models ≡ true) (leaves models a b p).1 (placing_in models p.model p.subckt (leaves models a b p).0 p.is_line)

placing_first : (models : List Model) (a : List ℕ) (others : List (List ℕ)) (end : List ℕ) → Leads models a others end → list_any (is_placing a) models ≡ true
placing_first models a [] end p = placing models a end p
placing_first models a (next ∷ others) end p = placing models a next p.0

placing_by : (models : List Model) (a : List ℕ) (others : List (List ℕ)) (end : List ℕ) → list_any (is_placing end) models ≡ true → LeadsBack models a others end → list_any (is_placing a) models ≡ true
placing_by models a [] end e p = subst (λ n. list_any (is_placing n) models ≡ true) (sym p) e
placing_by models a (next ∷ others) end e p = subst (λ n. list_any (is_placing n) models ≡ true) (sym p.0) (placing_first models next others end p.1)

second_holds : (a b : Bool) → a ≡ true → (not a || b) ≡ true → b ≡ true
second_holds true b e h = h
second_holds false b e h = absurd (true≢false (sym e))

-- then a line on a circle has this number at least
pub no_earlier_circle : (models : List Model) (first : ℕ) → all_late first models ≡ true → (line : ℕ) (others : List (List ℕ)) → IsOnCircle models line others → first ≤ line
no_earlier_circle models first late line others c =
    let is_named : is_placed models c.subckt.model ≡ true = passes_somewhere (λ (m : Model). list_any (names c.subckt.model) m.subckts) models c.model (circle_model models line others c)
    (passes_somewhere (names c.subckt.model) c.model.subckts c.subckt c.is_subckt ((bytes_eq-Decides c.subckt.model c.subckt.model).1 refl)) in
    let here : is_placed models c.model.name ≡ true = placed_by models c.subckt.model c.others c.model.name is_named c.leads_back in
    let there : list_any (is_placing c.subckt.model) models ≡ true = placing_by models c.subckt.model c.others c.model.name (placing_in models c.model c.subckt (circle_model models line others c) c.is_subckt) c.leads_back in
    let at_line : is_late models first c.model c.subckt ≡ true = all_pass_at (is_late models first c.model) c.model.subckts c.subckt (all_pass_at (are_late models first) models c.model late (circle_model models line others c)) c.is_subckt in
    subst (λ n. first ≤ n) c.at_the_line (leb-true _ _ (second_holds (is_placed models c.model.name && list_any (is_placing c.subckt.model) models) (nat_le first c.subckt.line) (both _ _ here there) at_line))
