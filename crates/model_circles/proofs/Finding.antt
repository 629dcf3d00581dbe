-- Steps of the search.
use Rattle.std.proofs.Common.{◌≡◌, ◌≢◌, refl, sym, ap, subst, ◌∙◌, ℕ, ◌+◌, ◌<◌, ◌≤◌, ◌⊎◌, inl, inr, List, [], ◌∷◌, ◌++◌, set, length, get_or, Option, Some, None, cond, count_by, replicate, arith, ◌*◌}
use Rattle.std.specs.Prelude.{is_none}
use Rattle.std.proofs.lemmas.List.{get_or_append_left, get_or_push, length_push, get_or-set_same, get_or-set_other, length-set, length-replicate, get_or_default}
use Rattle.std.proofs.lemmas.Option.{none-some, same_Some}
use Rattle.std.proofs.lemmas.List.Sums.{sum_by-set}
use Rattle.std.proofs.lemmas.Bool.{cases_eq}
use Rattle.std.proofs.lemmas.List.Folds.{sum_by-replicate}
use Rattle.lists.proofs.Numbers.{less_or_last}
use Rattle.netlist_core.specs.declared.model.Model.{Model}
use Rattle.model_index.specs.Numbers.{number_placed, Places, PlacesSomewhere, LeadsBy}
use Rattle.model_circles.specs.declared.search.Search.{Search}
use Rattle.model_circles.specs.Search.{IsSearch, IsSearchOf, IsFound, StillFound, AreMetBefore, IsMetAs, Meets}
use Rattle.model_circles.specs.Ways.{LeadsBackBy}
use Rattle.lists.proofs.Fills.{same_throughout}

all_none : (m : ℕ) → count_by is_none (replicate m (let o : Option ℕ = None in o)) ≡ m
all_none m = let e : count_by is_none (replicate m (let o : Option ℕ = None in o)) ≡ m * 1 = sum_by-replicate (λ (x : Option ℕ). cond {A = ℕ} (is_none x) 1 0) m None in omega arith

-- one fewer is without a place
placed_once : (places : List (Option ℕ)) (n p : ℕ) → n < length places → get_or places n None ≡ None → count_by is_none (set places n (Some p)) + 1 ≡ count_by is_none places
placed_once places n p l e =
    let h : count_by is_none (set places n (Some p)) + cond (is_none (get_or places n None)) 1 0 ≡ count_by is_none places + 0 = sum_by-set (λ (x : Option ℕ). cond {A = ℕ} (is_none x) 1 0) places n (Some p) None l in
    let a : cond {A = ℕ} (is_none (get_or places n None)) 1 0 ≡ 1 = ap (λ o. cond {A = ℕ} (is_none o) 1 0) e in
    omega arith

pub begun : (models : List Model) (first : ℕ) → first < length models → IsSearch models first (set (replicate (length models) None) first (Some 0)) (first ∷ []) (0 ∷ [])
begun models first l = record {
  fit = length-set empty first (Some 0) ∙ length-replicate (length models) None;
  parents_fit = refl;
  counted = (let c = placed_once empty first 0 within (same_throughout (length models) first None) in let e = all_none (length models) in omega arith);
  some = omega arith;
  is_first = refl;
  numbers = λ i less. (let e : i ≡ 0 = omega arith in subst (λ v. get_or (first ∷ []) v 0 < length models) (sym e) l);
  at_place = λ i less. (let e : i ≡ 0 = omega arith in subst (λ v. get_or (set empty first (Some 0)) (get_or (first ∷ []) v 0) None ≡ Some v) (sym e) (get_or-set_same empty first (Some 0) None within));
  place_of = λ n i e. place_of n i e (cases_eq n first);
  before = λ i some less. absurd (omega arith);
}
  where
    empty : List (Option ℕ)
    empty = replicate (length models) None

    within : first < length empty
    within = subst (λ v. first < v) (sym (length-replicate (length models) None)) l

    place_of : (n i : ℕ) → get_or (set empty first (Some 0)) n None ≡ Some i → (n ≡ first) ⊎ (n ≢ first) → (i < length (first ∷ [])) × (get_or (first ∷ []) i 0 ≡ n)
    place_of n i e (inl same) =
        let f : Some i ≡ Some 0 = sym e ∙ ap (λ v. get_or (set empty first (Some 0)) v None) same ∙ get_or-set_same empty first (Some 0) None within in
        let z : i ≡ 0 = cc in
        (omega arith, subst (λ v. get_or (first ∷ []) v 0 ≡ n) (sym z) (sym same))
    place_of n i e (inr other) =
        let f : Some i ≡ None = sym e ∙ get_or-set_other empty first n (Some 0) None other ∙ same_throughout (length models) n None in
        absurd (cc)

-- a model that has no place yet takes the next
pub met_new : (models : List Model) (first : ℕ) (places : List (Option ℕ)) (found parents : List ℕ) (inner at : ℕ) → IsSearch models first places found parents → inner < length models → at < length found → PlacesSomewhere models (get_or found at 0) inner → get_or places inner None ≡ None
    → IsSearch models first (set places inner (Some (length found))) (found ++ inner ∷ []) (parents ++ at ∷ [])
met_new models first places found parents inner at s less here places_it new = record {
  fit = length-set places inner (Some (length found)) ∙ s.fit;
  parents_fit = (let a = length_push parents at in let b = length_push found inner in let e = s.parents_fit in omega arith);
  counted = (let c = placed_once places inner (length found) within new in let e = s.counted in let b = length_push found inner in omega arith);
  some = (let b = length_push found inner in omega arith);
  is_first = get_or_append_left found (inner ∷ []) 0 0 s.some ∙ s.is_first;
  numbers = λ i l. numbers i (below i l);
  at_place = λ i l. at_place i (below i l);
  place_of = λ n i e. place_of n i e (cases_eq n inner);
  before = λ i some l. before i some (below i l);
}
  where
    within : inner < length places
    within = subst (λ v. inner < v) (sym s.fit) less

    below : (i : ℕ) → i < length (found ++ inner ∷ []) → (i < length found) ⊎ (i ≡ length found)
    below i l = less_or_last i (length found) (subst (λ n. i < n) (length_push found inner) l)

    numbers : (i : ℕ) → (i < length found) ⊎ (i ≡ length found) → get_or (found ++ inner ∷ []) i 0 < length models
    numbers i (inl l) = subst (λ v. v < length models) (sym (get_or_append_left found (inner ∷ []) 0 i l)) (s.numbers i l)
    numbers i (inr e) = subst (λ v. v < length models) (sym (get_or_push found inner 0 i (sym e))) less

    others : (n i : ℕ) → get_or places n None ≡ Some i → n ≢ inner
    others n i e same = let f : None ≡ Some i = sym new ∙ ap (λ v. get_or places v None) (sym same) ∙ e in absurd (cc)

    at_place : (i : ℕ) → (i < length found) ⊎ (i ≡ length found) → get_or (set places inner (Some (length found))) (get_or (found ++ inner ∷ []) i 0) None ≡ Some i
    at_place i (inl l) =
        ap (λ v. get_or (set places inner (Some (length found))) v None) (get_or_append_left found (inner ∷ []) 0 i l)
        ∙ get_or-set_other places inner (get_or found i 0) (Some (length found)) None (others (get_or found i 0) i (s.at_place i l)) ∙ s.at_place i l
    at_place i (inr e) =
        ap (λ v. get_or (set places inner (Some (length found))) v None) (get_or_push found inner 0 i (sym e))
        ∙ get_or-set_same places inner (Some (length found)) None within ∙ ap Some (sym e)

    place_of : (n i : ℕ) → get_or (set places inner (Some (length found))) n None ≡ Some i → (n ≡ inner) ⊎ (n ≢ inner) → (i < length (found ++ inner ∷ [])) × (get_or (found ++ inner ∷ []) i 0 ≡ n)
    place_of n i e (inl same) =
        let f : Some i ≡ Some (length found) = sym e ∙ ap (λ v. get_or (set places inner (Some (length found))) v None) same ∙ get_or-set_same places inner (Some (length found)) None within in
        let z : i ≡ length found = cc in
        ((let b : length (found ++ inner ∷ []) ≡ length found + 1 = length_push found inner in omega arith), get_or_push found inner 0 i (sym z) ∙ sym same)
    place_of n i e (inr other) =
        let (l, at_i) = s.place_of n i (sym (get_or-set_other places inner n (Some (length found)) None other) ∙ e) in
        ((let b : length (found ++ inner ∷ []) ≡ length found + 1 = length_push found inner in omega arith), get_or_append_left found (inner ∷ []) 0 i l ∙ at_i)

    before : (i : ℕ) → 0 < i → (i < length found) ⊎ (i ≡ length found) → (get_or (parents ++ at ∷ []) i 0 < i) × PlacesSomewhere models (get_or (found ++ inner ∷ []) (get_or (parents ++ at ∷ []) i 0) 0) (get_or (found ++ inner ∷ []) i 0)
    before i some (inl l) =
        let (up, step) = s.before i some l in
        let same : get_or (parents ++ at ∷ []) i 0 ≡ get_or parents i 0 = get_or_append_left parents (at ∷ []) 0 i (subst (λ v. i < v) (sym s.parents_fit) l) in (
          subst (λ v. v < i) (sym same) up,
          subst (λ v. PlacesSomewhere models (get_or (found ++ inner ∷ []) v 0) (get_or (found ++ inner ∷ []) i 0)) (sym same)
              (subst (λ v. PlacesSomewhere models v (get_or (found ++ inner ∷ []) i 0)) (sym (get_or_append_left found (inner ∷ []) 0 (get_or parents i 0) (omega arith)))
              (subst (λ v. PlacesSomewhere models (get_or found (get_or parents i 0) 0) v) (sym (get_or_append_left found (inner ∷ []) 0 i l)) step)),
        )
    before i some (inr e) =
        let last : get_or (parents ++ at ∷ []) i 0 ≡ at = get_or_push parents at 0 i (s.parents_fit ∙ sym e) in (
          subst (λ v. v < i) (sym last) (omega arith),
          subst (λ v. PlacesSomewhere models (get_or (found ++ inner ∷ []) v 0) (get_or (found ++ inner ∷ []) i 0)) (sym last)
              (subst (λ v. PlacesSomewhere models v (get_or (found ++ inner ∷ []) i 0)) (sym (get_or_append_left found (inner ∷ []) 0 at here))
              (subst (λ v. PlacesSomewhere models (get_or found at 0) v) (sym (get_or_push found inner 0 i (sym e))) places_it)),
        )

pub search_same : (models : List Model) (first : ℕ) (places places' : List (Option ℕ)) (found found' parents parents' : List ℕ) → IsSearch models first places found parents → places' ≡ places → found' ≡ found → parents' ≡ parents → IsSearch models first places' found' parents'
search_same models first places places' found found' parents parents' s e f g =
    subst (λ v. IsSearch models first v found' parents') (sym e) (subst (λ v. IsSearch models first places v parents') (sym f) (subst (λ v. IsSearch models first places found v) (sym g) s))

-- what meeting a model keeps, and gives
pub record IsMetStep (models : List Model) (first inner : ℕ) (old new : Search) : Type 0 where
  pub is_search : IsSearchOf models first new
  pub kept : StillFound old.places.items new.places.items
  pub met : IsFound new.places.items inner
  pub longer : length old.found.items ≤ length new.found.items

pub met_step : (models : List Model) (first inner at : ℕ) (old new : Search) → IsSearchOf models first old → inner < length models → at < length old.found.items → PlacesSomewhere models (get_or old.found.items at 0) inner → Meets old inner at new → IsMetStep models first inner old new
met_step models first inner at old new s less here places_it m = by (get_or old.places.items inner None) refl m
  where
    by : (o : Option ℕ) → get_or old.places.items inner None ≡ o → IsMetAs o old inner at new → IsMetStep models first inner old new
    by (Some p) is (e, f, g) = record {
      is_search = search_same models first _ _ _ _ _ _ s e f g;
      kept = λ n q h. ap (λ (v : List (Option ℕ)). get_or v n None) e ∙ h;
      met = (p, ap (λ (v : List (Option ℕ)). get_or v inner None) e ∙ is);
      longer = (let l : length new.found.items ≡ length old.found.items = ap (λ (v : List ℕ). length v) f in omega arith);
    }
    by None is (e, f, g) = record {
      is_search = search_same models first _ _ _ _ _ _ (met_new models first old.places.items old.found.items old.parents.items inner at s less here places_it is) e f g;
      kept = λ n q h. ap (λ (v : List (Option ℕ)). get_or v n None) e ∙ kept n q h (cases_eq n inner);
      met = (length old.found.items, ap (λ (v : List (Option ℕ)). get_or v inner None) e ∙ get_or-set_same old.places.items inner (Some (length old.found.items)) None (subst (λ v. inner < v) (sym s.fit) less));
      longer = (let l : length new.found.items ≡ length (old.found.items ++ inner ∷ []) = ap (λ (v : List ℕ). length v) f in let b : length (old.found.items ++ inner ∷ []) ≡ length old.found.items + 1 = length_push old.found.items inner in omega arith);
    }
      where
        kept : (n q : ℕ) → get_or old.places.items n None ≡ Some q → (n ≡ inner) ⊎ (n ≢ inner) → get_or (set old.places.items inner (Some (length old.found.items))) n None ≡ Some q
        kept n q h (inl same) = let f : None ≡ Some q = sym is ∙ ap (λ v. get_or old.places.items v None) (sym same) ∙ h in absurd (cc)
        kept n q h (inr other) = get_or-set_other old.places.items inner n (Some (length old.found.items)) None other ∙ h

-- models keep their places
pub stays : (models : List Model) (first : ℕ) (old new : Search) → IsSearchOf models first old → IsSearchOf models first new → StillFound old.places.items new.places.items → (i : ℕ) → i < length old.found.items → (i < length new.found.items) × (get_or new.found.items i 0 ≡ get_or old.found.items i 0)
stays models first old new s t kept i l = t.place_of (get_or old.found.items i 0) i (kept (get_or old.found.items i 0) i (s.at_place i l))

-- the models before one more place are done
pub closed_more : (models : List Model) (first at : ℕ) (old new : Search) → IsSearchOf models first old → IsSearchOf models first new → StillFound old.places.items new.places.items → at < length old.found.items
    → AreMetBefore models old.places.items old.found.items at → ((inner : ℕ) → PlacesSomewhere models (get_or old.found.items at 0) inner → IsFound new.places.items inner) → AreMetBefore models new.places.items new.found.items (at + 1)
closed_more models first at old new s t kept l before here i inner less step = by (less_or_last i at less)
  where
    by : (i < at) ⊎ (i ≡ at) → IsFound new.places.items inner
    by (inl lower) =
        let same : get_or new.found.items i 0 ≡ get_or old.found.items i 0 = (stays models first old new s t kept i (omega arith)).1 in
        let (p, e) = before i inner lower (subst (λ v. PlacesSomewhere models v inner) same step) in
        (p, kept inner p e)
    by (inr e) =
        let same : get_or new.found.items i 0 ≡ get_or old.found.items at 0 = ap (λ v. get_or new.found.items v 0) e ∙ (stays models first old new s t kept at l).1 in
        here inner (subst (λ v. PlacesSomewhere models v inner) same step)

-- a whole search has found what is led to
found_on : (models : List Model) (first : ℕ) (places : List (Option ℕ)) (found parents : List ℕ) → IsSearch models first places found parents → AreMetBefore models places found (length found) → (x : ℕ) (numbers : List ℕ) (end : ℕ) → IsFound places x → LeadsBy models x numbers end → IsFound places end
found_on models first places found parents s closed x [] end (p, e) step =
    let (l, at) = s.place_of x p e in closed p end l (subst (λ v. PlacesSomewhere models v end) (sym at) step)
found_on models first places found parents s closed x (next ∷ numbers) end (p, e) (step, rest) =
    let (l, at) = s.place_of x p e in
    found_on models first places found parents s closed next numbers end (closed p next l (subst (λ v. PlacesSomewhere models v next) (sym at) step)) rest

pub not_led : (models : List Model) (first : ℕ) (places : List (Option ℕ)) (found parents : List ℕ) → IsSearch models first places found parents → AreMetBefore models places found (length found) → (goal : ℕ) → get_or places goal None ≡ None → (numbers : List ℕ) → ¬ LeadsBackBy models first numbers goal
not_led models first places found parents s closed goal none numbers leads = by (reached numbers leads)
  where
    starts : IsFound places first
    starts = (0, ap (λ v. get_or places v None) (sym s.is_first) ∙ s.at_place 0 s.some)

    reached : (numbers : List ℕ) → LeadsBackBy models first numbers goal → IsFound places goal
    reached [] e = subst (λ v. IsFound places v) e starts
    reached (next ∷ numbers) (e, rest) = found_on models first places found parents s closed next numbers goal (subst (λ v. IsFound places v) e starts) rest

    by : IsFound places goal → ⊥
    by (p, e) = let f : None ≡ Some p = sym none ∙ e in absurd (cc)

-- the models that the first lines of the one at a place place are found
pub record IsVisiting (models : List Model) (first at n line : ℕ) (old now : Search) : Type 0 where
  pub is_search : IsSearchOf models first now
  pub kept : StillFound old.places.items now.places.items
  pub in_range : at < length now.found.items
  pub met : (k inner : ℕ) → k < line → Places models n k inner → IsFound now.places.items inner

pub visited_some : (models : List Model) (first at n line inner : ℕ) (old now new : Search) → IsSearchOf models first old → at < length old.found.items → n ≡ get_or old.found.items at 0 → IsVisiting models first at n line old now → Places models n line inner → inner < length models → Meets now inner at new
    → IsVisiting models first at n (line + 1) old new
visited_some models first at n line inner old now new s l is v p less m =
    let same : get_or now.found.items at 0 ≡ n = (stays models first old now s v.is_search v.kept at l).1 ∙ sym is in
    let st = met_step models first inner at now new v.is_search less v.in_range (subst (λ x. PlacesSomewhere models x inner) (sym same) (line, p)) m in
    record {
      is_search = st.is_search;
      kept = λ x q h. st.kept x q (v.kept x q h);
      in_range = (let a : length now.found.items ≤ length new.found.items = st.longer in let b : at < length now.found.items = v.in_range in omega arith);
      met = λ k x below e. met st k x e (less_or_last k line below);
    }
  where
    met : IsMetStep models first inner now new → (k x : ℕ) → Places models n k x → (k < line) ⊎ (k ≡ line) → IsFound new.places.items x
    met st k x e (inl lower) = let (q, h) = v.met k x lower e in (q, st.kept x q h)
    met st k x e (inr here) = let same : x ≡ inner = same_Some x inner (sym e ∙ ap (number_placed models n) here ∙ p) in subst (λ y. IsFound new.places.items y) (sym same) st.met

pub visited_none : (models : List Model) (first at n line : ℕ) (old now : Search) → IsVisiting models first at n line old now → number_placed models n line ≡ None → IsVisiting models first at n (line + 1) old now
visited_none models first at n line old now v none = record {
  is_search = v.is_search;
  kept = v.kept;
  in_range = v.in_range;
  met = λ k x below e. met k x e (less_or_last k line below);
}
  where
    met : (k x : ℕ) → Places models n k x → (k < line) ⊎ (k ≡ line) → IsFound now.places.items x
    met k x e (inl lower) = v.met k x lower e
    met k x e (inr here) = absurd (none-some x (sym none ∙ ap (number_placed models n) (sym here) ∙ e))

-- what is read with another default
pub read_at : (models : List Model) (first : ℕ) (places : List (Option ℕ)) (found parents : List ℕ) → IsSearch models first places found parents → (goal : ℕ) → goal < length models → (o d : Option ℕ) → o ≡ get_or places goal d → get_or places goal None ≡ o
read_at models first places found parents s goal l o d e = get_or_default places goal None d (subst (λ v. goal < v) (sym s.fit) l) ∙ sym e
