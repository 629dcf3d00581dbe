-- Names where they first stand, and their positions.
use Rattle.std.proofs.Common.{◌≡◌, refl, sym, ap, ap₂, ◌∙◌, subst, ℕ, suc, ◌+◌, ◌<◌, inl, inr, Bool, true, false, cond, if◌then◌else◌, ◌||◌, true≢false, List, [], ◌∷◌, ◌++◌, length, take, get_or, Option, Some, None, position, slice_get, bytes_eq, MatchOption, Contains, arith}
use Rattle.std.specs.List.{list_any, position_from}
use Rattle.std.proofs.lemmas.Iterator.Adapters.{position_from-zero}
use Rattle.std.proofs.lemmas.List.{map-append, map_more}
use Rattle.std.proofs.lemmas.Slice.Eq.{bytes_eq-Decides}
use Rattle.indexmap.specs.IndexSet.{insert_key}
use denote.Ref.{Bor}
use Rattle.lists.proofs.Members.{In, in_from}
use Rattle.netlist_core.specs.declared.model.Port.{Port}
use Rattle.netlist_core.specs.Names.{Name, port_names}
use Rattle.netlist_meaning.specs.InOrder.{cons_unless, without_name, first_names}
use Rattle.flat_designs.specs.Laws.{append_unless}
use Rattle.flat_designs.proofs.Order.{names_come_where_first}
use Rattle.design_walks.specs.declared.words.Word.{Word}
use Rattle.design_walks.specs.Words.{port_of, as_ports, bytes_of}

-- a name stands among names where it stands among those that are first
any_without : (name other : Name) (names : List Name) → (bytes_eq name other || list_any (bytes_eq name) (without_name other names)) ≡ (bytes_eq name other || list_any (bytes_eq name) names)
any_without name other [] = refl
any_without name other (next ∷ names) = by (bytes_eq other next) refl (any_without name other names)
  where
    alike : (a b c d : Bool) → a ≡ b → (a || c) ≡ (a || d) → (a || c) ≡ (a || (b || d))
    alike true b c d e h = refl
    alike false true c d e h = absurd (true≢false (sym e))
    alike false false c d e h = h

    apart : (a b c d : Bool) → (a || c) ≡ (a || d) → (a || (b || c)) ≡ (a || (b || d))
    apart true b c d h = refl
    apart false b c d h = ap (λ v. b || v) h

    by : (b : Bool) → bytes_eq other next ≡ b → (bytes_eq name other || list_any (bytes_eq name) (without_name other names)) ≡ (bytes_eq name other || list_any (bytes_eq name) names)
        → (bytes_eq name other || list_any (bytes_eq name) (cons_unless b next (without_name other names))) ≡ (bytes_eq name other || (bytes_eq name next || list_any (bytes_eq name) names))
    by true e rest = alike (bytes_eq name other) (bytes_eq name next) _ _ (ap (bytes_eq name) ((bytes_eq-Decides other next).0 e)) rest
    by false e rest = apart (bytes_eq name other) (bytes_eq name next) _ _ rest

any_first : (name : Name) (names : List Name) → list_any (bytes_eq name) (first_names names) ≡ list_any (bytes_eq name) names
any_first name [] = refl
any_first name (other ∷ names) = any_without name other (first_names names) ∙ ap (λ b. bytes_eq name other || b) (any_first name names)

-- one more word, whose name has stood before or not
named_more : (words : List Word) (i : ℕ) (d : Word) → i < length words → port_names (as_ports (take (i + 1) words)) ≡ port_names (as_ports (take i words)) ++ (get_or words i d).name.now ∷ []
named_more words i d within =
    ap port_names (map_more port_of words i d within)
    ∙ map-append (λ (p : Port). p.name) (as_ports (take i words)) (port_of (get_or words i d) ∷ [])

-- a test of borrowed names is one of their bytes
any_bytes : (p : Name → Bool) (names : List (Bor (List ℕ))) → list_any (λ name. p name.now) names ≡ list_any p (bytes_of names)
any_bytes p [] = refl
any_bytes p (name ∷ names) = ap (λ b. p name.now || b) (any_bytes p names)

position_bytes : (p : Name → Bool) (n : ℕ) (names : List (Bor (List ℕ))) → position_from (λ name. p name.now) n names ≡ position_from p n (bytes_of names)
position_bytes p n [] = refl
position_bytes p n (name ∷ names) = ap (λ o. cond (p name.now) (Some n) o) (position_bytes p (n + 1) names)

inserted : (b : Bool) (names : List (Bor (List ℕ))) (name : Bor (List ℕ)) → bytes_of (if b then names else names ++ name ∷ []) ≡ append_unless b (bytes_of names) name.now
inserted true names name = refl
inserted false names name = map-append (λ (n : Bor (List ℕ)). n.now) names (name ∷ [])

pub names_more : (words : List Word) (i : ℕ) (d : Word) (names new : List (Bor (List ℕ))) → i < length words → bytes_of names ≡ first_names (port_names (as_ports (take i words)))
    → new ≡ insert_key (λ x y. bytes_eq x.now y.now) names (get_or words i d).name → bytes_of new ≡ first_names (port_names (as_ports (take (i + 1) words)))
names_more words i d names new within had is =
    let name : Name = (get_or words i d).name.now in
    let before : List Name = port_names (as_ports (take i words)) in
    ap bytes_of is
    ∙ inserted (list_any (λ n. bytes_eq name n.now) names) names (get_or words i d).name
    ∙ ap (λ b. append_unless b (bytes_of names) name) (any_bytes (bytes_eq name) names ∙ ap (list_any (bytes_eq name)) had ∙ any_first name before)
    ∙ ap (λ ns. append_unless (list_any (bytes_eq name) before) ns name) had
    ∙ sym (names_come_where_first before name)
    ∙ ap first_names (sym (named_more words i d within))

-- what the position of a name says
found_from : (name : Name) (n : ℕ) (names : List Name) → MatchOption (position_from (bytes_eq name) n names) (¬ In name names) (λ p. (k : ℕ) × (p ≡ n + k) × (slice_get names k ≡ Some name))
found_from name n [] = λ i. i
found_from name n (first ∷ names) = by (bytes_eq name first) refl (position_from (bytes_eq name) (n + 1) names) (found_from name (n + 1) names)
  where
    by : (b : Bool) → bytes_eq name first ≡ b → (o : Option ℕ) → MatchOption o (¬ In name names) (λ p. (k : ℕ) × (p ≡ (n + 1) + k) × (slice_get names k ≡ Some name))
        → MatchOption (cond b (Some n) o) (¬ In name (first ∷ names)) (λ p. (k : ℕ) × (p ≡ n + k) × (slice_get (first ∷ names) k ≡ Some name))
    by true e o rest = (0, (let same : n ≡ n + 0 = omega arith in same), ap Some (sym ((bytes_eq-Decides name first).0 e)))
    by false e None rest = λ i. other i
      where
        other : In name (first ∷ names) → ⊥
        other (inl same) = true≢false (sym ((bytes_eq-Decides name first).1 same) ∙ e)
        other (inr j) = rest j
    by false e (Some p) rest = let (k, is_p, there) = rest in (suc k, (let same : p ≡ n + suc k = omega arith in same), there)

pub found : (names : List (Bor (List ℕ))) (name : Name) (o : Option ℕ) → o ≡ position (λ n. bytes_eq name n.now) names → MatchOption o (¬ Contains (bytes_of names) name) (λ p. slice_get (bytes_of names) p ≡ Some name)
found names name o is =
    by o (subst (λ v. MatchOption v (¬ In name (bytes_of names)) (λ p. (k : ℕ) × (p ≡ 0 + k) × (slice_get (bytes_of names) k ≡ Some name))) (sym (is ∙ position_from-zero (λ n. bytes_eq name n.now) names ∙ position_bytes (bytes_eq name) 0 names)) (found_from name 0 (bytes_of names)))
  where
    by : (o : Option ℕ) → MatchOption o (¬ In name (bytes_of names)) (λ p. (k : ℕ) × (p ≡ 0 + k) × (slice_get (bytes_of names) k ≡ Some name)) → MatchOption o (¬ Contains (bytes_of names) name) (λ p. slice_get (bytes_of names) p ≡ Some name)
    by None h = λ c. h (in_from (bytes_of names) name c)
    by (Some p) h = let (k, is_p, there) = h in let same : p ≡ k = omega arith in ap (slice_get (bytes_of names)) same ∙ there
