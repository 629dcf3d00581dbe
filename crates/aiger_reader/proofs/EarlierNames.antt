-- The earlier names, of which a set has those whose number is not their own place.
use Rattle.std.proofs.Common.{ℕ, ◌+◌, ◌<◌, ◌≡◌, refl, sym, ap, ap₂, ◌∙◌, inl, inr, Bool, true, false, ◌||◌, ◌&&◌, nat_lt, List, [], take, length, get_or, arith, bytes_eq, Bor}
use Rattle.std.specs.Prelude.{Option, Some, None}
use Rattle.std.specs.BTreeSet.{BTreeSet, UpdatesBy}
use Rattle.std.specs.Cmp.Lexicographic.{slice_cmp}
use Rattle.std.specs.Ordering.{nat_cmp}
use Rattle.std.proofs.Math.Bool.{or-false}
use Rattle.std.proofs.lemmas.Bool.{cases_lt}
use Rattle.std.proofs.lemmas.Bool.Decides.{nat_tests}
use Rattle.std.proofs.lemmas.List.{take_more}
use Rattle.std.proofs.lemmas.Option.{none-some, same_Some}
use Rattle.lists.specs.Names.{is_among, holds_name}
use Rattle.lists.proofs.NameSets.{name_added}
use Rattle.lists.proofs.Names.{bytes_eq-turned, bytes_eq-other}
use Rattle.aiger_reader.specs.Earlier.{number_of_name, is_earlier, KnowsEarlier}
use Rattle.aiger_reader.proofs.Repeats.{any_push}

-- one more name, at the number i
kept : (h lt more a e : Bool) → lt ≡ more → e ≡ false → ((h || (lt && a)) || e) ≡ (h || (more && a))
kept h lt more a e same none = ap₂ (λ (b f : Bool). (h || (b && a)) || f) same none ∙ or-false (h || (more && a))

gained : (h lt more a e : Bool) → lt ≡ false → more ≡ true → a ≡ e → ((h || (lt && a)) || e) ≡ (h || (more && a))
gained h lt more a e before after same = ap₂ (λ (b f : Bool). (h || (b && a)) || f) before (sym same) ∙ by h a ∙ ap (λ b. h || (b && a)) (sym after)
  where
    by : (h a : Bool) → ((h || false) || a) ≡ (h || (true && a))
    by true a = refl
    by false a = refl

moved : (h s e : Bool) → ((h || s) || e) ≡ ((h || e) || s)
moved true s e = refl
moved false true true = refl
moved false true false = refl
moved false false true = refl
moved false false false = refl

doubled : (h e a : Bool) → a ≡ e → ((h || false) || e) ≡ ((h || e) || a)
doubled h true true same = by h
  where
    by : (h : Bool) → ((h || false) || true) ≡ ((h || true) || true)
    by true = refl
    by false = refl
doubled h true false same = absurd (cc)
doubled h false true same = absurd (cc)
doubled h false false same = refl

module _ (names : List (List ℕ)) (i : ℕ) (low : i < length names) (seen : BTreeSet (Bor (List ℕ))) (k : KnowsEarlier names i seen) where
  abbrev own : List ℕ
  own = get_or names i []

  among_more : (name : List ℕ) → is_among name (take (i + 1) names) ≡ ((holds_name seen name || is_earlier names i name (number_of_name name)) || bytes_eq name (get_or names i []))
  among_more name = ap (is_among name) (take_more names i [] low) ∙ any_push name (take i names) (get_or names i []) ∙ ap (λ b. b || bytes_eq name (get_or names i [])) (k name)

  -- a name with the number of its place is found there
  pub own_name : number_of_name (get_or names i []) ≡ Some i → KnowsEarlier names (i + 1) seen
  own_name is name = among_more name ∙ by (number_of_name name) refl
    where
      other : (o : Option ℕ) → number_of_name name ≡ o → (o ≡ Some i → ⊥) → bytes_eq name (get_or names i []) ≡ false
      other o e unlike = bytes_eq-other name (get_or names i []) (λ same. unlike (sym e ∙ ap number_of_name same ∙ is))

      by : (o : Option ℕ) → number_of_name name ≡ o → ((holds_name seen name || is_earlier names i name o) || bytes_eq name (get_or names i [])) ≡ (holds_name seen name || is_earlier names (i + 1) name o)
      by None e = ap (λ f. (holds_name seen name || false) || f) (other None e (none-some i)) ∙ or-false (holds_name seen name || false)
      by (Some p) e =
          elim (cases_lt p i) [
            | inl below ↦
                kept (holds_name seen name) (nat_lt p i) (nat_lt p (i + 1)) (bytes_eq (get_or names p []) name) _ (grind (arith, nat_tests, below)) (other (Some p) e (λ same. (let at : p ≡ i = same_Some p i same in omega (arith, at, below))))
            | inr past ↦
                elim (cases_lt i p) [
                  | inl above ↦
                      kept (holds_name seen name) (nat_lt p i) (nat_lt p (i + 1)) (bytes_eq (get_or names p []) name) _ (grind (arith, nat_tests, above)) (other (Some p) e (λ same. (let at : p ≡ i = same_Some p i same in omega (arith, at, above))))
                  | inr before ↦
                      gained (holds_name seen name) (nat_lt p i) (nat_lt p (i + 1)) (bytes_eq (get_or names p []) name) _ (grind (arith, nat_tests, past)) (grind (arith, nat_tests, before))
                      (ap (λ (n : ℕ). bytes_eq (get_or names n []) name) (let at : p ≡ i = omega (arith, past, before) in at) ∙ bytes_eq-turned (get_or names i []) name)
                ]
          ]

  -- and each other one is in the set
  pub added_name : (key : Bor (List ℕ)) (new : BTreeSet (Bor (List ℕ))) → key.now ≡ get_or names i [] → UpdatesBy (λ x y. slice_cmp nat_cmp x.now y.now) (λ k. slice_cmp nat_cmp key.now k.now) seen new true → KnowsEarlier names (i + 1) new
  added_name key new is updates name =
      among_more name ∙ by (number_of_name name)
      ∙ ap (λ h. h || is_earlier names (i + 1) name (number_of_name name))
      (sym (name_added seen new key name updates ∙ ap (λ b. holds_name seen name || b) (ap (λ n. bytes_eq n name) is ∙ bytes_eq-turned (get_or names i []) name)))
    where
      by : (o : Option ℕ) → ((holds_name seen name || is_earlier names i name o) || bytes_eq name (get_or names i [])) ≡ ((holds_name seen name || bytes_eq name (get_or names i [])) || is_earlier names (i + 1) name o)
      by None = moved (holds_name seen name) false (bytes_eq name (get_or names i []))
      by (Some p) =
          elim (cases_lt p i) [
            | inl below ↦
                moved (holds_name seen name) (nat_lt p i && bytes_eq (get_or names p []) name) (bytes_eq name (get_or names i []))
                ∙ ap (λ b. (holds_name seen name || bytes_eq name (get_or names i [])) || (b && bytes_eq (get_or names p []) name)) (let e : nat_lt p i ≡ nat_lt p (i + 1) = grind (arith, nat_tests, below) in e)
            | inr past ↦
                elim (cases_lt i p) [
                  | inl above ↦
                      moved (holds_name seen name) (nat_lt p i && bytes_eq (get_or names p []) name) (bytes_eq name (get_or names i []))
                      ∙ ap (λ b. (holds_name seen name || bytes_eq name (get_or names i [])) || (b && bytes_eq (get_or names p []) name)) (let e : nat_lt p i ≡ nat_lt p (i + 1) = grind (arith, nat_tests, above) in e)
                  | inr before ↦
                      ap (λ b. (holds_name seen name || (b && bytes_eq (get_or names p []) name)) || bytes_eq name (get_or names i [])) (let e : nat_lt p i ≡ false = grind (arith, nat_tests, past) in e)
                      ∙ doubled (holds_name seen name) (bytes_eq name (get_or names i [])) (bytes_eq (get_or names p []) name)
                      (ap (λ (n : ℕ). bytes_eq (get_or names n []) name) (let at : p ≡ i = omega (arith, past, before) in at) ∙ bytes_eq-turned (get_or names i []) name)
                      ∙ ap (λ b. (holds_name seen name || bytes_eq name (get_or names i [])) || (b && bytes_eq (get_or names p []) name)) (let e : true ≡ nat_lt p (i + 1) = grind (arith, nat_tests, before) in e)
                ]
          ]
