-- The first model of a name by its number.
use Rattle.std.proofs.Common.{◌≡◌, refl, sym, ap, ◌∙◌, ℕ, zero, suc, ◌+◌, ◌<◌, ◌≤◌, ◌⊎◌, inl, inr, Bool, true, false, cond, not, nat_lt, List, [], ◌∷◌, length, drop, get_or, Some, None, slice_get, position, MatchOption, bytes_eq, arith}
use Rattle.std.proofs.lemmas.Bool.{ltb-true, ltb-false}
use Rattle.std.proofs.Math.Seq.{drop-cons}
use Rattle.std.proofs.lemmas.Iterator.Adapters.{position_from-zero}
use Rattle.std.proofs.lemmas.List.Folds.{find_at}
use Rattle.std.proofs.lemmas.Map.Text.{btree_map_updates_str}
use Rattle.std.proofs.lemmas.Option.{slice_get_cases}
use Rattle.std.specs.BTreeMap.{BTreeMap, UpdatesBy}
use Rattle.std.specs.Cmp.Lexicographic.{slice_cmp}
use Rattle.std.specs.List.{position_from, position_or_len}
use Rattle.std.specs.Ordering.{nat_cmp}
use denote.Ref.{Bor}
use Rattle.netlist_core.specs.declared.model.Model.{Model}
use Rattle.netlist_core.specs.Names.{Name, is_model_named, model_named}
use Rattle.model_index.specs.ByName.{IsNumberOf, number_kept, HasNumbersFrom}

-- what stands before the first that passes does not pass
fails_before : {X : Type 0} (p : X → Bool) (xs : List X) (k : ℕ) (x : X) → k < position_or_len p xs → slice_get xs k ≡ Some x → p x ≡ false
fails_before p [] k x h e = absurd (cc)
fails_before {X} p (first ∷ xs) k x h e = by (p first) refl (fails_before p xs) k h e
  where
    by : (b : Bool) → p first ≡ b → ((j : ℕ) (y : X) → j < position_or_len p xs → slice_get xs j ≡ Some y → p y ≡ false) → (j : ℕ) → j < cond (not b) (1 + position_or_len p xs) 0 → slice_get (first ∷ xs) j ≡ Some x → p x ≡ false
    by true is later j g d = absurd (omega arith)
    by false is later zero g d = ap p (sym (let same : first ≡ x = cc in same)) ∙ is
    by false is later (suc j) g d = later j x (omega arith) d

-- the first that passes has a number, or there is none
pub number_found : (models : List Model) (name : Name) → MatchOption (position (is_model_named name) models) (model_named models name ≡ None) (IsNumberOf models name)
number_found models name = by (nat_lt (position_or_len (is_model_named name) models) (length models)) refl (slice_get_cases models (position_or_len (is_model_named name) models)).1
  where
    by : (b : Bool) → nat_lt (position_or_len (is_model_named name) models) (length models) ≡ b → ((m : Model) × (position_or_len (is_model_named name) models < length models) × (slice_get models (position_or_len (is_model_named name) models) ≡ Some m) × (get_or models (position_or_len (is_model_named name) models) m ≡ m)) ⊎ ((length models ≤ position_or_len (is_model_named name) models) × (slice_get models (position_or_len (is_model_named name) models) ≡ None)) → MatchOption (cond b (Some (position_or_len (is_model_named name) models)) None) (model_named models name ≡ None) (IsNumberOf models name)
    by true e (inl there) = record {
      model = there.0;
      is_there = there.2;
      is_named = find_at (is_model_named name) models ∙ there.2;
      is_first = fails_before (is_model_named name) models;
    }
    by true e (inr past) = absurd (let h : position_or_len (is_model_named name) models < length models = ltb-true _ _ e in omega arith)
    by false e (inl there) = absurd (let h : length models ≤ position_or_len (is_model_named name) models = ltb-false _ _ e in omega arith)
    by false e (inr past) = find_at (is_model_named name) models ∙ past.1

-- one more model in front
pub numbered_more : (models : List Model) (n i : ℕ) (model : Model) (key : Bor (List ℕ)) (old new : BTreeMap (Bor (List ℕ)) ℕ) → i ≡ n + 1 → n < length models → model ≡ get_or models n model → key.now ≡ model.name → HasNumbersFrom old i (drop i models) → UpdatesBy (λ x y. slice_cmp nat_cmp x.now y.now) (λ k. slice_cmp nat_cmp key.now k.now) old new (Some n) → HasNumbersFrom new n (drop n models)
numbered_more models n i model key old new next within is named had updates = λ name.
    btree_map_updates_str key.now old new (Some n) updates name
    ∙ ap (λ k. cond (bytes_eq k name) (Some n) (number_kept old name)) named
    ∙ ap (λ o. cond (bytes_eq model.name name) (Some n) o) (had name ∙ ap (λ j. position_from (is_model_named name) j (drop i models)) next ∙ ap (λ j. position_from (is_model_named name) (n + 1) (drop j models)) (let e : i ≡ suc n = omega arith in e))
    ∙ ap (λ ms. position_from (is_model_named name) n ms) (sym (drop-cons models n model within ∙ ap (λ m. m ∷ drop (suc n) models) (sym is)))

-- what a map has for a name, once it has all models
pub number_is : (numbers : BTreeMap (Bor (List ℕ)) ℕ) (models : List Model) (name : Name) → HasNumbersFrom numbers 0 models → number_kept numbers name ≡ position (is_model_named name) models
number_is numbers models name has = has name ∙ sym (position_from-zero (is_model_named name) models)
