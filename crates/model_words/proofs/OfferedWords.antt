-- The earliest of the words that the elements of a list give, after one more element.
use Rattle.std.proofs.Common.{◌≡◌, refl, sym, ap, ◌∙◌, ℕ, ◌+◌, ◌<◌, List, [], ◌∷◌, ◌++◌, length, take, get_or, flat_map, filter_map, Option, Some, None}
use Rattle.std.proofs.lemmas.Grind.{flat_map-append}
use Rattle.std.proofs.lemmas.List.{append-nil, take_more}
use Rattle.std.proofs.lemmas.List.Elements.{filter_map-append}
use Rattle.std.specs.List.{cons_option}
use Rattle.std.specs.Option.{option_to_list}
use Rattle.netlist_core.specs.declared.model.Port.{Port}
use Rattle.netlist_rules.specs.ModelFaults.{earliest}
use Rattle.model_words.specs.Words.{earliest_after}
use Rattle.model_words.proofs.EarliestWords.{earliest-append, earliest_after-append}

-- the first elements and one more
pub taken : {X : Type 0} (xs : List X) (i : ℕ) (x : X) → i < length xs → x ≡ get_or xs i x → take (i + 1) xs ≡ take i xs ++ x ∷ []
taken xs i x within is = take_more xs i x within ∙ ap (λ y. take i xs ++ y ∷ []) (sym is)

-- what may be there, in front of a list
pub put_in_front : {Y : Type 0} (o : Option Y) (rest : List Y) → option_to_list o ++ rest ≡ cons_option o rest
put_in_front None rest = refl
put_in_front (Some y) rest = refl

-- what they give, and what one more gives
pub flat_taken : {X Y : Type 0} (f : X → List Y) (xs : List X) (i : ℕ) (x : X) → i < length xs → x ≡ get_or xs i x → flat_map f (take (i + 1) xs) ≡ flat_map f (take i xs) ++ f x
flat_taken f xs i x within is =
    ap (flat_map f) (taken xs i x within is)
    ∙ flat_map-append f (take i xs) (x ∷ [])
    ∙ ap (λ ys. flat_map f (take i xs) ++ ys) (append-nil (f x))

pub filtered_taken : {X Y : Type 0} (f : X → Option Y) (xs : List X) (i : ℕ) (x : X) → i < length xs → x ≡ get_or xs i x → filter_map f (take (i + 1) xs) ≡ filter_map f (take i xs) ++ option_to_list (f x)
filtered_taken f xs i x within is =
    ap (filter_map f) (taken xs i x within is)
    ∙ filter_map-append f (take i xs) (x ∷ [])
    ∙ ap (λ ys. filter_map f (take i xs) ++ ys) (sym (put_in_front (f x) []) ∙ append-nil (option_to_list (f x)))

-- the earliest of all of it
pub offered_more : {X : Type 0} (words : X → List Port) (xs : List X) (i : ℕ) (x : X) (found new : Option Port) → i < length xs → x ≡ get_or xs i x →
    found ≡ earliest (flat_map words (take i xs)) → new ≡ earliest_after found (words x) → new ≡ earliest (flat_map words (take (i + 1) xs))
offered_more words xs i x found new within is had offered =
    offered
    ∙ ap (λ o. earliest_after o (words x)) had
    ∙ sym (earliest-append (flat_map words (take i xs)) (words x))
    ∙ ap earliest (sym (flat_taken words xs i x within is))

pub filtered_more : {X : Type 0} (word : X → Option Port) (xs : List X) (i : ℕ) (x : X) (start found new : Option Port) → i < length xs → x ≡ get_or xs i x →
    found ≡ earliest_after start (filter_map word (take i xs)) → new ≡ earliest_after found (option_to_list (word x)) → new ≡ earliest_after start (filter_map word (take (i + 1) xs))
filtered_more word xs i x start found new within is had offered =
    offered
    ∙ ap (λ o. earliest_after o (option_to_list (word x))) had
    ∙ earliest_after-append start (filter_map word (take i xs)) (option_to_list (word x))
    ∙ ap (earliest_after start) (sym (filtered_taken word xs i x within is))
