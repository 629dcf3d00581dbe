-- Lists that a loop makes of a list, one item after another.
use Rattle.std.proofs.Common.{◌≡◌, refl, sym, ap, ◌∙◌, ℕ, ◌+◌, ◌<◌, Bool, true, false, cond, List, [], ◌∷◌, ◌++◌, length, take, get_or, flat_map}
use Rattle.std.specs.Prelude.{Option, filter_map, option_to_list}
use Rattle.std.specs.Bool.{then_some}
use Rattle.std.proofs.lemmas.List.{append-nil, append_assoc}
use Rattle.model_words.proofs.OfferedWords.{filtered_taken, flat_taken}

pub flat_more : {X Y : Type 0} (f : X → List Y) (start had new : List Y) (xs : List X) (i : ℕ) (x : X) → i < length xs → x ≡ get_or xs i x →
    had ≡ start ++ flat_map f (take i xs) → new ≡ had ++ f x → new ≡ start ++ flat_map f (take (i + 1) xs)
flat_more f start had new xs i x within is before pushed =
    pushed
    ∙ ap (λ ys. ys ++ f x) before
    ∙ append_assoc start (flat_map f (take i xs)) (f x)
    ∙ ap (λ ys. start ++ ys) (sym (flat_taken f xs i x within is))

-- an item is pushed where a test says so
pub kept_more : {X Y : Type 0} (f : X → Option Y) (start had new : List Y) (xs : List X) (i : ℕ) (x : X) (test : Bool) (y : Y) → i < length xs → x ≡ get_or xs i x →
    f x ≡ then_some test y → had ≡ start ++ filter_map f (take i xs) → new ≡ cond test (had ++ y ∷ []) had → new ≡ start ++ filter_map f (take (i + 1) xs)
kept_more f start had new xs i x test y within is gives before pushed =
    pushed
    ∙ by test
    ∙ ap (λ ys. ys ++ option_to_list (then_some test y)) before
    ∙ append_assoc start (filter_map f (take i xs)) (option_to_list (then_some test y))
    ∙ ap (λ ys. start ++ ys) (ap (λ o. filter_map f (take i xs) ++ option_to_list o) (sym gives) ∙ sym (filtered_taken f xs i x within is))
  where
    by : (t : Bool) → cond t (had ++ y ∷ []) had ≡ had ++ option_to_list (then_some t y)
    by true = refl
    by false = sym (append-nil had)
