-- Lists that a loop makes of a list, one item after another.
use Rattle.std.proofs.Common.{◌≡◌, sym, ap, ◌∙◌, ℕ, ◌+◌, ◌<◌, List, [], ◌∷◌, ◌++◌, length, take, get_or, flat_map}
use Rattle.std.proofs.lemmas.List.{append_assoc, flat_map_more, take_more}

pub taken_added : {X : Type 0} (base old new items : List X) (i : ℕ) (x : X) → i < length items → x ≡ get_or items i x → new ≡ old ++ x ∷ [] → old ≡ base ++ take i items → new ≡ base ++ take (i + 1) items
taken_added base old new items i x l is more before =
    more
    ∙ ap (λ xs. xs ++ x ∷ []) before
    ∙ append_assoc base (take i items) (x ∷ [])
    ∙ ap (λ xs. base ++ xs) (ap (λ z. take i items ++ z ∷ []) is ∙ sym (take_more items i x l))

pub flat_added : {X Y : Type 0} (f : X → List Y) (base old new : List Y) (items : List X) (i : ℕ) (x : X) → i < length items → x ≡ get_or items i x → new ≡ old ++ f x → old ≡ base ++ flat_map f (take i items) → new ≡ base ++ flat_map f (take (i + 1) items)
flat_added f base old new items i x l is more before =
    more
    ∙ ap (λ ys. ys ++ f x) before
    ∙ flat_map_more f base (take i items) x
    ∙ ap (λ xs. base ++ flat_map f xs) (ap (λ z. take i items ++ z ∷ []) is ∙ sym (take_more items i x l))
