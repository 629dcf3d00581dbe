-- Lists that are joined from parts, cut at a part, and what stands at their places.
use Rattle.std.proofs.Common.{◌⊎◌, inl, inr, ap₂, ℕ, zero, suc, ◌≡◌, ◌<◌, ◌+◌, List, [], ◌∷◌, ◌++◌, Some, slice_get, get_or, map, flat_map, length, take, set, ◌≤◌, ◌≢◌, refl, sym, ap, ◌∙◌, arith, append_assoc, length-append}
use Rattle.std.proofs.lemmas.List.{map_more}
use Rattle.std.proofs.lemmas.Option.{none-some, same_Some}

pub got_left : {X : Type 0} (xs ys : List X) (k : ℕ) (x : X) → slice_get xs k ≡ Some x → slice_get (xs ++ ys) k ≡ Some x
got_left [] ys k x e = absurd (none-some x e)
got_left (y ∷ xs) ys zero x e = e
got_left (y ∷ xs) ys (suc k) x e = got_left xs ys k x e

pub got_right : {X : Type 0} (xs ys : List X) (k : ℕ) → slice_get (xs ++ ys) (length xs + k) ≡ slice_get ys k
got_right [] ys k = let same : 0 + k ≡ k = omega arith in ap (slice_get ys) same
got_right (x ∷ xs) ys k = let same : suc (length xs) + k ≡ suc (length xs + k) = omega arith in ap (slice_get (x ∷ (xs ++ ys))) same ∙ got_right xs ys k

-- what stands before a part, the part, and the rest
pub flat_cut : {X Y : Type 0} (f : X → List Y) (xs : List X) (k : ℕ) (x : X) → slice_get xs k ≡ Some x → (rest : List Y) × (flat_map f xs ≡ flat_map f (take k xs) ++ (f x ++ rest))
flat_cut f [] k x e = absurd (none-some x e)
flat_cut f (y ∷ ys) zero x e = (flat_map f ys, ap (λ v. f v ++ flat_map f ys) (same_Some _ _ e))
flat_cut f (y ∷ ys) (suc k) x e =
    let (rest, same) = flat_cut f ys k x e in
    (rest, ap (λ v. f y ++ v) same ∙ sym (append_assoc (f y) (flat_map f (take k ys)) (f x ++ rest)))

-- the parts up to one are those before it, and it
pub flat_next : {X Y : Type 0} (f : X → List Y) (xs : List X) (k : ℕ) (x : X) → slice_get xs k ≡ Some x → flat_map f (take (suc k) xs) ≡ flat_map f (take k xs) ++ f x
flat_next f [] k x e = absurd (none-some x e)
flat_next f (y ∷ ys) zero x e = nothing (f y) ∙ ap f (same_Some _ _ e)
  where
    nothing : {Y : Type 0} (zs : List Y) → zs ++ [] ≡ zs
    nothing [] = refl
    nothing (z ∷ zs) = ap (λ v. z ∷ v) (nothing zs)
flat_next f (y ∷ ys) (suc k) x e = ap (λ v. f y ++ v) (flat_next f ys k x e) ∙ sym (append_assoc (f y) (flat_map f (take k ys)) (f x))

-- the length up to a part and with it is at most the whole's
pub flat_within : {X Y : Type 0} (f : X → List Y) (xs : List X) (k : ℕ) (x : X) → slice_get xs k ≡ Some x → length (flat_map f (take k xs)) + length (f x) ≤ length (flat_map f xs)
flat_within f xs k x e =
    let (rest, cut) = flat_cut f xs k x e in
    let whole : length (flat_map f xs) ≡ length (flat_map f (take k xs)) + (length (f x) + length rest) = ap length cut ∙ length-append (flat_map f (take k xs)) (f x ++ rest) ∙ ap (λ n. length (flat_map f (take k xs)) + n) (length-append (f x) rest) in
    omega arith

-- what is written at a place stands there, and nothing else changes
pub got_set_same : {X : Type 0} (xs : List X) (i : ℕ) (v : X) → i < length xs → slice_get (set xs i v) i ≡ Some v
got_set_same [] i v l = absurd (omega arith)
got_set_same (x ∷ xs) zero v l = refl
got_set_same (x ∷ xs) (suc i) v l = got_set_same xs i v (omega arith)

pub got_set_other : {X : Type 0} (xs : List X) (i k : ℕ) (v : X) → k ≢ i → slice_get (set xs i v) k ≡ slice_get xs k
got_set_other [] i k v n = refl
got_set_other (x ∷ xs) zero zero v n = absurd (n refl)
got_set_other (x ∷ xs) zero (suc k) v n = refl
got_set_other (x ∷ xs) (suc i) zero v n = refl
got_set_other (x ∷ xs) (suc i) (suc k) v n = got_set_other xs i k v (λ e. n (ap suc e))

-- what is taken of a list
pub got_taken : {X : Type 0} (xs : List X) (n k : ℕ) (x : X) → k < n → slice_get xs k ≡ Some x → slice_get (take n xs) k ≡ Some x
got_taken [] n k x l e = absurd (none-some x e)
got_taken (y ∷ xs) zero k x l e = absurd (omega arith)
got_taken (y ∷ xs) (suc n) zero x l e = e
got_taken (y ∷ xs) (suc n) (suc k) x l e = got_taken xs n k x (omega arith) e

pub take_taken : {X : Type 0} (xs : List X) (k n : ℕ) → k < n → take k (take n xs) ≡ take k xs
take_taken [] zero zero l = refl
take_taken [] zero (suc n) l = refl
take_taken [] (suc k) zero l = refl
take_taken [] (suc k) (suc n) l = refl
take_taken (y ∷ xs) k zero l = absurd (omega arith)
take_taken (y ∷ xs) zero (suc n) l = refl
take_taken (y ∷ xs) (suc k) (suc n) l = ap (λ v. y ∷ v) (take_taken xs k n (omega arith))

-- a loop that adds what comes of each item
pub added_more : {X Y : Type 0} (f : X → Y) (base old new : List Y) (items : List X) (i : ℕ) (d : X) (y : Y) → i < length items → new ≡ old ++ y ∷ [] → y ≡ f (get_or items i d) → old ≡ base ++ map f (take i items) → new ≡ base ++ map f (take (i + 1) items)
added_more f base old new items i d y l more same before =
    more ∙ ap (λ (ys : List _). ys ++ y ∷ []) before ∙ append_assoc base (map f (take i items)) (y ∷ [])
    ∙ ap (λ (ys : List _). base ++ ys) (ap (λ z. map f (take i items) ++ z ∷ []) same ∙ sym (map_more f items i d l))

-- lists with the same items are one list
pub same_items : {X : Type 0} (xs ys : List X) → length xs ≡ length ys → ((k : ℕ) (y : X) → slice_get ys k ≡ Some y → slice_get xs k ≡ Some y) → xs ≡ ys
same_items [] [] l h = refl
same_items [] (y ∷ ys) l h = absurd (omega arith)
same_items (x ∷ xs) [] l h = absurd (omega arith)
same_items (x ∷ xs) (y ∷ ys) l h = ap₂ (λ z zs. z ∷ zs) (same_Some _ _ (h 0 y refl)) (same_items xs ys (omega arith) (λ k z e. h (suc k) z e))

-- what stands after one more item stood there, or is it
pub got_push : {X : Type 0} (xs : List X) (last : X) (k : ℕ) (x : X) → slice_get (xs ++ last ∷ []) k ≡ Some x → (slice_get xs k ≡ Some x) ⊎ ((k ≡ length xs) × (x ≡ last))
got_push [] last zero x e = inr (refl, sym (same_Some _ _ e))
got_push [] last (suc k) x e = absurd (none-some x e)
got_push (y ∷ xs) last zero x e = inl e
got_push (y ∷ xs) last (suc k) x e = by (got_push xs last k x e)
  where
    by : (slice_get xs k ≡ Some x) ⊎ ((k ≡ length xs) × (x ≡ last)) → (slice_get xs k ≡ Some x) ⊎ ((suc k ≡ suc (length xs)) × (x ≡ last))
    by (inl h) = inl h
    by (inr h) = inr (ap suc h.0, h.1)
