-- Lists, their elements and pairs of elements.
use Rattle.std.proofs.Common.{ℕ, zero, suc, ◌≡◌, ◌≢◌, ◌<◌, ◌≤◌, ◌+◌, ◌⊎◌, inl, inr, List, [], ◌∷◌, ◌++◌, Option, Some, None, slice_get, get_or, map, flat_map, length, refl, sym, ap, ap₂, ◌∙◌, subst, arith, drop}
use Rattle.std.specs.Prelude.{All, AllPairs}
use Rattle.std.proofs.lemmas.List.Kept.{AllPairs-cons}
use Rattle.std.proofs.lemmas.List.Elements.{All-from_get_or}
use Rattle.std.proofs.lemmas.List.{map-append}
use Rattle.std.proofs.lemmas.Option.{none-some, slice_get-get_or, same_Some}
use Rattle.std.proofs.lemmas.Bool.{cases_order}
use Rattle.lists.proofs.Members.{In, in_parts, in_mapped, in_flattened, in_got}
use Rattle.lists.proofs.Cuts.{got_left, got_right}

-- a relation holds of each element and each later one
abbrev pub Pairs : {X : Type 0} → (X → X → Type 0) → List X → Type 0
Pairs R [] = Unit {0}
Pairs R (x ∷ xs) = ((y : _) → In y xs → R x y) × Pairs R xs

pub all_of : {X : Type 0} (P : X → Type 0) (xs : List X) → ((x : X) → In x xs → P x) → All P xs
all_of P [] h = λ i d l. absurd (omega arith)
all_of P (x ∷ xs) h = All-from_get_or P (x ∷ xs) x (λ i l. h (get_or (x ∷ xs) i x) (in_got (x ∷ xs) i _ (slice_get-get_or (x ∷ xs) i x l)))

pub all_pairs : {X : Type 0} (R : X → X → Type 0) (xs : List X) → Pairs R xs → AllPairs R xs
all_pairs R [] h = λ i j d a b. absurd (omega arith)
all_pairs R (x ∷ xs) h = AllPairs-cons R x xs (all_of (R x) xs h.0) (all_pairs R xs h.1)

pub pairs_append : {X : Type 0} (R : X → X → Type 0) (xs ys : List X) → Pairs R xs → Pairs R ys → ((x y : X) → In x xs → In y ys → R x y) → Pairs R (xs ++ ys)
pairs_append R [] ys h k c = k
pairs_append R (x ∷ xs) ys h k c = (later, pairs_append R xs ys h.1 k (λ a b i j. c a b (inr i) j))
  where
    later : (y : _) → In y (xs ++ ys) → R x y
    later y i = elim (in_parts xs ys y i) as (λ _. R x y) [ inl a ↦ h.0 y a | inr b ↦ c x y (inl refl) b ]

pub pairs_map : {X Y : Type 0} (S : X → X → Type 0) (R : Y → Y → Type 0) (f : X → Y) (xs : List X) → ((a b : X) → S a b → R (f a) (f b)) → Pairs S xs → Pairs R (map f xs)
pairs_map S R f [] g h = tt
pairs_map S R f (x ∷ xs) g h = (later, pairs_map S R f xs g h.1)
  where
    later : (y : _) → In y (map f xs) → R (f x) y
    later y i = let (a, j, e) = in_mapped f xs y i in subst (λ v. R (f x) v) (sym e) (g x a (h.0 a j))

pub pairs_flat : {X Y : Type 0} (S : X → X → Type 0) (R : Y → Y → Type 0) (f : X → List Y) (xs : List X) → Pairs S xs → ((x : X) → In x xs → Pairs R (f x)) → ((a b : X) (y z : Y) → S a b → In y (f a) → In z (f b) → R y z) → Pairs R (flat_map f xs)
pairs_flat S R f [] s own across = tt
pairs_flat S R f (x ∷ xs) s own across = pairs_append R (f x) (flat_map f xs) (own x (inl refl)) (pairs_flat S R f xs s.1 (λ y i. own y (inr i)) across) cross
  where
    cross : (y z : _) → In y (f x) → In z (flat_map f xs) → R y z
    cross y z i j = let (b, k, l) = in_flattened f xs z j in across x b y z (s.0 b k) i l

pub pairs_weaken : {X : Type 0} (S R : X → X → Type 0) (xs : List X) → ((a b : X) → S a b → R a b) → Pairs S xs → Pairs R xs
pairs_weaken S R [] g h = tt
pairs_weaken S R (x ∷ xs) g h = ((λ y i. g x y (h.0 y i)), pairs_weaken S R xs g h.1)

-- of two places in a list the earlier
pub pair_at : {X : Type 0} (R : X → X → Type 0) (xs : List X) (i j : ℕ) (x y : X) → Pairs R xs → i < j → slice_get xs i ≡ Some x → slice_get xs j ≡ Some y → R x y
pair_at R [] i j x y h l e f = absurd (none-some x e)
pair_at R (z ∷ zs) i zero x y h l e f = absurd (omega arith)
pair_at R (z ∷ zs) zero (suc j) x y h l e f = subst (λ v. R v y) (same_Some _ _ e) (h.0 y (in_got zs j y f))
pair_at R (z ∷ zs) (suc i) (suc j) x y h l e f = pair_at R zs i j x y h.1 (omega arith) e f

-- elements of which neither can stand before the other stand at one place
pub one_of_pairs : {X : Type 0} (R : X → X → Type 0) (xs : List X) (i j : ℕ) (x y : X) → Pairs R xs → slice_get xs i ≡ Some x → slice_get xs j ≡ Some y → ¬ R x y → ¬ R y x → i ≡ j
one_of_pairs R xs i j x y h e f not_before not_after = by (cases_order i j)
  where
    by : (i ≡ j) ⊎ ((i < j) ⊎ (j < i)) → i ≡ j
    by (inl same) = same
    by (inr (inl l)) = absurd (not_before (pair_at R xs i j x y h l e f))
    by (inr (inr l)) = absurd (not_after (pair_at R xs j i y x h l f e))

-- elements that differ stand at one place each
pub one_place : {X : Type 0} (xs : List X) (i j : ℕ) (x : X) → Pairs (λ a b. a ≢ b) xs → slice_get xs i ≡ Some x → slice_get xs j ≡ Some x → i ≡ j
one_place xs i j x h e f = one_of_pairs (λ a b. a ≢ b) xs i j x x h e f (λ apart. apart refl) (λ apart. apart refl)

-- where an element of joined lists comes from
abbrev pub start : {X Y : Type 0} → (X → List Y) → List X → ℕ → ℕ
start f [] i = 0
start f (x ∷ xs) zero = 0
start f (x ∷ xs) (suc i) = length (f x) + start f xs i

pub record From {X Y : Type 0} (f : X → List Y) (xs : List X) (n : ℕ) (y : Y) : Type 0 where
  pub at : ℕ
  pub number : ℕ
  pub item : X
  pub is_item : slice_get xs at ≡ Some item
  pub is_here : slice_get (f item) number ≡ Some y
  pub is_place : n ≡ start f xs at + number

pub got_append : {X : Type 0} (xs ys : List X) (n : ℕ) (x : X) → slice_get (xs ++ ys) n ≡ Some x → (slice_get xs n ≡ Some x) ⊎ ((k : ℕ) × (n ≡ length xs + k) × (slice_get ys k ≡ Some x))
got_append [] ys n x e = inr (n, (let h : n ≡ 0 + n = omega arith in h), e)
got_append (z ∷ zs) ys zero x e = inl e
got_append (z ∷ zs) ys (suc n) x e = elim (got_append zs ys n x e) as (λ _. (slice_get (z ∷ zs) (suc n) ≡ Some x) ⊎ ((k : ℕ) × (suc n ≡ length (z ∷ zs) + k) × (slice_get ys k ≡ Some x))) [
  | inl a ↦ inl a
  | inr b ↦ let (k, p, q) = b in inr (k, (let h : suc n ≡ suc (length zs) + k = omega arith in h), q)
]

pub from : {X Y : Type 0} (f : X → List Y) (xs : List X) (n : ℕ) (y : Y) → slice_get (flat_map f xs) n ≡ Some y → From f xs n y
from f [] n y e = absurd (none-some y e)
from f (x ∷ xs) n y e = elim (got_append (f x) (flat_map f xs) n y e) as (λ _. From f (x ∷ xs) n y) [
  | inl a ↦ record { at = 0; number = n; item = x; is_item = refl; is_here = a; is_place = (let h : n ≡ 0 + n = omega arith in h) }
  | inr b ↦
      let (k, p, q) = b in
      let r : From f xs k y = from f xs k y q in
      record { at = suc r.at; number = r.number; item = r.item; is_item = r.is_item; is_here = r.is_here; is_place = (let s : k ≡ start f xs r.at + r.number = r.is_place in omega arith) }
]

pub in_some_map : {X Y : Type 0} (f : X → Y) (o : Option X) (y : Y) → Rattle.std.specs.Prelude.option_map f o ≡ Some y → (x : X) × (o ≡ Some x) × (f x ≡ y)
in_some_map f None y e = absurd (none-some y e)
in_some_map f (Some x) y e = (x, refl, same_Some _ _ e)

pub map_flat : {X Y Z : Type 0} (g : Y → Z) (f : X → List Y) (h : X → List Z) (xs : List X) → ((x : X) → In x xs → map g (f x) ≡ h x) → map g (flat_map f xs) ≡ flat_map h xs
map_flat g f h [] same = refl
map_flat g f h (x ∷ xs) same = map-append g (f x) (flat_map f xs) ∙ ap₂ (λ a b. a ++ b) (same x (inl refl)) (map_flat g f h xs (λ y i. same y (inr i)))

-- joined lists of equal lengths are equal part by part
append_same : {X : Type 0} (xs ys zs ws : List X) → length xs ≡ length zs → xs ++ ys ≡ zs ++ ws → (xs ≡ zs) × (ys ≡ ws)
append_same [] ys [] ws l e = (refl, e)
append_same [] ys (z ∷ zs) ws l e = absurd (omega arith)
append_same (x ∷ xs) ys [] ws l e = absurd (omega arith)
append_same (x ∷ xs) ys (z ∷ zs) ws l e =
    let r = append_same xs ys zs ws (let h : length xs ≡ length zs = omega arith in h) (ap (drop 1) e) in
    (ap₂ (λ a b. a ∷ b) (same_Some _ _ (ap (λ v. slice_get v 0) e)) r.0, r.1)

pub flat_same : {X Y : Type 0} (f g : X → List Y) (xs : List X) → ((x : X) → length (f x) ≡ length (g x)) → flat_map f xs ≡ flat_map g xs → (x : X) → In x xs → f x ≡ g x
flat_same f g [] l e x i = absurd i
flat_same f g (y ∷ ys) l e x (inl same) = ap f same ∙ (append_same (f y) (flat_map f ys) (g y) (flat_map g ys) (l y) e).0 ∙ ap g (sym same)
flat_same f g (y ∷ ys) l e x (inr i) = flat_same f g ys l (append_same (f y) (flat_map f ys) (g y) (flat_map g ys) (l y) e).1 x i

-- the element that stands at a place of an element's list stands there in the joined lists
pub into : {X Y : Type 0} (f : X → List Y) (xs : List X) (at number : ℕ) (x : X) (y : Y) → slice_get xs at ≡ Some x → slice_get (f x) number ≡ Some y → slice_get (flat_map f xs) (start f xs at + number) ≡ Some y
into f [] at number x y e g = absurd (none-some x e)
into f (z ∷ zs) zero number x y e g =
    let same : 0 + number ≡ number = omega arith in
    ap (slice_get (f z ++ flat_map f zs)) same ∙ got_left (f z) (flat_map f zs) number y (ap (λ v. slice_get (f v) number) (same_Some _ _ e) ∙ g)
into f (z ∷ zs) (suc at) number x y e g =
    let same : (length (f z) + start f zs at) + number ≡ length (f z) + (start f zs at + number) = omega arith in
    ap (slice_get (f z ++ flat_map f zs)) same ∙ got_right (f z) (flat_map f zs) (start f zs at + number) ∙ into f zs at number x y e g

-- lists of later elements begin later
pub start_less : {X Y : Type 0} (f : X → List Y) (xs : List X) (i j : ℕ) (x y : X) → slice_get xs i ≡ Some x → slice_get xs j ≡ Some y → i < j → start f xs i + length (f x) ≤ start f xs j
start_less f [] i j x y e g l = absurd (none-some x e)
start_less f (z ∷ zs) i zero x y e g l = absurd (omega arith)
start_less f (z ∷ zs) zero (suc j) x y e g l = let same : length (f z) ≡ length (f x) = ap (λ v. length (f v)) (same_Some _ _ e) in let h : 0 + length (f x) ≤ length (f z) + start f zs j = omega arith in h
start_less f (z ∷ zs) (suc i) (suc j) x y e g l =
    let r : start f zs i + length (f x) ≤ start f zs j = start_less f zs i j x y e g (omega arith) in
    let h : (length (f z) + start f zs i) + length (f x) ≤ length (f z) + start f zs j = omega arith in h
