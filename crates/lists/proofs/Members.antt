-- Membership in lists, by cases.
use Rattle.std.proofs.Common.{◌∙◌, ◌≡◌, refl, sym, ap, ap₂, subst, ℕ, zero, suc, ◌<◌, ◌⊎◌, inl, inr, List, [], ◌∷◌, ◌++◌, map, length, get_or, Bool, true, false, ◌||◌, arith}
use Rattle.std.specs.Prelude.{Contains, slice_get, bytes_eq, flat_map, filter_map, Option, Some, None}
use Rattle.std.specs.List.{cons_option, list_any, AllByRecursion, IsDistinct}
use Rattle.std.proofs.lemmas.Bool.{or_right, or_cases, true≢false}
use Rattle.std.proofs.lemmas.Option.{none-some, same_Some}
use Rattle.std.proofs.lemmas.Slice.Eq.{bytes_eq-Decides}

abbrev pub In : {X : Type 0} → X → List X → Type 0
In x [] = ⊥
In x (y ∷ ys) = (x ≡ y) ⊎ In x ys

in_at : {X : Type 0} (xs : List X) (k : ℕ) (x : X) → k < length xs → get_or xs k x ≡ x → In x xs
in_at [] k x l e = absurd (omega arith)
in_at (y ∷ ys) zero x l e = inl (sym e)
in_at (y ∷ ys) (suc k) x l e = inr (in_at ys k x (omega arith) e)

pub in_from : {X : Type 0} (xs : List X) (x : X) → Contains xs x → In x xs
in_from xs x c = in_at xs c.0 x c.1 c.2

pub contains_from : {X : Type 0} (xs : List X) (x : X) → In x xs → Contains xs x
contains_from [] x i = absurd i
contains_from (y ∷ ys) x (inl e) = (0, omega arith, sym e)
contains_from (y ∷ ys) x (inr i) = let c : Contains ys x = contains_from ys x i in (suc c.0, (let h : c.0 < length ys = c.1 in omega arith), c.2)

pub in_left : {X : Type 0} (xs ys : List X) (x : X) → In x xs → In x (xs ++ ys)
in_left [] ys x i = absurd i
in_left (z ∷ zs) ys x (inl e) = inl e
in_left (z ∷ zs) ys x (inr i) = inr (in_left zs ys x i)

pub in_right : {X : Type 0} (xs ys : List X) (x : X) → In x ys → In x (xs ++ ys)
in_right [] ys x i = i
in_right (z ∷ zs) ys x i = inr (in_right zs ys x i)

pub in_parts : {X : Type 0} (xs ys : List X) (x : X) → In x (xs ++ ys) → In x xs ⊎ In x ys
in_parts [] ys x i = inr i
in_parts (z ∷ zs) ys x (inl e) = inl (inl e)
in_parts (z ∷ zs) ys x (inr i) = elim (in_parts zs ys x i) as (λ _. In x (z ∷ zs) ⊎ In x ys) [ inl a ↦ inl (inr a) | inr b ↦ inr b ]

pub in_map : {X Y : Type 0} (f : X → Y) (xs : List X) (x : X) → In x xs → In (f x) (map f xs)
in_map f [] x i = absurd i
in_map f (y ∷ ys) x (inl e) = inl (ap f e)
in_map f (y ∷ ys) x (inr i) = inr (in_map f ys x i)

pub in_mapped : {X Y : Type 0} (f : X → Y) (xs : List X) (y : Y) → In y (map f xs) → (x : X) × In x xs × (y ≡ f x)
in_mapped f [] y i = absurd i
in_mapped f (x ∷ xs) y (inl e) = (x, inl refl, e)
in_mapped f (x ∷ xs) y (inr i) = let r = in_mapped f xs y i in (r.0, inr r.1, r.2)

pub in_flat : {X Y : Type 0} (f : X → List Y) (xs : List X) (x : X) (y : Y) → In x xs → In y (f x) → In y (flat_map f xs)
in_flat f [] x y i j = absurd i
in_flat f (z ∷ zs) x y (inl e) j = in_left (f z) (flat_map f zs) y (subst (λ v. In y (f v)) e j)
in_flat f (z ∷ zs) x y (inr i) j = in_right (f z) (flat_map f zs) y (in_flat f zs x y i j)

pub in_flattened : {X Y : Type 0} (f : X → List Y) (xs : List X) (y : Y) → In y (flat_map f xs) → (x : X) × In x xs × In y (f x)
in_flattened f [] y i = absurd i
in_flattened f (z ∷ zs) y i = elim (in_parts (f z) (flat_map f zs) y i) as (λ _. (x : _) × In x (z ∷ zs) × In y (f x)) [
  | inl a ↦ (z, inl refl, a)
  | inr b ↦ let r = in_flattened f zs y b in (r.0, inr r.1, r.2)
]

-- a member stands at a place
pub got_from : {X : Type 0} (xs : List X) (x : X) → In x xs → (k : ℕ) × (slice_get xs k ≡ Some x)
got_from [] x i = absurd i
got_from (y ∷ ys) x (inl e) = (0, ap Some (sym e))
got_from (y ∷ ys) x (inr i) = let r = got_from ys x i in (suc r.0, r.1)

pub in_got : {X : Type 0} (xs : List X) (k : ℕ) (x : X) → slice_get xs k ≡ Some x → In x xs
in_got [] k x e = absurd (none-some x e)
in_got (y ∷ ys) zero x e = inl (sym (same_Some _ _ e))
in_got (y ∷ ys) (suc k) x e = inr (in_got ys k x e)

-- what holds of each element
pub all_in : {X : Type 0} (P : X → Type 0) (xs : List X) (x : X) → AllByRecursion P xs → In x xs → P x
all_in P [] x a i = absurd i
all_in P (y ∷ ys) x a (inl e) = subst P (sym e) a.0
all_in P (y ∷ ys) x a (inr i) = all_in P ys x a.1 i

-- functions that agree on each element
pub map_in : {X Y : Type 0} (f g : X → Y) (xs : List X) → ((x : X) → In x xs → f x ≡ g x) → map f xs ≡ map g xs
map_in f g [] same = refl
map_in f g (x ∷ xs) same = ap₂ (λ y ys. y ∷ ys) (same x (inl refl)) (map_in f g xs (λ y i. same y (inr i)))

-- whether a word is in a list
pub is_in : (x : List ℕ) (xs : List (List ℕ)) → In x xs ⊎ ¬ (In x xs)
is_in x [] = inr (λ i. i)
is_in x (y ∷ ys) = by (bytes_eq x y) refl (is_in x ys)
  where
    by : (b : Bool) → bytes_eq x y ≡ b → In x ys ⊎ ¬ (In x ys) → In x (y ∷ ys) ⊎ ¬ (In x (y ∷ ys))
    by true h r = inl (inl ((bytes_eq-Decides x y).0 h))
    by false h (inl i) = inl (inr i)
    by false h (inr n) = inr (λ i. elim i as (λ _. ⊥) [ inl e ↦ (let t : bytes_eq x y ≡ true = (bytes_eq-Decides x y).1 e in cc) | inr j ↦ n j ])

-- no word stands twice
abbrev pub Distinct : List (List ℕ) → Type 0
Distinct [] = Unit {0}
Distinct (x ∷ xs) = ¬ (In x xs) × Distinct xs

apart : (x : List ℕ) (xs : List (List ℕ)) → AllByRecursion (λ y. bytes_eq x y ≡ false) xs → ¬ (In x xs)
apart x [] a i = i
apart x (y ∷ ys) a (inl e) = let t : bytes_eq x y ≡ true = (bytes_eq-Decides x y).1 e in let f : bytes_eq x y ≡ false = a.0 in cc
apart x (y ∷ ys) a (inr i) = apart x ys a.1 i

pub distinct_from : (xs : List (List ℕ)) → IsDistinct bytes_eq xs → Distinct xs
unfolding IsDistinct
distinct_from [] d = tt
distinct_from (x ∷ xs) d = (apart x xs d.0, distinct_from xs d.1)

differs : (x : List ℕ) (xs : List (List ℕ)) → ¬ (In x xs) → AllByRecursion (λ y. bytes_eq x y ≡ false) xs
differs x [] n = tt
differs x (y ∷ ys) n = (by (bytes_eq x y) refl, differs x ys (λ i. n (inr i)))
  where
    by : (b : Bool) → bytes_eq x y ≡ b → b ≡ false
    by true h = absurd (n (inl ((bytes_eq-Decides x y).0 h)))
    by false h = refl

pub is_distinct : (xs : List (List ℕ)) → Distinct xs → IsDistinct bytes_eq xs
unfolding IsDistinct
is_distinct [] d = tt
is_distinct (x ∷ xs) d = (differs x xs d.0, is_distinct xs d.1)

-- what comes of a part of the items
pub in_filtered : {X Y : Type 0} (f : X → Option Y) (xs : List X) (y : Y) → In y (filter_map f xs) → (x : X) × In x xs × (f x ≡ Some y)
in_filtered f [] y i = absurd i
in_filtered f (x ∷ xs) y i = by (f x) refl i (λ j. in_filtered f xs y j)
  where
    by : (o : Option _) → f x ≡ o → In y (cons_option o (filter_map f xs)) → (In y (filter_map f xs) → (z : _) × In z xs × (f z ≡ Some y)) → (z : _) × In z (x ∷ xs) × (f z ≡ Some y)
    by None h j again = let r = again j in (r.0, inr r.1, r.2)
    by (Some w) h (inl e) again = (x, inl refl, h ∙ ap Some (sym e))
    by (Some w) h (inr j) again = let r = again j in (r.0, inr r.1, r.2)

pub filtered_in : {X Y : Type 0} (f : X → Option Y) (xs : List X) (x : X) (y : Y) → In x xs → f x ≡ Some y → In y (filter_map f xs)
filtered_in f [] x y i e = absurd i
filtered_in f (z ∷ zs) x y (inl same) e = subst (λ o. In y (cons_option o (filter_map f zs))) (sym (ap f (sym same) ∙ e)) (inl refl)
filtered_in f (z ∷ zs) x y (inr i) e = by (f z) (filtered_in f zs x y i e)
  where
    by : (o : Option _) → In y (filter_map f zs) → In y (cons_option o (filter_map f zs))
    by None j = j
    by (Some w) j = inr j

-- what passes at one element passes somewhere
any_at : {X : Type 0} (p : X → Bool) (xs : List X) (x : X) → In x xs → p x ≡ true → list_any p xs ≡ true
any_at p [] x i e = absurd i
any_at p (y ∷ ys) x (inl same) e = ap (λ b. b || list_any p ys) (ap p (sym same) ∙ e)
any_at p (y ∷ ys) x (inr i) e = or_right (p y) (list_any p ys) (any_at p ys x i e)

pub passes_somewhere : {X : Type 0} (p : X → Bool) (xs : List X) (x : X) → Contains xs x → p x ≡ true → list_any p xs ≡ true
passes_somewhere p xs x c e = any_at p xs x (in_from xs x c) e

-- and the other way: it passes at an element
pub passes_at : {X : Type 0} (p : X → Bool) (xs : List X) → list_any p xs ≡ true → (x : X) × In x xs × (p x ≡ true)
passes_at p [] e = absurd (true≢false (sym e))
passes_at p (y ∷ ys) e = elim (or_cases (p y) (list_any p ys) e) [
  | inl here ↦ (y, inl refl, here)
  | inr later ↦ let r = passes_at p ys later in (r.0, inr r.1, r.2)
]
