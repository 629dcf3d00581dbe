-- Those of some items that are drawn.
use Rattle.std.proofs.Common.{◌≡◌, refl, sym, ◌∙◌, ap, ap₂, subst, ℕ, zero, suc, ◌+◌, ◌<◌, inl, inr, List, [], ◌∷◌, ◌++◌, map, length, take, get_or, true≢false, arith}
use Rattle.std.specs.Prelude.{Option, Some, None, option_map, All, AllPairs}
use Rattle.std.specs.Option.{option_to_list}
use Rattle.std.proofs.lemmas.List.{append_assoc, append-nil, map-append}
use Rattle.std.proofs.lemmas.List.Elements.{All-head, All-tail}
use Rattle.std.proofs.lemmas.List.Kept.{AllPairs-cons}
use Rattle.lists.proofs.Members.{In}
use Rattle.flat_designs.proofs.Lists.{all_of}
use Rattle.routed_plans.specs.Drawn.{items_drawn, AreAllDrawn}

-- of mapped items
pub drawn-map : {X Y Z : Type 0} (f : Y → Z) (ports : List (Option X)) (items : List Y) → items_drawn ports (map f items) ≡ map f (items_drawn ports items)
drawn-map f [] items = refl
drawn-map f (port ∷ ports) [] = refl
drawn-map f (None ∷ ports) (item ∷ items) = drawn-map f ports items
drawn-map f (Some port ∷ ports) (item ∷ items) = ap (λ rest. f item ∷ rest) (drawn-map f ports items)

-- of none
pub drawn_none : {X Y : Type 0} (ports : List (Option X)) (items : List Y) → items ≡ [] → items_drawn ports items ≡ []
drawn_none [] items none = refl
drawn_none (port ∷ ports) [] none = refl
drawn_none (port ∷ ports) (item ∷ items) none = let many : suc (length items) ≡ 0 = ap length none in absurd (omega (arith, many))

-- of one more item
pub drawn_more : {X Y : Type 0} (ports : List (Option X)) (items : List Y) (k : ℕ) (d : Y) → k < length items
    → items_drawn ports (take (k + 1) items) ≡ items_drawn ports (take k items) ++ option_to_list (option_map (λ _. get_or items k d) (get_or ports k None))
drawn_more [] items k d lt = refl
drawn_more (port ∷ ports) [] k d lt = absurd (omega (arith, lt))
drawn_more (port ∷ ports) (item ∷ items) zero d lt =
    ap (λ rest. option_to_list (option_map (λ _. item) port) ++ rest) (drawn_none ports [] refl) ∙ append-nil (option_to_list (option_map (λ _. item) port))
drawn_more (port ∷ ports) (item ∷ items) (suc k) d lt =
    let e : suc k + 1 ≡ suc (k + 1) = omega arith in
    ap (λ n. items_drawn (port ∷ ports) (take n (item ∷ items))) e
    ∙ ap (λ rest. option_to_list (option_map (λ _. item) port) ++ rest) (drawn_more ports items k d (omega (arith, lt)))
    ∙ sym (append_assoc (option_to_list (option_map (λ _. item) port)) (items_drawn ports (take k items)) (option_to_list (option_map (λ _. get_or items k d) (get_or ports k None))))

-- of one more item that is mapped
one_mapped : {X Y Z : Type 0} (f : Y → Z) (port : Option X) (item : Y) → map f (option_to_list (option_map (λ _. item) port)) ≡ option_to_list (option_map (λ _. f item) port)
one_mapped f None item = refl
one_mapped f (Some port) item = refl

pub mapped_more : {X Y Z : Type 0} (f : Y → Z) (ports : List (Option X)) (items : List Y) (k : ℕ) (d : Y) → k < length items
    → items_drawn ports (map f (take (k + 1) items)) ≡ items_drawn ports (map f (take k items)) ++ option_to_list (option_map (λ _. f (get_or items k d)) (get_or ports k None))
mapped_more f ports items k d lt =
    drawn-map f ports (take (k + 1) items)
    ∙ ap (map f) (drawn_more ports items k d lt)
    ∙ map-append f (items_drawn ports (take k items)) (option_to_list (option_map (λ _. get_or items k d) (get_or ports k None)))
    ∙ ap₂ (λ first last. first ++ last) (sym (drawn-map f ports (take k items))) (one_mapped f (get_or ports k None) (get_or items k d))

-- they are among the items
pub in_drawn : {X Y : Type 0} (ports : List (Option X)) (items : List Y) (x : Y) → In x (items_drawn ports items) → In x items
in_drawn [] items x i = absurd i
in_drawn (port ∷ ports) [] x i = absurd i
in_drawn (None ∷ ports) (item ∷ items) x i = inr (in_drawn ports items x i)
in_drawn (Some port ∷ ports) (item ∷ items) x (inl same) = inl same
in_drawn (Some port ∷ ports) (item ∷ items) x (inr i) = inr (in_drawn ports items x i)

-- so what holds of all items holds of these
pub all_drawn : {X Y : Type 0} (P : Y → Type 0) (ports : List (Option X)) (items : List Y) → All P items → All P (items_drawn ports items)
all_drawn P ports items all = all_of P (items_drawn ports items) (λ x i. holds items all x (in_drawn ports items x i))
  where
    holds : (xs : List _) → All P xs → (x : _) → In x xs → P x
    holds [] h x i = absurd i
    holds (y ∷ ys) h x (inl same) = subst P (sym same) (All-head P y ys h)
    holds (y ∷ ys) h x (inr i) = holds ys (All-tail P y ys h) x i

-- and what holds of each two
pub pairs_drawn : {X Y : Type 0} (R : Y → Y → Type 0) (ports : List (Option X)) (items : List Y) → AllPairs R items → AllPairs R (items_drawn ports items)
pairs_drawn R [] items all = λ i j d before within. absurd (omega (arith, within))
pairs_drawn R (port ∷ ports) [] all = λ i j d before within. absurd (omega (arith, within))
pairs_drawn R (None ∷ ports) (item ∷ items) all = pairs_drawn R ports items (λ i j d before within. all (suc i) (suc j) d (omega (arith, before)) (omega (arith, within)))
pairs_drawn R (Some port ∷ ports) (item ∷ items) all =
    AllPairs-cons R item (items_drawn ports items) (all_drawn (R item) ports items (λ k d lt. all 0 (suc k) d (omega arith) (omega (arith, lt))))
    (pairs_drawn R ports items (λ i j d before within. all (suc i) (suc j) d (omega (arith, before)) (omega (arith, within))))

-- all items, if there is a port for each
pub drawn_whole : {X Y : Type 0} (ports : List (Option X)) (items : List Y) → AreAllDrawn ports (length items) → items_drawn ports items ≡ items
drawn_whole [] [] are = refl
drawn_whole [] (item ∷ items) are = absurd (omega (arith, are.long))
drawn_whole (port ∷ ports) [] are = absurd (omega (arith, are.long))
drawn_whole (None ∷ ports) (item ∷ items) are = absurd (true≢false (sym (are.all 0 None (omega arith))))
drawn_whole (Some port ∷ ports) (item ∷ items) are =
    ap (λ rest. item ∷ rest) (drawn_whole ports items (record { long = omega (arith, are.long); all = λ k d lt. are.all (suc k) d (omega (arith, lt)) }))
