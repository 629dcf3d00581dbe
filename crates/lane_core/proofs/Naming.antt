-- Names in order: sorting them, and looking one up.
use Rattle.std.proofs.Common.{◌≡◌, refl, sym, ◌∙◌, ap, ap₂, Ordering, Less, Equal, Greater, ℕ, zero, suc, ◌+◌, ◌<◌, Bool, true, false, ◌&&◌, ◌||◌, ◌==◌, cond, List, [], ◌∷◌, length, get_or, Result, Ok, Err, true≢false, ⊎_elim, arith}
use Rattle.std.specs.Prelude.{IsTrue}
use Rattle.std.specs.List.{list_all, list_any, dedup, dedup_from, AllByRecursion}
use Rattle.std.specs.List.Sorted.{IsSorted, IsStrictlySortedBy, IsPermutation, IsBinarySearchResult, IsSearchInRange}
use Rattle.std.specs.Cmp.{IsTotalOrder}
use Rattle.std.specs.Ordering.{nat_cmp, ordering_then, MatchOrdering, is_lt, is_eq, eq_by_cmp}
use Rattle.std.specs.Result.{is_ok}
use Rattle.std.proofs.lemmas.Bool.{and_parts, and_from, eqb-true, cases_lt}
use Rattle.std.proofs.lemmas.Bool.Decides.{nat_tests}
use Rattle.std.proofs.lemmas.Cmp.{ranked, then_total, on_total, nat_cmp_total}
use Rattle.std.proofs.lemmas.List.{get_or_default}
use Rattle.std.proofs.lemmas.List.Folds.{list_any-from_Any, list_any_none}
use Rattle.std.proofs.lemmas.List.Kept.{IsStrictlySortedBy-dedup}
use Rattle.std.proofs.lemmas.List.Sorted.{list_any-IsPermutation, searchable_from_sorted}
use Rattle.lane_core.specs.declared.starts.Start.{Start}
use Rattle.lane_core.specs.Starts.{is_before, are_starts_in_order, is_start_at}
use Rattle.lists.proofs.Bools.{and_true_left as and_left, and_true_right as and_right}

-- how one name compares with another
abbrev pub compared : Start → Start → Ordering
compared a b = ordering_then (nat_cmp a.y b.y) (nat_cmp a.x b.x)

abbrev pub same : Start → Start → Bool
same a b = a.y == b.y && a.x == b.x

abbrev is_at : ℕ → ℕ → Start → Bool
is_at x y start = start.x == x && start.y == y

pub total : IsTotalOrder compared
total = then_total (on_total (λ (a : Start). a.y) nat_cmp_total) (on_total (λ (a : Start). a.x) nat_cmp_total)

-- what a comparison says, by those of the rows and of the columns
by_both : (G : Ordering → Type 0) (a b : Start)
    → (a.y < b.y → G Less) → (b.y < a.y → G Greater)
    → (a.y ≡ b.y → a.x < b.x → G Less) → (a.y ≡ b.y → a.x ≡ b.x → G Equal) → (a.y ≡ b.y → b.x < a.x → G Greater)
    → G (compared a b)
by_both G a b north south west here east =
    rows (nat_cmp a.y b.y) (nat_cmp a.x b.x) (ranked a.y b.y (nat_cmp a.y b.y) refl) (ranked a.x b.x (nat_cmp a.x b.x) refl)
  where
    rows : (o p : Ordering) → MatchOrdering o (a.y < b.y) (a.y ≡ b.y) (b.y < a.y) → MatchOrdering p (a.x < b.x) (a.x ≡ b.x) (b.x < a.x) → G (ordering_then o p)
    rows Less p h k = north h
    rows Equal Less h k = west h k
    rows Equal Equal h k = here h k
    rows Equal Greater h k = east h k
    rows Greater p h k = south h

less : (a b : Start) → compared a b ≡ Less → is_before a b ≡ true
less a b e =
    by_both (λ o. o ≡ Less → is_before a b ≡ true) a b
    (λ h e. grind (arith, nat_tests))
    (λ h e. absurd (true≢false (sym (ap is_lt e))))
    (λ h k e. grind (arith, nat_tests))
    (λ h k e. absurd (true≢false (sym (ap is_lt e))))
    (λ h k e. absurd (true≢false (sym (ap is_lt e))))
    e

not_less : (a b : Start) → is_before a b ≡ true → is_lt (compared b a) ≡ false
not_less a b e =
    by_both (λ o. is_lt o ≡ false) b a
    (λ h. grind (arith, nat_tests)) (λ h. refl) (λ h k. grind (arith, nat_tests)) (λ h k. refl) (λ h k. refl)

ties : (a b : Start) → same a b ≡ eq_by_cmp compared a b
ties a b =
    by_both (λ o. same a b ≡ is_eq o) a b
    (λ h. grind (arith, nat_tests)) (λ h. grind (arith, nat_tests)) (λ h k. grind (arith, nat_tests)) (λ h k. grind (arith, nat_tests)) (λ h k. grind (arith, nat_tests))

found : (x y : ℕ) (a : Start) → compared a (record { y = y; x = x }) ≡ Equal → is_at x y a ≡ true
found x y a e =
    by_both (λ o. o ≡ Equal → is_at x y a ≡ true) a (record { y = y; x = x })
    (λ h e. absurd (true≢false (sym (ap is_eq e)))) (λ h e. absurd (true≢false (sym (ap is_eq e)))) (λ h k e. absurd (true≢false (sym (ap is_eq e))))
    (λ h k e. grind (arith, nat_tests)) (λ h k e. absurd (true≢false (sym (ap is_eq e))))
    e

missed : (x y : ℕ) (a : Start) → is_eq (compared a (record { y = y; x = x })) ≡ false → is_at x y a ≡ false
missed x y a e =
    by_both (λ o. is_eq o ≡ false → is_at x y a ≡ false) a (record { y = y; x = x })
    (λ h e. grind (arith, nat_tests)) (λ h e. grind (arith, nat_tests)) (λ h k e. grind (arith, nat_tests))
    (λ h k e. absurd (true≢false e)) (λ h k e. grind (arith, nat_tests))
    e

-- strictly sorted names are in order
all_before : (a : Start) (names : List Start) → AllByRecursion (λ b. compared a b ≡ Less) names → list_all (is_before a) names ≡ true
all_before a [] h = refl
all_before a (b ∷ names) h = and_from (is_before a b) (list_all (is_before a) names) (less a b h.0) (all_before a names h.1)

in_order : (names : List Start) → IsStrictlySortedBy compared names → IsTrue (are_starts_in_order names)
unfolding IsStrictlySortedBy
in_order [] h = refl
in_order (a ∷ names) h = and_from (list_all (is_before a) names) (are_starts_in_order names) (all_before a names h.0) (in_order names h.1)

pub sorted_once : (names : List Start) → IsSorted compared names → IsTrue (are_starts_in_order (dedup same names))
sorted_once names h = in_order (dedup same names) (IsStrictlySortedBy-dedup total ties names h)

-- what stands twice is found once
alike : (x y : ℕ) (a b : Start) → same a b ≡ true → is_at x y a ≡ is_at x y b
alike x y a b e =
    let parts = and_parts (a.y == b.y) (a.x == b.x) e in
    ap₂ (λ v w. (v == x && w == y)) (eqb-true a.x b.x parts.1) (eqb-true a.y b.y parts.0)

-- a name that is left out goes with the one that is kept
twice : (p q r : Bool) → q ≡ p → (p || r) ≡ (p || (q || r))
twice true q r e = refl
twice false q r e = ap (λ v. v || r) (sym e)

next_from : (x y : ℕ) (a b : Start) (names : List Start) (v : Bool) → same b a ≡ v
    → list_any (is_at x y) (dedup_from same a names) ≡ (is_at x y a || list_any (is_at x y) names)
    → list_any (is_at x y) (dedup_from same b names) ≡ (is_at x y b || list_any (is_at x y) names)
    → list_any (is_at x y) (cond v (dedup_from same a names) (a ∷ dedup_from same b names)) ≡ (is_at x y a || (is_at x y b || list_any (is_at x y) names))
next_from x y a b names true e first second = first ∙ twice (is_at x y a) (is_at x y b) (list_any (is_at x y) names) (alike x y b a e)
next_from x y a b names false e first second = ap (λ v. is_at x y a || v) second

any_from : (x y : ℕ) (a : Start) (names : List Start) → list_any (is_at x y) (dedup_from same a names) ≡ (is_at x y a || list_any (is_at x y) names)
any_from x y a [] = refl
any_from x y a (b ∷ names) = next_from x y a b names (same b a) refl (any_from x y a names) (any_from x y b names)

any_once : (x y : ℕ) (names : List Start) → is_start_at (dedup same names) x y ≡ is_start_at names x y
any_once x y [] = refl
any_once x y (a ∷ names) = any_from x y a names

pub keeps_names : (names sorted : List Start) → IsPermutation names sorted → (x y : ℕ) → is_start_at (dedup same sorted) x y ≡ is_start_at names x y
keeps_names names sorted moved x y = any_once x y sorted ∙ sym (list_any-IsPermutation (is_at x y) names sorted moved)

-- names in order ascend
ascending : (names : List Start) → IsTrue (are_starts_in_order names) → IsSorted compared names
ascending [] h k d low within = absurd (omega (arith, within))
ascending (a ∷ []) h k d low within = absurd (omega (arith, within))
ascending (a ∷ (b ∷ names)) h zero d low within =
    not_less a b (and_left (is_before a b) (list_all (is_before a) names) (and_left (list_all (is_before a) (b ∷ names)) (are_starts_in_order (b ∷ names)) h))
ascending (a ∷ (b ∷ names)) h (suc k) d low within =
    let next : suc k + 1 ≡ suc (k + 1) = omega arith in
    ap (λ n. is_lt (compared (get_or (a ∷ (b ∷ names)) n d) (get_or (b ∷ names) k d))) next
    ∙ ascending (b ∷ names) (and_right (list_all (is_before a) (b ∷ names)) (are_starts_in_order (b ∷ names)) h) k d (omega arith) (omega (arith, within))

-- so a name is found by binary search
pub searched : (names : List Start) (x y : ℕ) (r : Result ℕ ℕ) → IsTrue (are_starts_in_order names) → IsSearchInRange r (length names)
    → IsBinarySearchResult (λ a. compared a (record { y = y; x = x })) names r → is_ok r ≡ is_start_at names x y
searched names x y (Ok i) order within at =
    let here : Start = get_or names i (record { y = y; x = x }) in
    sym (list_any-from_Any (is_at x y) names (i, here, within, get_or_default names i here (record { y = y; x = x }) within, found x y here (at (record { y = y; x = x }))))
searched names x y (Err i) order within at =
    let point = at (searchable_from_sorted total (λ (a : Start). a) names (record { y = y; x = x }) (ascending names order)) in
    sym (list_any_none (is_at x y) names (λ k d inside.
    ⊎_elim (λ low. missed x y (get_or names k d) (ap is_eq (point.0 k d (omega arith) low))) (λ high. missed x y (get_or names k d) (ap is_eq (point.1 k d high inside))) (cases_lt k i)))
