-- Where the instruction on a lane stands among sorted instructions.
use Rattle.std.proofs.Common.{◌≡◌, refl, sym, ◌∙◌, ap, ℕ, zero, suc, ◌+◌, ◌<◌, ◌≤◌, true, false, cond, List, [], ◌∷◌, length, get_or, Some, None, inl, arith}
use Rattle.std.specs.Prelude.{IsTrue, find, All, AllPairs}
use Rattle.std.specs.List.{list_all, AllWithin}
use Rattle.std.specs.List.Sorted.{IsNonDecreasingBy}
use Rattle.std.proofs.lemmas.Bool.Decides.{nat_tests}
use Rattle.lane_core.specs.declared.instr.Instr.{Instr}
use Rattle.lane_core.specs.declared.instr.Column.{Column}
use Rattle.lane_core.specs.Columns.{IsColumnApart}
use Rattle.lane_core.specs.Instrs.{lane_of, is_above, are_sorted_apart, is_on, instr_on, AreApart}
use Rattle.lists.proofs.Bools.{and_true_left as and_left, and_true_right as and_right}

-- no instruction below works on a lane that is not below the first
pub none_below : (i : Instr) (lane : ℕ) (xs : List Instr) → lane ≤ lane_of i + 1 → list_all (is_above i) xs ≡ true → find (is_on lane) xs ≡ None
none_below i lane [] low h = refl
none_below i lane (x ∷ xs) low h =
    let above : is_above i x ≡ true = and_left (is_above i x) (list_all (is_above i) xs) h in
    let off : is_on lane x ≡ false = grind (arith, nat_tests) in
    let rest : find (is_on lane) xs ≡ None = none_below i lane xs low (and_right (is_above i x) (list_all (is_above i) xs) h) in
    ap (λ b. cond b (Some x) (find (is_on lane) xs)) off ∙ rest

-- an instruction that stands above some stands above the one at each place among them
above_each : (i : Instr) (xs : List Instr) → list_all (is_above i) xs ≡ true → (j : ℕ) (d : Instr) → j < length xs → lane_of i + 1 < lane_of (get_or xs j d)
above_each i [] h j d within = absurd (omega arith)
above_each i (x ∷ xs) h zero d within =
    let above : is_above i x ≡ true = and_left (is_above i x) (list_all (is_above i) xs) h in
    grind (arith, nat_tests)
above_each i (x ∷ xs) h (suc j) d within =
    above_each i xs (and_right (is_above i x) (list_all (is_above i) xs) h) j d (omega arith)

-- sorted instructions are in order of the lower of their lanes
pub in_order : (xs : List Instr) → IsTrue (are_sorted_apart xs) → IsNonDecreasingBy (λ i. lane_of i + 1) xs
in_order [] h i j d order within = absurd (omega arith)
in_order (x ∷ xs) h zero zero d order within = omega arith
in_order (x ∷ xs) h zero (suc j) d order within =
    let above : lane_of x + 1 < lane_of (get_or xs j d) = above_each x xs (and_left (list_all (is_above x) xs) (are_sorted_apart xs) h) j d (omega arith) in
    omega arith
in_order (x ∷ xs) h (suc i) zero d order within = absurd (omega arith)
in_order (x ∷ xs) h (suc i) (suc j) d order within =
    in_order xs (and_right (list_all (is_above x) xs) (are_sorted_apart xs) h) i j d (omega arith) (omega arith)

-- past those that end above a lane, the next works on it if it does not begin below it
pub instr_on-found : (lane : ℕ) (xs : List Instr) (n : ℕ) (d : Instr) → n < length xs
    → ((k : ℕ) (e : Instr) → k < n → lane_of (get_or xs k e) + 1 < lane)
    → lane ≤ lane_of (get_or xs n d) + 1 → lane_of (get_or xs n d) ≤ lane
    → instr_on xs lane ≡ Some (get_or xs n d)
instr_on-found lane [] n d within before low high = absurd (omega arith)
instr_on-found lane (x ∷ xs) zero d within before low high =
    let on : is_on lane x ≡ true = grind (arith, nat_tests) in
    ap (λ b. cond b (Some x) (find (is_on lane) xs)) on
instr_on-found lane (x ∷ xs) (suc n) d within before low high =
    let first : lane_of x + 1 < lane = before zero x (omega arith) in
    let off : is_on lane x ≡ false = grind (arith, nat_tests) in
    ap (λ b. cond b (Some x) (find (is_on lane) xs)) off
    ∙ instr_on-found lane xs n d (omega arith) (λ k e h. before (suc k) e (omega arith)) low high

-- and if it does begin below it, or there is none, then none works on it
pub instr_on-none : (lane : ℕ) (xs : List Instr) (n : ℕ) → IsTrue (are_sorted_apart xs)
    → ((k : ℕ) (e : Instr) → k < n → k < length xs → lane_of (get_or xs k e) + 1 < lane)
    → ((e : Instr) → n < length xs → lane < lane_of (get_or xs n e))
    → instr_on xs lane ≡ None
instr_on-none lane [] n apart before after = refl
instr_on-none lane (x ∷ xs) zero apart before after =
    let first : lane < lane_of x = after x (omega arith) in
    let off : is_on lane x ≡ false = grind (arith, nat_tests) in
    ap (λ b. cond b (Some x) (find (is_on lane) xs)) off
    ∙ none_below x lane xs (omega arith) (and_left (list_all (is_above x) xs) (are_sorted_apart xs) apart)
instr_on-none lane (x ∷ xs) (suc n) apart before after =
    let first : lane_of x + 1 < lane = before zero x (omega arith) (omega arith) in
    let off : is_on lane x ≡ false = grind (arith, nat_tests) in
    ap (λ b. cond b (Some x) (find (is_on lane) xs)) off
    ∙ instr_on-none lane xs n (and_right (list_all (is_above x) xs) (are_sorted_apart xs) apart)
    (λ k e h w. before (suc k) e (omega arith) (omega arith)) (λ e w. after e (omega arith))

-- both, as a binary search finds the place n
pub instr_on-at : (lane : ℕ) (xs : List Instr) (n : ℕ) (x : Instr)
    → AllWithin (λ i. lane_of i + 1 < lane) xs 0 n → AllWithin (λ i. lane ≤ lane_of i + 1) xs n (length xs)
    → n < length xs → x ≡ get_or xs n x → lane_of x ≤ lane → instr_on xs lane ≡ Some x
instr_on-at lane xs n x above others within here high =
    let first : lane ≤ lane_of (get_or xs n x) + 1 = others n x (omega arith) within in
    let lanes : lane_of x ≡ lane_of (get_or xs n x) = ap lane_of here in
    instr_on-found lane xs n x within (λ k e h. above k e (omega arith) h) first (omega arith) ∙ ap Some (sym here)

pub instr_on-past : (lane : ℕ) (xs : List Instr) (n : ℕ) → IsTrue (are_sorted_apart xs)
    → AllWithin (λ i. lane_of i + 1 < lane) xs 0 n
    → ((e : Instr) → n < length xs → lane < lane_of (get_or xs n e)) → instr_on xs lane ≡ None
instr_on-past lane xs n apart above after = instr_on-none lane xs n apart (λ k e h w. above k e (omega arith) h) after

-- sorted instructions share no lanes
pub apart_from_sorted : (xs : List Instr) → IsTrue (are_sorted_apart xs) → AllPairs AreApart xs
apart_from_sorted [] h i j d order within = absurd (omega arith)
apart_from_sorted (x ∷ xs) h zero zero d order within = absurd (omega arith)
apart_from_sorted (x ∷ xs) h zero (suc j) d order within =
    inl (above_each x xs (and_left (list_all (is_above x) xs) (are_sorted_apart xs) h) j d (omega arith))
apart_from_sorted (x ∷ xs) h (suc i) zero d order within = absurd (omega arith)
apart_from_sorted (x ∷ xs) h (suc i) (suc j) d order within =
    apart_from_sorted xs (and_right (list_all (is_above x) xs) (are_sorted_apart xs) h) i j d (omega arith) (omega arith)

-- the instructions of a column share no lane, by its type
pub columns_apart : (columns : List Column) → All IsColumnApart columns
columns_apart columns k d h = apart_from_sorted (get_or columns k d).instrs (get_or columns k d).sorted_apart
