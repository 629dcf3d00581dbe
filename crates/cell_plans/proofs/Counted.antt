-- No more instructions stand in the columns than in the program.
use Rattle.std.proofs.Common.{◌≡◌, refl, ap, ap₂, ◌∙◌, subst, ℕ, zero, suc, ◌+◌, ◌≤◌, Bool, true, false, cond, List, [], ◌∷◌, length, arith}
use Rattle.std.specs.Prelude.{◌==◌, All}
use Rattle.std.proofs.lemmas.Bool.{ne_eqb, eqb-true}
use Rattle.std.proofs.lemmas.List.Sums.{sum_by-cons, sum_by-append}
use Rattle.std.proofs.lemmas.List.Sorted.{length_permutation}
use Rattle.lane_core.specs.declared.instr.Instr.{Instr}
use Rattle.lane_core.specs.declared.instr.Column.{Column}
use Rattle.column_packer.specs.Numbers.{column_numbers, column_instrs, numbered}
use Rattle.column_packer.specs.Packing.{IsPacked, instrs_in}
use Rattle.latch_loops.specs.Closed.{IsPadded}
use Rattle.cell_plans.specs.Counts.{instr_count}

-- the sum of the first n values
abbrev sum_to : (ℕ → ℕ) → ℕ → ℕ
sum_to f zero = 0
sum_to f (suc n) = f 0 + sum_to (λ c. f (suc c)) n

same_sums : (f g : ℕ → ℕ) (n : ℕ) → ((c : ℕ) → f c ≡ g c) → sum_to f n ≡ sum_to g n
same_sums f g zero e = refl
same_sums f g (suc n) e = ap₂ (λ a b. a + b) (e 0) (same_sums (λ c. f (suc c)) (λ c. g (suc c)) n (λ c. e (suc c)))

no_sum : (n : ℕ) → sum_to (λ c. 0) n ≡ 0
no_sum zero = refl
no_sum (suc n) = ap (λ s. 0 + s) (no_sum n)

both_sums : (f g : ℕ → ℕ) (n : ℕ) → sum_to (λ c. f c + g c) n ≡ sum_to f n + sum_to g n
both_sums f g zero = refl
both_sums f g (suc n) =
    let rest = both_sums (λ c. f (suc c)) (λ c. g (suc c)) n in
    let a : ℕ = f 0 in
    let b : ℕ = g 0 in
    let s : ℕ = sum_to (λ c. f (suc c)) n in
    let t : ℕ = sum_to (λ c. g (suc c)) n in
    let e : (a + b) + (s + t) ≡ (a + s) + (b + t) = omega arith in
    ap (λ r. (a + b) + r) rest ∙ e

-- one number is at most one of those
abbrev is_at : ℕ → ℕ → ℕ
is_at n c = cond (n == c) 1 0

at_later : (n a k : ℕ) → n ≡ a → sum_to (λ c. is_at n (a + suc c)) k ≡ 0
at_later n a k e = same_sums (λ c. is_at n (a + suc c)) (λ c. 0) k (λ c. ap (λ b. cond b 1 0) (ne_eqb n (a + suc c) (λ f. absurd (omega (arith, e, f))))) ∙ no_sum k

one_or_later : (k n a : ℕ) (b : Bool) → (n == (a + 0)) ≡ b → sum_to (λ c. is_at n (suc a + c)) k ≤ 1 → is_at n (a + 0) + sum_to (λ c. is_at n (a + suc c)) k ≤ 1
one_or_later k n a true e more =
    let here : is_at n (a + 0) ≡ 1 = ap (λ b. cond b 1 0) e in
    let same : n ≡ a + 0 = eqb-true n (a + 0) e in
    let none : sum_to (λ c. is_at n (a + suc c)) k ≡ 0 = at_later n a k (omega (arith, same)) in
    omega (arith, here, none)
one_or_later k n a false e more =
    let here : is_at n (a + 0) ≡ 0 = ap (λ b. cond b 1 0) e in
    let later : sum_to (λ c. is_at n (suc a + c)) k ≡ sum_to (λ c. is_at n (a + suc c)) k = same_sums (λ c. is_at n (suc a + c)) (λ c. is_at n (a + suc c)) k (λ c. (let f : suc a + c ≡ a + suc c = omega arith in ap (is_at n) f)) in
    omega (arith, here, later, more)

at_most_one : (k n a : ℕ) → sum_to (λ c. is_at n (a + c)) k ≤ 1
at_most_one zero n a = omega arith
at_most_one (suc k) n a = one_or_later k n a (n == (a + 0)) refl (at_most_one k n (suc a))

long_by : (b : Bool) (i : Instr) (is : List Instr) → length (cond b (i ∷ is) is) ≡ cond b 1 0 + length is
long_by true i is = let e : suc (length is) ≡ 1 + length is = omega arith in e
long_by false i is = let e : length is ≡ 0 + length is = omega arith in e

all_numbered : (k : ℕ) (numbers : List ℕ) (instrs : List Instr) → sum_to (λ c. length (numbered c numbers instrs)) k ≤ length instrs
all_numbered k [] instrs = let e = no_sum k in omega (arith, e)
all_numbered k (n ∷ numbers) [] = let e = no_sum k in omega (arith, e)
all_numbered k (n ∷ numbers) (i ∷ instrs) =
    let rest = all_numbered k numbers instrs in
    let one : sum_to (λ c. is_at n c) k ≤ 1 = subst (λ s. s ≤ 1) (same_sums (λ c. is_at n (0 + c)) (λ c. is_at n c) k (λ c. (let e : 0 + c ≡ c = omega arith in ap (is_at n) e))) (at_most_one k n 0) in
    let parts = same_sums (λ c. length (numbered c (n ∷ numbers) (i ∷ instrs))) (λ c. is_at n c + length (numbered c numbers instrs)) k (λ c. long_by (n == c) i (numbered c numbers instrs))
    ∙ both_sums (λ c. is_at n c) (λ c. length (numbered c numbers instrs)) k in
    omega (arith, rest, one, parts)

-- a sum over columns by their numbers
by_number : (columns : List Column) → instr_count columns ≡ sum_to (λ c. length (instrs_in columns c)) (length columns)
by_number [] = refl
by_number (column ∷ columns) = sum_by-cons (λ (x : Column). length x.instrs) column columns ∙ ap (λ s. length column.instrs + s) (by_number columns)

packed_count : (instrs : List Instr) (columns : List Column) → IsPacked instrs columns → instr_count columns ≤ length instrs
packed_count instrs columns p =
    let same = by_number columns
    ∙ same_sums (λ c. length (instrs_in columns c)) (λ c. length (column_instrs instrs c)) (length columns) (λ c. length_permutation (column_instrs instrs c) (instrs_in columns c) (p.each c)) in
    let most = all_numbered (length columns) (column_numbers instrs) instrs in
    omega (arith, same, most)

empty_count : (columns : List Column) → All (λ column. column.instrs ≡ []) columns → instr_count columns ≡ 0
empty_count [] h = refl
empty_count (column ∷ columns) h =
    let here : column.instrs ≡ [] = h 0 column (omega arith) in
    let rest = empty_count columns (λ k d below. h (suc k) d (omega (arith, below))) in
    sum_by-cons (λ (x : Column). length x.instrs) column columns ∙ ap₂ (λ a b. a + b) (ap length here) rest

-- and so it is with columns that were added
pub few_instrs : (instrs : List Instr) (size : ℕ) (columns padded : List Column) → IsPacked instrs columns → IsPadded size columns padded → instr_count padded ≤ length instrs
few_instrs instrs size columns padded packed p =
    let whole : instr_count padded ≡ instr_count columns + instr_count p.more = ap instr_count p.is ∙ sum_by-append (λ (x : Column). length x.instrs) columns p.more in
    let none = empty_count p.more p.empty in
    let most = packed_count instrs columns packed in
    omega (arith, whole, none, most)
