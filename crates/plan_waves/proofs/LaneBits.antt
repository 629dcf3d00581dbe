-- The bit on a lane after the instructions of a column, by the instruction that works on the lane.
use Rattle.std.proofs.Common.{◌≡◌, ◌≢◌, refl, sym, ◌∙◌, ap, ap₂, subst, ℕ, zero, suc, ◌+◌, ◌-◌, ◌<◌, Bool, true, false, cond, ⊎_elim, List, [], ◌∷◌, length, set, Option, Some, None, arith}
use Rattle.std.specs.Prelude.{◌==◌, IsTrue, All, find}
use Rattle.std.specs.List.{list_all}
use Rattle.std.proofs.lemmas.Bool.{cases_eq, and_parts}
use Rattle.std.proofs.lemmas.Bool.Decides.{nat_tests}
use Rattle.std.proofs.lemmas.List.{get_or-set_other, length-set}
use Rattle.std.proofs.lemmas.Grind.{get_or-set_at}
use Rattle.std.proofs.lemmas.List.Elements.{All-head, All-tail}
use Rattle.lane_core.specs.declared.instr.Instr.{Instr}
use Rattle.lane_core.specs.Instrs.{lane_of, upper_bit, lower_bit, bit_on, after_instr, after_instrs, IsOnLanes, is_above, are_sorted_apart, is_on, instr_on}
use Rattle.lane_core.proofs.Lookup.{none_below}
use Rattle.lane_core.proofs.Lengths.{length-after_instr}

-- what the instruction on a lane, or none, makes of the bits before it
abbrev pub answer_on : ℕ → Option Instr → (ℕ → Bool) → Bool
answer_on l None bit = bit l
answer_on l (Some i) bit = cond (l == lane_of i) (upper_bit i (bit l) (bit (l + 1))) (lower_bit i (bit (l - 1)) (bit l))

abbrev answer_of : List Instr → ℕ → (ℕ → Bool) → Bool
answer_of xs l bit = answer_on l (instr_on xs l) bit

on_upper : (x : Instr) (xs : List Instr) (l : ℕ) (f : ℕ → Bool) → l ≡ lane_of x → answer_of (x ∷ xs) l f ≡ upper_bit x (f l) (f (l + 1))
on_upper x xs l f here =
    let on : is_on l x ≡ true = grind (arith, nat_tests) in
    let same : (l == lane_of x) ≡ true = grind (arith, nat_tests) in
    ap (λ b. answer_on l (cond b (Some x) (find (is_on l) xs)) f) on
    ∙ ap (λ b. cond b (upper_bit x (f l) (f (l + 1))) (lower_bit x (f (l - 1)) (f l))) same

on_lower : (x : Instr) (xs : List Instr) (l : ℕ) (f : ℕ → Bool) → l ≡ lane_of x + 1 → answer_of (x ∷ xs) l f ≡ lower_bit x (f (l - 1)) (f l)
on_lower x xs l f here =
    let on : is_on l x ≡ true = grind (arith, nat_tests) in
    let same : (l == lane_of x) ≡ false = grind (arith, nat_tests) in
    ap (λ b. answer_on l (cond b (Some x) (find (is_on l) xs)) f) on
    ∙ ap (λ b. cond b (upper_bit x (f l) (f (l + 1))) (lower_bit x (f (l - 1)) (f l))) same

on_other : (x : Instr) (xs : List Instr) (l : ℕ) (f : ℕ → Bool) → (l ≢ lane_of x) → (l ≢ lane_of x + 1) → answer_of (x ∷ xs) l f ≡ answer_of xs l f
on_other x xs l f not_upper not_lower =
    let off : is_on l x ≡ false = grind (arith, nat_tests) in
    ap (λ b. answer_on l (cond b (Some x) (find (is_on l) xs)) f) off

-- the answer depends on the lane's bit, and on the bits of the lanes of instructions
pub answers_agree : (P : ℕ → Type 0) (f g : ℕ → Bool) → ((n : ℕ) → P n → f n ≡ g n)
    → (xs : List Instr) → All (λ i. P (lane_of i) × P (lane_of i + 1)) xs → (l : ℕ) → P l → answer_on l (instr_on xs l) f ≡ answer_on l (instr_on xs l) g
answers_agree P f g agree [] all l here = agree l here
answers_agree P f g agree (x ∷ xs) all l here =
    let lanes = All-head (λ i. P (lane_of i) × P (lane_of i + 1)) x xs all in
    ⊎_elim
    (λ upper. (let next : l + 1 ≡ lane_of x + 1 = omega arith in
    on_upper x xs l f upper
    ∙ ap₂ (upper_bit x) (agree l here) (agree (l + 1) (subst P (sym next) lanes.1))
    ∙ sym (on_upper x xs l g upper)))
    (λ not_upper. ⊎_elim
    (λ lower. (let before : l - 1 ≡ lane_of x = omega arith in
    on_lower x xs l f lower
    ∙ ap₂ (lower_bit x) (agree (l - 1) (subst P (sym before) lanes.0)) (agree l here)
    ∙ sym (on_lower x xs l g lower)))
    (λ not_lower.
    on_other x xs l f not_upper not_lower
    ∙ answers_agree P f g agree xs (All-tail (λ i. P (lane_of i) × P (lane_of i + 1)) x xs all) l here
    ∙ sym (on_other x xs l g not_upper not_lower))
    (cases_eq l (lane_of x + 1)))
    (cases_eq l (lane_of x))

-- an instruction changes the bits of its two lanes alone
upper_after : (bits : List Bool) (x : Instr) (l : ℕ) → l ≡ lane_of x → lane_of x + 1 < length bits → bit_on (after_instr bits x) l ≡ upper_bit x (bit_on bits l) (bit_on bits (l + 1))
upper_after bits x l here fits =
    let a = bit_on bits (lane_of x) in
    let b = bit_on bits (lane_of x + 1) in
    get_or-set_other (set bits (lane_of x) (upper_bit x a b)) (lane_of x + 1) l (lower_bit x a b) false (omega arith)
    ∙ get_or-set_at bits (lane_of x) l (upper_bit x a b) false here (omega arith)
    ∙ ap (λ n. upper_bit x (bit_on bits n) (bit_on bits (n + 1))) (sym here)

lower_after : (bits : List Bool) (x : Instr) (l : ℕ) → l ≡ lane_of x + 1 → lane_of x + 1 < length bits → bit_on (after_instr bits x) l ≡ lower_bit x (bit_on bits (l - 1)) (bit_on bits l)
lower_after bits x l here fits =
    let a = bit_on bits (lane_of x) in
    let b = bit_on bits (lane_of x + 1) in
    let before : lane_of x ≡ l - 1 = omega arith in
    get_or-set_at (set bits (lane_of x) (upper_bit x a b)) (lane_of x + 1) l (lower_bit x a b) false here (omega (arith, fits, length-set bits (lane_of x) (upper_bit x a b)))
    ∙ ap₂ (λ n k. lower_bit x (bit_on bits n) (bit_on bits k)) before (sym here)

kept_after : (bits : List Bool) (x : Instr) (l : ℕ) → l ≢ lane_of x → l ≢ lane_of x + 1 → bit_on (after_instr bits x) l ≡ bit_on bits l
kept_after bits x l not_upper not_lower =
    get_or-set_other (set bits (lane_of x) _) (lane_of x + 1) l _ false not_lower ∙ get_or-set_other bits (lane_of x) l _ false not_upper

-- the lanes of instructions below x are none of its own
abbrev IsOff : Instr → ℕ → Type 0
IsOff x n = (n ≢ lane_of x) × (n ≢ lane_of x + 1)

off_lanes : (x : Instr) (xs : List Instr) → list_all (is_above x) xs ≡ true → All (λ i. IsOff x (lane_of i) × IsOff x (lane_of i + 1)) xs
off_lanes x [] h k d within = absurd (omega arith)
off_lanes x (y ∷ ys) h zero d within =
    let above : is_above x y ≡ true = (and_parts _ _ h).0 in
    let far : lane_of x + 1 < lane_of y = grind (arith, nat_tests) in
    ((omega arith, omega arith), (omega arith, omega arith))
off_lanes x (y ∷ ys) h (suc k) d within = off_lanes x ys (and_parts (is_above x y) _ h).1 k d (omega arith)

-- the bit on a lane after instructions that share no lane is the answer of the one on it
pub bit_after : (xs : List Instr) → IsTrue (are_sorted_apart xs) → (bits : List Bool) → All (IsOnLanes (length bits)) xs
    → (l : ℕ) → bit_on (after_instrs xs bits) l ≡ answer_on l (instr_on xs l) (bit_on bits)
bit_after [] apart bits fit l = refl
bit_after (x ∷ xs) apart bits fit l =
    let parts = and_parts (list_all (is_above x) xs) (are_sorted_apart xs) apart in
    let fits : lane_of x + 1 < length bits = All-head (IsOnLanes (length bits)) x xs fit in
    let rest : All (IsOnLanes (length (after_instr bits x))) xs =
    subst (λ (n : ℕ). All (IsOnLanes n) xs) (sym (length-after_instr bits x)) (All-tail (IsOnLanes (length bits)) x xs fit) in
    let later = bit_after xs parts.1 (after_instr bits x) rest l in
    ⊎_elim
    (λ upper. later
    ∙ ap (λ o. answer_on l o (bit_on (after_instr bits x))) (none_below x l xs (omega arith) parts.0)
    ∙ upper_after bits x l upper fits ∙ sym (on_upper x xs l (bit_on bits) upper))
    (λ not_upper. ⊎_elim
    (λ lower. later
    ∙ ap (λ o. answer_on l o (bit_on (after_instr bits x))) (none_below x l xs (omega arith) parts.0)
    ∙ lower_after bits x l lower fits ∙ sym (on_lower x xs l (bit_on bits) lower))
    (λ not_lower. later
    ∙ answers_agree (IsOff x) (bit_on (after_instr bits x)) (bit_on bits) (λ n off. kept_after bits x n off.0 off.1) xs (off_lanes x xs parts.0) l (not_upper, not_lower)
    ∙ sym (on_other x xs l (bit_on bits) not_upper not_lower))
    (cases_eq l (lane_of x + 1)))
    (cases_eq l (lane_of x))
