-- Copies of tags, and of the cells of runs.
use Rattle.std.proofs.Common.{◌≡◌, sym, ◌∙◌, ap, ap₂, ℕ, zero, suc, ◌+◌, ◌-◌, ◌*◌, ◌<◌, ◌≤◌, List, [], ◌∷◌, ◌++◌, length, replicate, get_or, arith, append_assoc, mul-suc, mul-zero}
use Rattle.std.proofs.lemmas.List.{append-nil, length-append, length-replicate, replicate-append-replicate}
use Rattle.rle_write.specs.declared.rows.Run.{Run}
use Rattle.rle_write.specs.Runs.{spelled, repeated}

pub repeated_next : (n i : ℕ) (tags : List ℕ) → i < n → repeated (n - i) tags ≡ tags ++ repeated (n - (i + 1)) tags
repeated_next n i tags lt =
    let e : n - i ≡ suc (n - (i + 1)) = omega (arith, lt) in ap (λ m. repeated m tags) e

pub repeated_long : (n i : ℕ) (tags : List ℕ) → i < n → length (repeated (n - i) tags) ≡ length tags + length (repeated (n - (i + 1)) tags)
repeated_long n i tags lt = ap length (repeated_next n i tags lt) ∙ length-append tags (repeated (n - (i + 1)) tags)

-- the first copy, and the others
pub repeated_first : (n : ℕ) (tags : List ℕ) → 0 < n → repeated n tags ≡ tags ++ repeated (n - 1) tags
repeated_first n tags lt = let e : n ≡ n - 0 = omega arith in ap (λ m. repeated m tags) e ∙ repeated_next n 0 tags lt

pub repeated_first_long : (n : ℕ) (tags : List ℕ) → 0 < n → length (repeated n tags) ≡ length tags + length (repeated (n - 1) tags)
repeated_first_long n tags lt = ap length (repeated_first n tags lt) ∙ length-append tags (repeated (n - 1) tags)

-- the first of the copies, and the others
pub repeated_split : (m n : ℕ) (tags : List ℕ) → m ≤ n → repeated n tags ≡ repeated m tags ++ repeated (n - m) tags
repeated_split zero n tags le = let e : n ≡ n - 0 = omega arith in ap (λ k. repeated k tags) e
repeated_split (suc m) zero tags le = absurd (omega (arith, le))
repeated_split (suc m) (suc n) tags le =
    let e : n - m ≡ suc n - suc m = omega arith in
    ap (λ l. tags ++ l) (repeated_split m n tags (omega (arith, le)))
    ∙ sym (append_assoc tags (repeated m tags) (repeated (n - m) tags)) ∙ ap (λ k. (tags ++ repeated m tags) ++ repeated k tags) e

pub repeated_parts : (m n : ℕ) (tags : List ℕ) → m ≤ n → length (repeated n tags) ≡ length (repeated m tags) + length (repeated (n - m) tags)
repeated_parts m n tags le = ap length (repeated_split m n tags le) ∙ length-append (repeated m tags) (repeated (n - m) tags)

-- one more copy
pub repeated_last : (n : ℕ) (tags more : List ℕ) → repeated n tags ++ (tags ++ more) ≡ repeated (n + 1) tags ++ more
repeated_last zero tags more = ap (λ l. l ++ more) (sym (append-nil tags))
repeated_last (suc n) tags more =
    let e : suc (n + 1) ≡ suc n + 1 = omega arith in
    append_assoc tags (repeated n tags) (tags ++ more) ∙ ap (λ l. tags ++ l) (repeated_last n tags more)
    ∙ sym (append_assoc tags (repeated (n + 1) tags) more) ∙ ap (λ k. repeated k tags ++ more) e

repeated_run : (n count tag : ℕ) → repeated n (replicate count tag ++ []) ≡ replicate (count * n) tag
repeated_run zero count tag = ap (λ m. replicate m tag) (sym (mul-zero count))
repeated_run (suc n) count tag =
    let k : count + count * n ≡ count * suc n = omega (arith, mul-suc count n) in
    ap₂ (λ a b. a ++ b) (append-nil (replicate count tag)) (repeated_run n count tag)
    ∙ replicate-append-replicate count (count * n) tag ∙ ap (λ m. replicate m tag) k

-- copies of one run are one run
pub repeated_one : (runs : List Run) (d : Run) (n : ℕ) → length runs ≡ 1 → repeated n (spelled runs) ≡ replicate ((get_or runs 0 d).count * n) (get_or runs 0 d).tag
repeated_one [] d n one = absurd (omega (arith, one))
repeated_one (run ∷ []) d n one = repeated_run n run.count run.tag
repeated_one (run ∷ other ∷ runs) d n one = absurd (omega (arith, one))

pub repeated_one_long : (runs : List Run) (d : Run) (n : ℕ) → length runs ≡ 1 → length (repeated n (spelled runs)) ≡ (get_or runs 0 d).count * n
repeated_one_long runs d n one =
    ap length (repeated_one runs d n one) ∙ length-replicate ((get_or runs 0 d).count * n) (get_or runs 0 d).tag
