-- Bits in rows of one length are a test on pairs of numbers.
use Rattle.std.proofs.Common.{◌≡◌, sym, ◌∙◌, ap, ℕ, ◌+◌, ◌*◌, ◌/◌, ◌%◌, ◌^◌, ◌<◌, ◌≤◌, Bool, true, false, ◌&&◌, ltb, ⊎_elim, List, length, get_or, arith}
use Rattle.std.specs.Prelude.{nat_lt}
use Rattle.std.proofs.lemmas.Bool.{cases_lt}
use Rattle.std.proofs.lemmas.Bool.Decides.{nat_tests}
use Rattle.std.proofs.lemmas.List.{get_or_past}
use Rattle.std.proofs.lemmas.Nat.{mul-add-lt, div-mul-add, mod-mul-add, mul-le}
use Rattle.std.proofs.Math.Nat.{mul_comm}
use Rattle.std.proofs.Math.Nat.{div-lt_iff_lt-mul}

-- where the bit at each place is the test's at its row and column, and the test fails beyond, all agree
pub bits_read : (width height : ℕ) (bits : List Bool) (test : ℕ → ℕ → Bool) → length bits ≡ width * height
    → ((k : ℕ) → k < length bits → get_or bits k false ≡ test (k / height) (k % height))
    → ((q l : ℕ) → width ≤ q → test q l ≡ false) → ((q l : ℕ) → height ≤ l → test q l ≡ false)
    → (q l : ℕ) → (nat_lt l height && get_or bits (q * height + l) false) ≡ test q l
bits_read width height bits test long each right below q l =
    ⊎_elim
    (λ low. (let yes : ltb l height ≡ true = grind (arith, nat_tests) in
    ap (λ b. b && get_or bits (q * height + l) false) yes
    ∙ ⊎_elim
    (λ near. (let within : q * height + l < width * height = omega (arith, mul-add-lt q height l width near low, mul_comm width height) in
    each (q * height + l) (omega arith)
    ∙ ap (λ n. test n ((q * height + l) % height)) (div-mul-add q height l low)
    ∙ ap (test q) (mod-mul-add q height l low)))
    (λ far. (let past : width * height ≤ q * height = mul-le width height q height far (omega arith) in
    get_or_past bits (q * height + l) false (omega arith) ∙ sym (right q l far)))
    (cases_lt q width)))
    (λ high. (let no : ltb l height ≡ false = grind (arith, nat_tests) in
    ap (λ b. b && get_or bits (q * height + l) false) no ∙ sym (below q l high)))
    (cases_lt l height)

-- a place in bits lies in a column that is not far
pub column_near : (i n lanes : ℕ) → 0 < lanes → i < n → n ≤ 2 ^ 57 * lanes → i / lanes < 2 ^ 58
column_near i n lanes some within few =
    let near : i / lanes < 2 ^ 57 = (div-lt_iff_lt-mul some).1 (omega (arith, within, few)) in
    omega (arith, near)
