-- Items of counts of one and of two digits.
use Rattle.std.proofs.Common.{◌≡◌, ◌≢◌, refl, sym, ◌∙◌, ap, ap₂, ℕ, zero, suc, ◌+◌, ◌<◌, ◌≤◌, ◌/◌, ◌%◌, [], ◌∷◌, ◌++◌, map, arith}
use Rattle.std.specs.Prelude.{decimal, if◌then◌else◌}
use Rattle.std.specs.Fmt.{digits}
use Rattle.std.specs.Int.Digits.{digits_of}
use Rattle.std.proofs.lemmas.Int.Digits.{digits_of_step}
use Rattle.std.proofs.lemmas.Bool.{ne_eqb}
use Rattle.std.proofs.lemmas.Fmt.{decimal-digits_of}
use Rattle.pattern_writing.specs.Writer.{count_text, run_text}

-- a number of one digit has that digit alone
digit_alone : (n : ℕ) → 0 < n → n < 10 → digits_of 10 n ≡ n ∷ []
digit_alone n some small =
    let z : n / 10 ≡ 0 = omega (arith, small) in
    let e : n % 10 ≡ n = omega (arith, small) in
    digits_of_step 10 n (omega arith) some ∙ ap₂ (λ q r. digits_of 10 q ++ (r ∷ [])) z e

zero_digit : decimal 0 ≡ 48 ∷ []
unfolding digits
zero_digit = refl

one_digit : (n : ℕ) → n < 10 → decimal n ≡ (48 + n) ∷ []
one_digit zero small = zero_digit
one_digit (suc n) small =
    decimal-digits_of (suc n) (omega arith) (omega (arith, small))
    ∙ ap (map (λ d. 48 + d)) (digit_alone (suc n) (omega arith) small)

two_digits : (n : ℕ) → 10 ≤ n → n < 100 → decimal n ≡ (48 + n / 10) ∷ (48 + n % 10) ∷ []
two_digits n large small =
    let first = digit_alone (n / 10) (omega (arith, large)) (omega (arith, small)) in
    decimal-digits_of n (omega (arith, large)) (omega (arith, small))
    ∙ ap (map (λ d. 48 + d))
    (digits_of_step 10 n (omega arith) (omega (arith, large)) ∙ ap (λ ds. ds ++ (n % 10 ∷ [])) first)

-- a count that is not 1 is written
count_shown : (n : ℕ) → n ≢ 1 → count_text n ≡ decimal n
count_shown n ne = ap (λ t. if t then [] else decimal n) (ne_eqb n 1 ne)

-- the bytes of an item are a digit and the tag
pub short_item : (count tag d : ℕ) → count ≢ 1 → count < 10 → d ≡ 48 + count
    → run_text record { count = count; tag = tag } ≡ d ∷ tag ∷ []
short_item count tag d ne small e =
    ap (λ ds. ds ++ (tag ∷ [])) (count_shown count ne ∙ one_digit count small) ∙ ap (λ d. d ∷ tag ∷ []) (sym e)

-- two digits and the tag
pub longer_item : (count tag d e : ℕ) → 10 ≤ count → count < 100 → d ≡ 48 + count / 10 → e ≡ 48 + count % 10
    → run_text record { count = count; tag = tag } ≡ d ∷ e ∷ tag ∷ []
longer_item count tag d e large small first second =
    ap (λ ds. ds ++ (tag ∷ [])) (count_shown count (omega (arith, large)) ∙ two_digits count large small)
    ∙ ap₂ (λ d e. d ∷ e ∷ tag ∷ []) (sym first) (sym second)
