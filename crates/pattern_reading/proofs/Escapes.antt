-- Escapes read back, and a name with escapes is a field.
use Rattle.std.proofs.Common.{ℕ, ◌+◌, ◌-◌, ◌*◌, ◌/◌, ◌%◌, ◌≡◌, ◌≢◌, ◌<◌, ◌≤◌, refl, sym, ap, ◌∙◌, Bool, true, false, true≢false, ◌||◌, ◌==◌, List, [], ◌∷◌, ◌++◌, arith}
use Rattle.std.specs.Prelude.{Some, nat_lt, if◌then◌else◌}
use Rattle.std.specs.Char.{digit_value}
use Rattle.std.specs.Fmt.{digit_glyph}
use Rattle.std.specs.List.{All}
use Rattle.std.proofs.lemmas.Bool.{and_parts, leb-true, lt-ltb, ltb-false, ltb-true, ne_eqb, or_parts}
use Rattle.std.proofs.lemmas.Bool.Decides.{nat_tests}
use Rattle.std.proofs.lemmas.List.Elements.{All-cons, All-head, All-nil, All-tail}
use Rattle.pattern_reading.specs.Escapes.{escape_in, escaped, escaped_byte, is_plain_in_name, onto, unescaped}
use Rattle.pattern_reading.specs.Numbers.{◌>>=◌}
use Rattle.pattern_reading.specs.Spelling.{HasItsEscapes, HasItsName, IsField, escaped_name}

-- what a digit stands for
value_of_digit : (b : ℕ) → 48 ≤ b → b ≤ 57 → digit_value b ≡ b - 48
value_of_digit b low high = grind (arith, nat_tests)

value_of_letter : (b : ℕ) → 65 ≤ b → b ≤ 70 → digit_value b ≡ b - 55
value_of_letter b low high = grind (arith, nat_tests)

value_of_glyph : (n : ℕ) → n < 16 → digit_value (digit_glyph true n) ≡ n
value_of_glyph n small = by_test (nat_lt n 10) refl
  where
    by_test : (t : Bool) → nat_lt n 10 ≡ t → digit_value (if t then 48 + n else (55 + n)) ≡ n
    by_test true e =
        let low = ltb-true n 10 e in
        let is = value_of_digit (48 + n) (omega arith) (omega (arith, low)) in
        omega (arith, is)
    by_test false e =
        let high = ltb-false n 10 e in
        let is = value_of_letter (55 + n) (omega (arith, high)) (omega (arith, small)) in
        omega (arith, is)

low_glyph : (n : ℕ) → 48 ≤ digit_glyph true n
low_glyph n = by_test (nat_lt n 10)
  where
    by_test : (t : Bool) → 48 ≤ (if t then 48 + n else (55 + n))
    by_test true = omega arith
    by_test false = omega arith

-- the digits of a byte read back
escape_is : (b : ℕ) → b ≤ 255 → b ≢ 10 → escape_in (digit_glyph true (b / 16)) (digit_glyph true (b % 16)) ≡ Some b
escape_is b small other =
    let high : b / 16 < 16 = omega (arith, small) in
    let low : b % 16 < 16 = omega arith in
    let whole : b / 16 * 16 + b % 16 ≡ b = omega arith in
    rw (value_of_glyph (b / 16) high, value_of_glyph (b % 16) low, lt-ltb (b / 16) 16 high, lt-ltb (b % 16) 16 low, whole, ne_eqb b 10 other) refl

-- a byte that begins no escape
pub unescaped_byte : (b : ℕ) (rest : List ℕ) → (b == 37) ≡ false → unescaped (b ∷ rest) ≡ onto b (unescaped rest)
unescaped_byte b [] e = rw e refl
unescaped_byte b (c ∷ []) e = rw e refl
unescaped_byte b (c ∷ d ∷ rest) e = rw e refl

pub its_escapes : (is_plain : ℕ → Bool) (bytes : List ℕ) → HasItsEscapes is_plain bytes
its_escapes is_plain [] sign h = refl
its_escapes is_plain (b ∷ bs) sign h =
    by_test (is_plain b || nat_lt 255 b) refl (its_escapes is_plain bs sign (All-tail (λ b. b ≢ 10) b bs h))
  where
    not_sign : (is_plain b || nat_lt 255 b) ≡ true → b ≢ 37
    not_sign e is = true≢false (sym e ∙ ap (λ c. is_plain c || nat_lt 255 c) is ∙ ap (λ t. t || nat_lt 255 37) sign)

    by_test : (t : Bool) → (is_plain b || nat_lt 255 b) ≡ t → unescaped (escaped is_plain bs) ≡ Some bs
        → unescaped ((if t then b ∷ [] else 37 ∷ digit_glyph true (b / 16) ∷ digit_glyph true (b % 16) ∷ []) ++ escaped is_plain bs) ≡ Some (b ∷ bs)
    by_test true e rest = unescaped_byte b (escaped is_plain bs) (ne_eqb b 37 (not_sign e)) ∙ ap (onto b) rest
    by_test false e rest =
        let small : b ≤ 255 = omega (arith, ltb-false 255 b (or_parts (is_plain b) (nat_lt 255 b) e).1) in
        ap (λ o. o >>= λ e. onto e (unescaped (escaped is_plain bs))) (escape_is b small (All-head (λ b. b ≢ 10) b bs h)) ∙ ap (onto b) rest

-- the bytes of a name with escapes
abbrev IsFieldByte : ℕ → Type 0
IsFieldByte b = (b ≢ 10) × (b ≢ 13) × (b ≢ 32)

field_byte : (b : ℕ) → 33 ≤ b → IsFieldByte b
field_byte b low = (λ e. omega (arith, low, e), λ e. omega (arith, low, e), λ e. omega (arith, low, e))

low_plain : (b : ℕ) → (is_plain_in_name b || nat_lt 255 b) ≡ true → 33 ≤ b
low_plain b e = by_test (is_plain_in_name b) refl e
  where
    by_test : (t : Bool) → is_plain_in_name b ≡ t → (t || nat_lt 255 b) ≡ true → 33 ≤ b
    by_test true plain k = leb-true 33 b (and_parts _ _ (and_parts _ _ plain).0).0
    by_test false plain k = let large = ltb-true 255 b k in omega (arith, large)

-- before other bytes that can stand in a field
field_onto : (b : ℕ) (rest : List ℕ) → IsField rest → IsField (escaped_byte is_plain_in_name b ++ rest)
field_onto b rest h = by_test (is_plain_in_name b || nat_lt 255 b) refl
  where
    by_test : (t : Bool) → (is_plain_in_name b || nat_lt 255 b) ≡ t → All IsFieldByte ((if t then b ∷ [] else 37 ∷ digit_glyph true (b / 16) ∷ digit_glyph true (b % 16) ∷ []) ++ rest)
    by_test true e = All-cons IsFieldByte b rest (field_byte b (low_plain b e)) h
    by_test false e =
        let high = digit_glyph true (b / 16) in
        let low = digit_glyph true (b % 16) in
        All-cons IsFieldByte 37 (high ∷ low ∷ rest) (field_byte 37 (omega arith))
        (All-cons IsFieldByte high (low ∷ rest) (field_byte high (omega (arith, low_glyph (b / 16))))
        (All-cons IsFieldByte low rest (field_byte low (omega (arith, low_glyph (b % 16)))) h))

pub escaped_field : (name : List ℕ) → IsField (escaped_name name)
escaped_field [] = All-nil IsFieldByte
escaped_field (b ∷ bs) = field_onto b (escaped_name bs) (escaped_field bs)

pub its_name : (name : List ℕ) → HasItsName name
its_name [] h = absurd (h.0 refl)
its_name (b ∷ bs) h = (escaped_field (b ∷ bs), rw (its_escapes is_plain_in_name (b ∷ bs) refl h.1) refl)
