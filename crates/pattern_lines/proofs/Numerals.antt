-- Numbers that bytes write.
use Rattle.std.proofs.Common.{ℕ, ◌+◌, ◌-◌, ◌*◌, ◌^◌, ◌<◌, ◌≤◌, ◌≡◌, refl, sym, ◌∙◌, true, false, List, [], ◌∷◌, length, take, get_or, arith}
use Rattle.std.specs.Prelude.{Some, None, nat_le}
use Rattle.std.specs.List.{list_all}
use Rattle.std.specs.Char.{is_ascii_digit, digit_value}
use Rattle.std.specs.Str.Parse.{digits_value}
use Rattle.std.proofs.lemmas.Str.Parse.{digits_value-take-le}
use Rattle.std.proofs.lemmas.Bool.{and_parts, leb-true}
use Rattle.std.proofs.lemmas.Bool.Decides.{nat_tests}
use Rattle.std.proofs.lemmas.Int.Digits.{digits_value_more}
use Rattle.std.proofs.lemmas.List.Folds.{list_all_more}
use Rattle.pattern_reading.specs.Numbers.{number_in, greatest_number}
use Rattle.std.proofs.lemmas.Bool.{and_right}

past_greatest : (v : ℕ) → 2 ^ 64 ≤ v → nat_le v greatest_number ≡ false
past_greatest v h = grind (arith, nat_tests)

within_greatest : (v : ℕ) → v < 2 ^ 64 → nat_le v greatest_number ≡ true
within_greatest v h = grind (arith, nat_tests)

pub large_number : (ds : List ℕ) (i : ℕ) → 2 ^ 64 ≤ digits_value 10 (take i ds) → number_in ds ≡ None
large_number [] i h = refl
large_number (b ∷ bs) i h =
    let more : digits_value 10 (take i (b ∷ bs)) ≤ digits_value 10 (b ∷ bs) = digits_value-take-le 10 (b ∷ bs) i (omega arith) in
    let large : 2 ^ 64 ≤ digits_value 10 (b ∷ bs) = omega (arith, h, more) in
    rw (and_right (list_all is_ascii_digit (b ∷ bs)) _ (past_greatest _ large)) refl

pub whole_number : (ds : List ℕ) → 0 < length ds → list_all is_ascii_digit ds ≡ true → digits_value 10 ds < 2 ^ 64 → number_in ds ≡ Some (digits_value 10 ds)
whole_number [] some e h = absurd (omega (arith, some))
whole_number (b ∷ bs) some e h = rw (e, within_greatest _ h) refl

value_of_digit : (b : ℕ) → 48 ≤ b → b ≤ 57 → digit_value b ≡ b - 48
value_of_digit b low high = grind (arith, nat_tests)

digit_is : (b : ℕ) → is_ascii_digit b ≡ true → digit_value b ≡ b - 48
digit_is b e =
    let parts = and_parts _ _ e in
    let low : 48 ≤ b = leb-true _ _ parts.0 in
    let high : b ≤ 57 = leb-true _ _ parts.1 in
    value_of_digit b low high

-- one more digit
pub one_more : (ds : List ℕ) (i v : ℕ) → i < length ds → v ≡ digits_value 10 (take i ds) → is_ascii_digit (get_or ds i 0) ≡ true → digits_value 10 (take (i + 1) ds) ≡ v * 10 + (get_or ds i 0 - 48)
one_more ds i v h e is = digits_value_more 10 ds i h ∙ rw (sym e, digit_is _ is) refl

pub large_more : (ds : List ℕ) (i v : ℕ) → i < length ds → v ≡ digits_value 10 (take i ds) → is_ascii_digit (get_or ds i 0) ≡ true → 2 ^ 64 ≤ v * 10 + (get_or ds i 0 - 48) → number_in ds ≡ None
large_more ds i v h e is large = large_number ds (i + 1) (omega (arith, large, one_more ds i v h e is))

pub digits_more : (ds : List ℕ) (i : ℕ) → i < length ds → list_all is_ascii_digit (take i ds) ≡ true → is_ascii_digit (get_or ds i 0) ≡ true → list_all is_ascii_digit (take (i + 1) ds) ≡ true
digits_more ds i h all is = list_all_more is_ascii_digit ds i 0 h ∙ rw (all, is) refl
