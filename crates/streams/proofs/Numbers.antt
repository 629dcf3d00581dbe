-- Numbers that digits write.
use Rattle.std.proofs.Common.{ℕ, ◌+◌, ◌-◌, ◌*◌, ◌<◌, ◌≤◌, ◌≡◌, refl, sym, ap, ◌∙◌, true, List, length, take, get_or, arith, nat_lt, false}
use Rattle.std.specs.List.{list_all}
use Rattle.std.specs.Char.{is_ascii_digit, digit_value}
use Rattle.std.specs.Str.Parse.{digits_value}
use Rattle.std.proofs.lemmas.Bool.{and_parts, leb-true, le-ltb}
use Rattle.std.proofs.lemmas.Bool.Decides.{nat_tests}
use Rattle.std.proofs.lemmas.Int.Digits.{digits_value_more}
use Rattle.std.proofs.lemmas.List.Sums.{AllPass-from_list_all}
use Rattle.std.proofs.lemmas.Str.Parse.{digits_value-take-le}

value_of_digit : (b : ℕ) → 48 ≤ b → b ≤ 57 → digit_value b ≡ b - 48
value_of_digit b low high = grind (arith, nat_tests)

digit_is : (b : ℕ) → is_ascii_digit b ≡ true → digit_value b ≡ b - 48
digit_is b e =
    let parts = and_parts _ _ e in
    value_of_digit b (leb-true _ _ parts.0) (leb-true _ _ parts.1)

pub is_digit : (b : ℕ) → is_ascii_digit b ≡ true → (48 ≤ b) × (b ≤ 57)
is_digit b e =
    let parts = and_parts _ _ e in
    (leb-true _ _ parts.0, leb-true _ _ parts.1)

-- one digit more
pub one_more : (ds : List ℕ) (i v : ℕ) → list_all is_ascii_digit ds ≡ true → i < length ds → v ≡ digits_value 10 (take i ds) → v * 10 + (get_or ds i 0 - 48) ≡ digits_value 10 (take (i + 1) ds)
one_more ds i v all h e =
    let is : is_ascii_digit (get_or ds i 0) ≡ true = AllPass-from_list_all is_ascii_digit ds all i 0 h in
    sym (digits_value_more 10 ds i h ∙ rw (sym e, digit_is _ is) refl)

-- the first digits alone write no less than a bound
pub not_below : (ds : List ℕ) (i bound : ℕ) → bound ≤ digits_value 10 (take i ds) → nat_lt (digits_value 10 ds) bound ≡ false
not_below ds i bound h =
    let more : digits_value 10 (take i ds) ≤ digits_value 10 ds = digits_value-take-le 10 ds i (omega arith) in
    le-ltb (digits_value 10 ds) bound (omega (arith, h, more))
