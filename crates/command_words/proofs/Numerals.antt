-- The number between two bounds is what `parse` reads.
use Rattle.std.proofs.Common.{ℕ, ◌^◌, ◌<◌, ◌≤◌, ◌≡◌, refl, Bool, true, false, ◌&&◌, List, [], ◌∷◌, None, Ok, Err, Result, arith, rules}
use Rattle.std.specs.Prelude.{nat_le}
use Rattle.std.specs.List.{list_all}
use Rattle.std.specs.Char.{is_ascii_digit}
use Rattle.std.specs.Result.{result_ok}
use Rattle.std.specs.Str.Parse.{digits_value, ParsesUnsigned}
use Rattle.std.proofs.lemmas.Str.Parse.{IsNumeralModel, numerals_by_value, parse_digits}
use Rattle.std.proofs.lemmas.Bool.{leb-false, leb-true, lt-leb}
use Rattle.command_words.specs.Numbers.{number_between}
use Rattle.std.proofs.Math.Bool.{and-false as and_false}

abbrev HasDigits : List ℕ → Type 0
HasDigits bs = list_all is_ascii_digit bs ≡ true

numerals : IsNumeralModel HasDigits (digits_value 10)
numerals = numerals_by_value HasDigits (search rules)

too_great : (least most n : ℕ) → most < n → (nat_le least n && nat_le n most) ≡ false
too_great least most n above = let e : nat_le n most ≡ false = lt-leb n most above in rw (e) (and_false _)

-- where `parse` finds no number, there is none between bounds that fit
pub not_parsed : (least most : ℕ) (bs : List ℕ) {E : Type 0} (r : Result ℕ E) → list_all is_ascii_digit bs ≡ true → most < 2 ^ 64 → ParsesUnsigned 64 10 bs r → result_ok r ≡ None → number_between least most bs ≡ None
not_parsed least most [] r h small p none = refl
not_parsed least most (b ∷ bs) (Ok x) h small p none = cc
not_parsed least most (b ∷ bs) (Err x) h small p none = go (nat_le (2 ^ 64) (digits_value 10 (b ∷ bs))) refl
  where
    go : (t : Bool) → nat_le (2 ^ 64) (digits_value 10 (b ∷ bs)) ≡ t → number_between least most (b ∷ bs) ≡ None
    go true e = let over : 2 ^ 64 ≤ digits_value 10 (b ∷ bs) = leb-true _ _ e in rw (h) (rw (too_great least most (digits_value 10 (b ∷ bs)) (omega (arith, over, small))) refl)
    go false e = absurd (parse_digits numerals 64 (b ∷ bs) (Err x) p h (omega arith, omega (arith, leb-false _ _ e)))
