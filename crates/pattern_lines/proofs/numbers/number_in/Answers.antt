use Rattle.std.proofs.Common.{◌≡◌, ◌≤◌, ◌<◌, ◌+◌, ◌*◌, ◌^◌, ◌==◌, ℕ, true, false, true≢false, List, [], ◌∷◌, take, length, get_or, arith, sym, ap, ◌∙◌}
use Rattle.std.specs.Prelude.{Some}
use Rattle.std.specs.List.{list_all}
use Rattle.std.specs.Char.{is_ascii_digit}
use Rattle.std.specs.Str.Parse.{digits_value}
use Rattle.std.proofs.lemmas.List.{take_all}
use Rattle.pattern_lines.proofs.Numerals.{large_more, whole_number, digits_more, one_more}
use Rattle.pattern_lines.proofs.numbers.number_in.Goals as goal

not_empty : (ds : List ℕ) → (length ds == 0) ≡ false → 0 < length ds
not_empty [] e = absurd (true≢false e)
not_empty (d ∷ ds) e = omega arith

pub returns-in_err-checked_mul : goal.returns-in_err-checked_mul
returns-in_err-checked_mul c =
    let i = c.loop-digit.digit-index in
    let large : 2 ^ 64 ≤ c.loop-digit.number * 10 = omega (arith, c.in_err-checked_mul.ensures) in
    let is : is_ascii_digit (get_or c.args.digits.now i 0) ≡ true = sym c.is_ascii_digit.ensures.value ∙ c.if-not-is_ascii_digit.false in
    c.from_residual.ensures ∙ sym (large_more c.args.digits.now i c.loop-digit.number c.loop-digit-test.true c.loop-digit.invariant.value is (omega (arith, large)))

pub returns-in_err-number : goal.returns-in_err-number
returns-in_err-number c =
    let i = c.loop-digit.digit-index in
    let large : 2 ^ 64 ≤ c.in_ok-checked_mul.field-0 + c.from.result = omega (arith, c.in_err-number.ensures) in
    let is : is_ascii_digit (get_or c.args.digits.now i 0) ≡ true = sym c.is_ascii_digit.ensures.value ∙ c.if-not-is_ascii_digit.false in
    c.from_residual-in_err-number.ensures ∙ sym (large_more c.args.digits.now i c.loop-digit.number c.loop-digit-test.true c.loop-digit.invariant.value is (omega (arith, large, c.in_ok-checked_mul.ensures, c.from.ensures)))

pub loop-digit-preserved : goal.loop-digit-preserved
loop-digit-preserved c =
    let i = c.loop-digit.digit-index in
    let is : is_ascii_digit (get_or c.args.digits.now i 0) ≡ true = sym c.is_ascii_digit.ensures.value ∙ c.if-not-is_ascii_digit.false in
    record {
      digits = digits_more c.args.digits.now i c.loop-digit-test.true c.loop-digit.invariant.digits is;
      value = omega (arith, c.in_ok-number.ensures, c.in_ok-checked_mul.ensures, c.from.ensures, one_more c.args.digits.now i c.loop-digit.number c.loop-digit-test.true c.loop-digit.invariant.value is);
      small = omega (arith, c.in_ok-number.ensures);
    }

pub returns : goal.returns
returns c =
    let ds = c.args.digits.now in
    let all : take c.loop-digit.digit-index ds ≡ ds = take_all c.loop-digit.digit-index ds c.loop-digit-test.false in
    let value : c.loop-digit.number ≡ digits_value 10 ds = c.loop-digit.invariant.value ∙ ap (digits_value 10) all in
    let digits : list_all is_ascii_digit ds ≡ true = sym (ap (list_all is_ascii_digit) all) ∙ c.loop-digit.invariant.digits in
    let some : 0 < length ds = not_empty ds (sym c.is_empty.ensures ∙ c.if-is_empty.false) in
    ap Some value ∙ sym (whole_number ds some digits (omega (arith, value, c.loop-digit.invariant.small)))
