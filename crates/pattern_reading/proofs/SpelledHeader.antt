-- A header and a count that are spelled are read back.
use Rattle.std.proofs.Common.{ℕ, zero, suc, ◌<◌, ◌≤◌, ◌^◌, ◌≡◌, ◌≢◌, refl, ap, ◌∙◌, true, false, List, [], ◌∷◌, ◌++◌, length, arith}
use Rattle.std.specs.Prelude.{Option, Some, take_while, codes, decimal}
use Rattle.std.specs.List.{list_all}
use Rattle.std.specs.Char.{is_ascii_digit}
use Rattle.std.proofs.lemmas.Bool.{and_parts, leb-true}
use Rattle.std.proofs.lemmas.List.Sums.{take_while-cons}
use Rattle.std.proofs.lemmas.List.Elements.{All-append}
use Rattle.std.proofs.lemmas.Fmt.{decimal_is_IsNumeral}
use Rattle.ww_rule.specs.Grid.{Grid}
use Rattle.pattern_reading.specs.Numbers.{◌>>=◌, after_word, is_blank, number_in, number_at_front, without_leading_blanks}
use Rattle.pattern_reading.specs.Header.{Header, header_in, rule_in}
use Rattle.pattern_reading.specs.Items.{counted_item, item_in}
use Rattle.pattern_reading.specs.Laws.{IsLineText}
use Rattle.pattern_reading.specs.SpelledPattern.{HasSpelledHeader, HasSpelledCount, spelled_header}
use Rattle.std.proofs.lemmas.Bool.{ne_eqb}
use Rattle.std.proofs.Math.Seq.{drop-append_seam}
use Rattle.pattern_reading.proofs.PortText.{digits_pass, number_in-decimal, decimal_field, letters_line, line_part}

decimal_digits : (n : ℕ) → n < 2 ^ 64 → list_all is_ascii_digit (decimal n) ≡ true
decimal_digits n small = digits_pass (decimal n) (decimal_is_IsNumeral n small).0.1

item_of_digits : (digits : List ℕ) (n tag : ℕ) → 0 < length digits → number_in digits ≡ Some (suc n) → item_in true digits (Some tag) ≡ counted_item (suc n) tag
item_of_digits [] n tag some e = absurd (omega (arith, some))
item_of_digits (d ∷ ds) n tag some e = rw e refl

pub spelled_count : (count tag : ℕ) → HasSpelledCount count tag
spelled_count zero tag some small = absurd (some refl)
spelled_count (suc n) tag some small =
    (decimal_digits (suc n) small, item_of_digits (decimal (suc n)) n tag (decimal_is_IsNumeral (suc n) small).0.0 (number_in-decimal (suc n) small))

-- digits before a byte that is none
digits_before : (ds : List ℕ) (c : ℕ) (rest : List ℕ) → list_all is_ascii_digit ds ≡ true → is_ascii_digit c ≡ false → take_while is_ascii_digit (ds ++ c ∷ rest) ≡ ds
digits_before [] c rest h k = take_while-cons is_ascii_digit c rest ∙ rw k refl
digits_before (d ∷ ds) c rest h k =
    let parts : (is_ascii_digit d ≡ true) × (list_all is_ascii_digit ds ≡ true) = and_parts _ _ h in
    take_while-cons is_ascii_digit d (ds ++ c ∷ rest) ∙ rw (parts.0) (ap (λ xs. d ∷ xs) (digits_before ds c rest parts.1 k))

no_blank : (d : ℕ) → is_ascii_digit d ≡ true → is_blank d ≡ false
no_blank d e =
    let low : 48 ≤ d = leb-true _ _ (and_parts _ _ e).0 in
    rw (ne_eqb d 9 (λ h. omega (arith, low, h)), ne_eqb d 32 (λ h. omega (arith, low, h))) refl

blank_before : (ds rest : List ℕ) → 0 < length ds → list_all is_ascii_digit ds ≡ true → without_leading_blanks (32 ∷ (ds ++ rest)) ≡ ds ++ rest
blank_before [] rest some h = absurd (omega (arith, some))
blank_before (d ∷ ds) rest some h = rw (no_blank d (and_parts _ _ h).0) refl

number_front : (ds : List ℕ) (n c : ℕ) (rest : List ℕ) → 0 < length ds → list_all is_ascii_digit ds ≡ true → number_in ds ≡ Some n → is_ascii_digit c ≡ false → number_at_front (32 ∷ (ds ++ (c ∷ rest))) ≡ Some (n, c ∷ rest)
number_front ds n c rest some digits e k =
    rw (blank_before ds (c ∷ rest) some digits, digits_before ds c rest digits k, e, drop-append_seam ds (c ∷ rest)) refl

front_of_decimal : (n c : ℕ) (rest : List ℕ) → n < 2 ^ 64 → is_ascii_digit c ≡ false → number_at_front (32 ∷ (decimal n ++ (c ∷ rest))) ≡ Some (n, c ∷ rest)
front_of_decimal n c rest small k =
    number_front (decimal n) n c rest (decimal_is_IsNumeral n small).0.0 (decimal_digits n small) (number_in-decimal n small) k

-- what is read after the numbers of a header
abbrev after_height : ℕ → ℕ × List ℕ → Option Header
after_height width height = rule_in height.1 >>= λ rule. Some (record { width = width; height = height.0; rule = rule })

abbrev after_width : ℕ × List ℕ → Option Header
after_width width = do
  after_comma ← after_word (codes ",") width.1
  after_y ← after_word (codes "y") after_comma
  after_y_equals ← after_word (codes "=") after_y
  height ← number_at_front after_y_equals
  after_height width.0 height

header_form : (grid : Grid) → grid.width < 2 ^ 64 → grid.height < 2 ^ 64 → header_in (spelled_header grid.width grid.height) ≡ Some (record { width = grid.width; height = grid.height; rule = Some (codes "WireWorld") })
header_form grid w h =
    ap (λ o. o >>= after_width) (front_of_decimal grid.width 44 (codes " y = " ++ (decimal grid.height ++ codes ", rule = WireWorld")) w refl)
    ∙ ap (λ o. o >>= after_height grid.width) (front_of_decimal grid.height 44 (codes " rule = WireWorld") h refl)

header_line_text : (grid : Grid) → grid.width < 2 ^ 64 → grid.height < 2 ^ 64 → IsLineText (spelled_header grid.width grid.height)
header_line_text grid w h =
    joined (codes "x = ") _ (letters_line (codes "x = ") refl) (
    joined (decimal grid.width) _ (line_part _ (decimal_field grid.width w)) (
    joined (codes ", y = ") _ (letters_line (codes ", y = ") refl) (
    joined (decimal grid.height) _ (line_part _ (decimal_field grid.height h)) (letters_line (codes ", rule = WireWorld") refl))))
  where
    joined : (xs ys : List ℕ) → IsLineText xs → IsLineText ys → IsLineText (xs ++ ys)
    joined xs ys = All-append (λ b. (b ≢ 10) × (b ≢ 13)) xs ys

pub spelled_header_is : (grid : Grid) → HasSpelledHeader grid
spelled_header_is grid w h = (header_line_text grid w h, (codes "WireWorld", header_form grid w h, refl))
