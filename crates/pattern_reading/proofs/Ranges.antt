-- The numbers that a text writes are at most the greatest number.
use Rattle.std.proofs.Common.{ℕ, ◌≤◌, ◌≡◌, refl, ap, ◌&&◌, List, [], ◌∷◌}
use Rattle.std.specs.Prelude.{Option, Some, None, nat_le, take_while, codes}
use Rattle.std.specs.List.{list_all}
use Rattle.std.specs.Char.{is_ascii_digit}
use Rattle.std.specs.Str.Parse.{digits_value}
use Rattle.std.proofs.lemmas.Bool.{and_parts, leb-true}
use Rattle.std.proofs.lemmas.Option.{none-some, cond_some}
use Rattle.pattern_reading.specs.Numbers.{◌>>=◌, after_word, greatest_number, number_at_front, number_in, without_leading_blanks}
use Rattle.pattern_reading.specs.Header.{Header, header_in, rule_in}
use Rattle.pattern_reading.specs.Laws.{HasSmallBox}

pub bind_some : {A B : Type 0} (o : Option A) (f : A → Option B) (y : B) → (o >>= f) ≡ Some y → (x : A) × (o ≡ Some x) × (f x ≡ Some y)
bind_some None f y e = absurd (none-some y e)
bind_some (Some x) f y e = (x, refl, e)

pub small_number : (bytes : List ℕ) (n : ℕ) → number_in bytes ≡ Some n → n ≤ greatest_number
small_number [] n e = absurd (none-some n e)
small_number (b ∷ bs) n e =
    let h = cond_some (list_all is_ascii_digit (b ∷ bs) && nat_le (digits_value 10 (b ∷ bs)) greatest_number) _ n e in
    rw (← h.1) (leb-true _ _ (and_parts _ _ h.0).1)

small_front : (bytes : List ℕ) (found : ℕ × List ℕ) → number_at_front bytes ≡ Some found → found.0 ≤ greatest_number
small_front bytes found e =
    let h = bind_some (number_in (take_while is_ascii_digit (without_leading_blanks bytes))) _ found e in
    let is : h.0 ≡ found.0 = some_first _ _ _ h.2 in
    rw (← is) (small_number (take_while is_ascii_digit (without_leading_blanks bytes)) h.0 h.1)
  where
    some_first : (n : ℕ) (rest : List ℕ) (y : ℕ × List ℕ) → Some (n, rest) ≡ Some y → n ≡ y.0
    some_first n rest y e = let same : (n, rest) ≡ y = cc in ap (λ p. p.0) same

header_parts : (width height : ℕ) (rule : Option (List ℕ)) (header : Header) → Some (record { width = width; height = height; rule = rule }) ≡ Some header → (width ≡ header.width) × (height ≡ header.height)
header_parts width height rule header e =
    let is : record { width = width; height = height; rule = rule } ≡ header = cc in
    (ap (λ x. x.width) is, ap (λ x. x.height) is)

small_header : (bytes : List ℕ) (header : Header) → header_in bytes ≡ Some header → (header.width ≤ greatest_number) × (header.height ≤ greatest_number)
small_header bytes header e =
    let a = bind_some (after_word (codes "x") bytes) _ header e in
    let b = bind_some (after_word (codes "=") a.0) _ header a.2 in
    let w = bind_some (number_at_front b.0) _ header b.2 in
    let c = bind_some (after_word (codes ",") w.0.1) _ header w.2 in
    let d = bind_some (after_word (codes "y") c.0) _ header c.2 in
    let f = bind_some (after_word (codes "=") d.0) _ header d.2 in
    let h = bind_some (number_at_front f.0) _ header f.2 in
    let r = bind_some (rule_in h.0.1) _ header h.2 in
    let is = header_parts w.0.0 h.0.0 r.0 header r.2 in
    (rw (← is.0) (small_front b.0 w.0 w.1), rw (← is.1) (small_front f.0 h.0 h.1))

pub small_box : (text : List ℕ) (width height : ℕ) → HasSmallBox text width height
small_box text width height box =
    let h = small_header box.line.bytes box.header box.form in
    (rw (← box.width_is) h.0, rw (← box.height_is) h.1)
