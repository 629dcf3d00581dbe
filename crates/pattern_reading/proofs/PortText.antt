-- Spelled lines of a port table read back.
use Rattle.std.proofs.Common.{ℕ, ◌*◌, ◌^◌, ◌<◌, ◌≤◌, ◌≡◌, ◌≢◌, ◌⊎◌, inl, inr, refl, sym, ap, ◌∙◌, Bool, true, false, true≢false, not, ◌&&◌, ◌||◌, ◌==◌, List, [], ◌∷◌, length, get_or, arith}
use Rattle.std.specs.Prelude.{if◌then◌else◌, nat_le, Some, None, codes, decimal, is_some}
use Rattle.std.specs.List.{All, AllByRecursion, list_all, slice_split, join_with_byte}
use Rattle.std.specs.Char.{is_ascii_digit}
use Rattle.std.specs.Int.{IsInRange}
use Rattle.std.specs.Str.Parse.{IsNumeral, AllDigits, digits_value}
use Rattle.std.proofs.lemmas.Bool.{eqb-false, eqb-true, le-leb, leb-true, and_parts}
use Rattle.std.proofs.lemmas.List.Elements.{All-append, All-cons}
use Rattle.std.proofs.lemmas.List.Splits.{slice_split_at, slice_split_none, join_with_byte-slice_split}
use Rattle.std.proofs.lemmas.List.Sums.{list_all-from_AllPass, AllPass-from_list_all}
use Rattle.std.proofs.lemmas.Grind.{get_or_default_zero}
use Rattle.std.proofs.lemmas.Str.Parse.{digit_at}
use Rattle.std.proofs.lemmas.Fmt.{decimal_is_IsNumeral}
use Rattle.std.specs.Str.{byte, bytes_eq}
use Rattle.std.proofs.lemmas.Slice.Eq.{bytes_eq-Decides}
use Rattle.std.proofs.lemmas.Option.{cond_some}
use Rattle.pattern_reading.specs.Numbers.{greatest_number, number_in}
use Rattle.pattern_reading.specs.declared.ports.TableVersion.TheVariants.{Escaped}
use Rattle.pattern_reading.specs.PortLines.{PortForm, Version, In, Out, Net, has_room, table_line, form_of_fields, path_in, is_path_number}
use Rattle.pattern_reading.specs.Laws.{IsLineText}
use Rattle.pattern_reading.specs.Spelling.{IsField, IsSpellable, fields_of, spelled_line}
use Rattle.pattern_reading.proofs.Escapes.{escaped_field, its_name}
use Rattle.std.proofs.lemmas.Bool.{ne_eqb}

digit_in_range : (ds : List ℕ) → AllDigits 10 ds → (k d : ℕ) → k < length ds → IsInRange 48 57 (get_or ds k d)
digit_in_range ds h k d l = rw (get_or_default_zero ds k d l) (digit_at ds k h l)

in_range : (c : ℕ) → IsInRange 48 57 c → is_ascii_digit c ≡ true
in_range c h = grind (arith, le-leb)

pub digits_pass : (ds : List ℕ) → AllDigits 10 ds → list_all is_ascii_digit ds ≡ true
digits_pass ds h = list_all-from_AllPass is_ascii_digit ds (λ k d l. in_range (get_or ds k d) (digit_in_range ds h k d l))

pub number_in_numeral : (ds : List ℕ) → IsNumeral 10 ds → digits_value 10 ds < 2 ^ 64 → number_in ds ≡ Some (digits_value 10 ds)
number_in_numeral [] h small = absurd (omega (arith, h.0))
number_in_numeral (d ∷ ds) h small =
    let fits : digits_value 10 (d ∷ ds) ≤ greatest_number = omega (arith, small) in
    rw (digits_pass (d ∷ ds) h.1, le-leb (digits_value 10 (d ∷ ds)) greatest_number fits) refl

-- what is written as a decimal is read as the number
pub number_in-decimal : (n : ℕ) → n < 2 ^ 64 → number_in (decimal n) ≡ Some n
number_in-decimal n small =
    let h = decimal_is_IsNumeral n small in
    number_in_numeral (decimal n) h.0 (rw h.1 small) ∙ ap Some h.1

pub decimal_field : (n : ℕ) → n < 2 ^ 64 → IsField (decimal n)
decimal_field n small k d l =
    let r = digit_in_range (decimal n) (decimal_is_IsNumeral n small).0.1 k d l in
    (λ e. omega (arith, r, e), λ e. omega (arith, r, e), λ e. omega (arith, r, e))

-- words of letters that are written out
abbrev is_field_byte : ℕ → Bool
is_field_byte b = not (b == 10) && (not (b == 13) && not (b == 32))

letters_byte : (b : ℕ) → is_field_byte b ≡ true → (b ≢ 10) × (b ≢ 13) × (b ≢ 32)
letters_byte b e =
    (λ h. absurd (true≢false (sym (ap is_field_byte (sym h) ∙ e))), λ h. absurd (true≢false (sym (ap is_field_byte (sym h) ∙ e))), λ h. absurd (true≢false (sym (ap is_field_byte (sym h) ∙ e))))

letters_field : (word : List ℕ) → list_all is_field_byte word ≡ true → IsField word
letters_field word e k d l = letters_byte _ (AllPass-from_list_all is_field_byte word e k d l)

abbrev is_line_byte : ℕ → Bool
is_line_byte b = not (b == 10) && not (b == 13)

line_byte : (b : ℕ) → is_line_byte b ≡ true → (b ≢ 10) × (b ≢ 13)
line_byte b e =
    (λ h. absurd (true≢false (sym (ap is_line_byte (sym h) ∙ e))), λ h. absurd (true≢false (sym (ap is_line_byte (sym h) ∙ e))))

pub letters_line : (word : List ℕ) → list_all is_line_byte word ≡ true → IsLineText word
letters_line word e k d l = line_byte _ (AllPass-from_list_all is_line_byte word e k d l)

-- words joined by spaces are split into those words
abbrev words_in : List ℕ → List (List ℕ)
words_in bytes = slice_split (λ b. b == 32) bytes

no_space : (word : List ℕ) → IsField word → All (λ b. (b == 32) ≡ false) word
no_space word h k d l = ne_eqb _ 32 (h k d l).2

split_words : (word : List ℕ) (words : List (List ℕ)) → IsField word → AllByRecursion IsField words → words_in (join_with_byte 32 (word ∷ words)) ≡ word ∷ words
split_words word [] h hs = slice_split_none (λ b. b == 32) word (no_space word h)
split_words word (next ∷ words) h hs =
    slice_split_at (λ b. b == 32) word 32 (join_with_byte 32 (next ∷ words)) (no_space word h) refl
    ∙ ap (λ ws. word ∷ ws) (split_words next words hs.0 hs.1)

-- and stand in a line
pub line_part : (word : List ℕ) → IsField word → IsLineText word
line_part word h k d l = ((h k d l).0, (h k d l).1)

join_text : (word : List ℕ) (words : List (List ℕ)) → IsField word → AllByRecursion IsField words → IsLineText (join_with_byte 32 (word ∷ words))
join_text word [] h hs = line_part word h
join_text word (next ∷ words) h hs =
    All-append (λ b. (b ≢ 10) × (b ≢ 13)) word (32 ∷ join_with_byte 32 (next ∷ words)) (line_part word h)
    (All-cons (λ b. (b ≢ 10) × (b ≢ 13)) 32 (join_with_byte 32 (next ∷ words)) (λ e. omega (arith, e), λ e. omega (arith, e)) (join_text next words hs.0 hs.1))

-- a path has digits, dots and a dash alone
digit_byte : (b : ℕ) → is_ascii_digit b ≡ true → (b ≢ 10) × (b ≢ 13) × (b ≢ 32)
digit_byte b e =
    let low : 48 ≤ b = leb-true _ _ (and_parts _ _ e).0 in
    (λ h. omega (arith, low, h), λ h. omega (arith, low, h), λ h. omega (arith, low, h))

some_test : (b : Bool) (n : ℕ) → is_some (if b then Some n else None) ≡ true → b ≡ true
some_test true n e = refl
some_test false n e = e

path_part : (part : List ℕ) → is_path_number part ≡ true → IsField part
path_part [] e = λ k d l. absurd (omega (arith, l))
path_part (d ∷ ds) e =
    let digits = (and_parts _ _ (some_test _ _ (and_parts _ _ e).0)).0 in
    λ k c l. digit_byte (get_or (d ∷ ds) k c) (AllPass-from_list_all is_ascii_digit (d ∷ ds) digits k c l)

joined_parts : (parts : List (List ℕ)) → list_all is_path_number parts ≡ true → IsField (join_with_byte 46 parts)
joined_parts [] e = λ k d l. absurd (omega (arith, l))
joined_parts (part ∷ []) e = path_part part (and_parts _ _ e).0
joined_parts (part ∷ next ∷ parts) e =
    All-append (λ b. (b ≢ 10) × (b ≢ 13) × (b ≢ 32)) part (46 ∷ join_with_byte 46 (next ∷ parts)) (path_part part (and_parts _ _ e).0)
    (All-cons (λ b. (b ≢ 10) × (b ≢ 13) × (b ≢ 32)) 46 (join_with_byte 46 (next ∷ parts)) (letters_byte 46 refl) (joined_parts (next ∷ parts) (and_parts _ _ e).1))

path_field : (path : List ℕ) → path_in path ≡ Some path → IsField path
path_field path e = by_test (bytes_eq path (codes "-")) refl (cond_some _ _ _ e).0
  where
    by_test : (b : Bool) → bytes_eq path (codes "-") ≡ b → (b || list_all is_path_number (slice_split (λ c. c == byte ".") path)) ≡ true → IsField path
    by_test true h k = rw ((bytes_eq-Decides path (codes "-")).0 h) (letters_field (codes "-") refl)
    by_test false h k = rw (← join_with_byte-slice_split 46 path) (joined_parts (slice_split (λ c. c == byte ".") path) k)

-- contexts that have room in a period are not more than its generations
some_room : (p c : ℕ) (one none fits : Bool) → (c == 1) ≡ one → (c == 0) ≡ none → nat_le (32 * c) p ≡ fits → (one || (not none && fits)) ≡ true → (c ≡ 1) ⊎ ((c ≢ 0) × (32 * c ≤ p))
some_room p c true none fits e f g h = inl (eqb-true c 1 e)
some_room p c false true fits e f g h = absurd (true≢false (sym h))
some_room p c false false true e f g h = inr (eqb-false c 0 f, leb-true _ _ g)
some_room p c false false false e f g h = absurd (true≢false (sym h))

pub room_is : (p c : ℕ) → has_room p c ≡ true → (c ≡ 1) ⊎ ((c ≢ 0) × (32 * c ≤ p))
room_is p c h = some_room p c (c == 1) (c == 0) (nat_le (32 * c) p) refl refl refl h

small_count : (p c : ℕ) → p < 2 ^ 64 → has_room p c ≡ true → c < 2 ^ 64
small_count p c small h = omega (arith, small, room_is p c h)

-- the fields of a spelled line
fields_fit : (form : PortForm) → IsSpellable form → AllByRecursion IsField (fields_of form)
fields_fit (Version p l c) h =
    (letters_field (codes "2") refl, (letters_field (codes "P") refl, (decimal_field p h.1, (letters_field (codes "L") refl, (decimal_field l h.2, (letters_field (codes "C") refl, (decimal_field c (small_count p c h.1 h.3), tt)))))))
fields_fit (In port) h = (letters_field (codes "IN") refl, (decimal_field port.x h.0, (decimal_field port.y h.1, (escaped_field port.name, tt))))
fields_fit (Out port) h = (letters_field (codes "OUT") refl, (decimal_field port.x h.0, (decimal_field port.y h.1, (escaped_field port.name, tt))))
fields_fit (Net net) h =
    (letters_field (codes "NET") refl, (decimal_field net.x h.0, (decimal_field net.y h.1, (decimal_field net.offset h.2, (escaped_field net.name, (path_field net.path h.4, tt))))))

-- are read as its form
form_spelled : (form : PortForm) → IsSpellable form → form_of_fields Escaped (fields_of form) ≡ Some form
form_spelled (Version p l c) h =
    rw (number_in-decimal p h.1, number_in-decimal l h.2, number_in-decimal c (small_count p c h.1 h.3), ne_eqb p 0 h.0, h.3) refl
form_spelled (In port) h = rw (number_in-decimal port.x h.0, number_in-decimal port.y h.1, (its_name port.name h.2).1) refl
form_spelled (Out port) h = rw (number_in-decimal port.x h.0, number_in-decimal port.y h.1, (its_name port.name h.2).1) refl
form_spelled (Net net) h = rw (number_in-decimal net.x h.0, number_in-decimal net.y h.1, number_in-decimal net.offset h.2, (its_name net.name h.3).1, h.4) refl

split_fields : (fields : List (List ℕ)) → fields ≢ [] → AllByRecursion IsField fields → words_in (join_with_byte 32 fields) ≡ fields
split_fields [] some h = absurd (some refl)
split_fields (word ∷ words) some h = split_words word words h.0 h.1

some_fields : (form : PortForm) → fields_of form ≢ []
some_fields (Version p l c) e = cc
some_fields (In port) e = cc
some_fields (Out port) e = cc
some_fields (Net net) e = cc

-- a spelled line is a line of the table, of its form
pub spelled_is : (n : ℕ) (form : PortForm) (e : Bool) → IsSpellable form → table_line Escaped (record { number = n; bytes = spelled_line form; is_ended = e }) ≡ Some (record { number = n; form = Some form })
spelled_is n form e h =
    ap (λ f. Some (record { number = n; form = f })) (ap (form_of_fields Escaped) (split_fields (fields_of form) (some_fields form) (fields_fit form h)) ∙ form_spelled form h)

line_fields : (fields : List (List ℕ)) → fields ≢ [] → AllByRecursion IsField fields → IsLineText (join_with_byte 32 fields)
line_fields [] some h = absurd (some refl)
line_fields (word ∷ words) some h = join_text word words h.0 h.1

-- and its bytes can stand in a line
pub spelled_text : (form : PortForm) → IsSpellable form → IsLineText (spelled_line form)
spelled_text form h =
    All-append (λ b. (b ≢ 10) × (b ≢ 13)) (codes "#C BLIFWW ") (join_with_byte 32 (fields_of form)) (letters_line (codes "#C BLIFWW ") refl) (line_fields (fields_of form) (some_fields form) (fields_fit form h))
