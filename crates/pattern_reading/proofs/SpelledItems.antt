-- Spelled items are read as what they stand for.
use Rattle.std.proofs.Common.{ℕ, ◌≤◌, ◌≡◌, ◌≢◌, refl, sym, ap, ap₂, ◌∙◌, true, false, List, [], ◌∷◌, ◌++◌, map, append_assoc, arith}
use Rattle.std.specs.Prelude.{Some}
use Rattle.std.specs.Char.{is_ascii_digit}
use Rattle.std.specs.List.{AllByRecursion, list_all}
use Rattle.std.proofs.lemmas.Bool.{and_parts, leb-true}
use Rattle.std.proofs.lemmas.List.{map-append}
use Rattle.std.proofs.lemmas.Simd.{map-map}
use Rattle.std.proofs.lemmas.List.Elements.{All-append, All-cons}
use Rattle.std.proofs.lemmas.List.Sums.{AllPass-from_list_all}
use Rattle.pattern_reading.specs.Lines.{Line, begins_with, lines_of}
use Rattle.pattern_reading.specs.Items.{Item, LineItem, TaggedDigits, item_in, items_of_line, items_of_lines, onto_first_piece, pieces_of}
use Rattle.pattern_reading.specs.Laws.{IsLineText, later_by}
use Rattle.pattern_reading.specs.SpelledPattern.{SpelledItem, IsSpelledItem, item_text, line_text, lines_text, items_of_text}
use Rattle.pattern_reading.proofs.Later.{items_of_later_lines, next}
use Rattle.pattern_reading.proofs.LineText.{first_line}
use Rattle.std.proofs.lemmas.Bool.{ne_eqb}

abbrev piece_of : SpelledItem → TaggedDigits
piece_of item = record { digits = item.digits; tag = Some item.tag }

tag_piece : (tag : ℕ) (rest : List ℕ) → is_ascii_digit tag ≡ false → pieces_of (tag ∷ rest) ≡ record { digits = []; tag = Some tag } ∷ pieces_of rest
tag_piece tag rest h = rw h refl

item_piece : (digits : List ℕ) (tag : ℕ) (rest : List ℕ) → list_all is_ascii_digit digits ≡ true → is_ascii_digit tag ≡ false → pieces_of (digits ++ (tag ∷ rest)) ≡ record { digits = digits; tag = Some tag } ∷ pieces_of rest
item_piece [] tag rest h k = tag_piece tag rest k
item_piece (d ∷ ds) tag rest h k =
    let parts : (is_ascii_digit d ≡ true) × (list_all is_ascii_digit ds ≡ true) = and_parts _ _ h in
    rw parts.0 (ap (onto_first_piece d) (item_piece ds tag rest parts.1 k))

pieces_of_items : (items : List SpelledItem) → AllByRecursion IsSpelledItem items → pieces_of (line_text items) ≡ map piece_of items
pieces_of_items [] h = refl
pieces_of_items (item ∷ items) h =
    rw (append_assoc item.digits (item.tag ∷ []) (line_text items)) (
    item_piece item.digits item.tag (line_text items) h.0.digits h.0.tag ∙ ap (λ ps. piece_of item ∷ ps) (pieces_of_items items h.1))

digit_part : (b : ℕ) → is_ascii_digit b ≡ true → (b ≢ 10) × (b ≢ 13)
digit_part b e =
    let low : 48 ≤ b = leb-true _ _ (and_parts _ _ e).0 in
    (λ h. omega (arith, low, h), λ h. omega (arith, low, h))

item_part : (item : SpelledItem) → IsSpelledItem item → IsLineText (item_text item)
item_part item h =
    All-append (λ b. (b ≢ 10) × (b ≢ 13)) item.digits (item.tag ∷ []) (λ k d l. digit_part _ (AllPass-from_list_all is_ascii_digit item.digits h.digits k d l))
    (All-cons (λ b. (b ≢ 10) × (b ≢ 13)) item.tag [] h.in_line (λ k d l. absurd (omega (arith, l))))

items_part : (items : List SpelledItem) → AllByRecursion IsSpelledItem items → IsLineText (line_text items)
items_part [] h = λ k d l. absurd (omega (arith, l))
items_part (item ∷ items) h = All-append (λ b. (b ≢ 10) × (b ≢ 13)) (item_text item) (line_text items) (item_part item h.0) (items_part items h.1)

-- no line of items is a comment
first_byte : (digits : List ℕ) (tag : ℕ) (rest : List ℕ) → list_all is_ascii_digit digits ≡ true → tag ≢ 35 → begins_with 35 (digits ++ (tag ∷ rest)) ≡ false
first_byte [] tag rest h k = ne_eqb tag 35 k
first_byte (d ∷ ds) tag rest h k = let low : 48 ≤ d = leb-true _ _ (and_parts _ _ (and_parts _ _ h).0).0 in ne_eqb d 35 (λ e. omega (arith, low, e))

no_comment : (items : List SpelledItem) → AllByRecursion IsSpelledItem items → begins_with 35 (line_text items) ≡ false
no_comment [] h = refl
no_comment (item ∷ items) h = rw (append_assoc item.digits (item.tag ∷ []) (line_text items)) (first_byte item.digits item.tag (line_text items) h.0.digits h.0.no_comment)

abbrev pub meaning : SpelledItem → Item
meaning item = item_in true item.digits (Some item.tag)

abbrev pub bare : List LineItem → List Item
bare is = map (λ i. i.item) is

-- the items of a line
line_items : (n : ℕ) (items : List SpelledItem) → AllByRecursion IsSpelledItem items → bare (items_of_line (record { number = n; bytes = line_text items; is_ended = true })) ≡ map meaning items
line_items n items h =
    rw (no_comment items h, pieces_of_items items h) (map-map _ _ (map piece_of items) ∙ map-map _ _ items)

bare_append : (xs ys : List LineItem) → bare (xs ++ ys) ≡ bare xs ++ bare ys
bare_append xs ys = map-append (λ i. i.item) xs ys

pub bare_later : (lines : List Line) → bare (items_of_lines (map (later_by 1) lines)) ≡ bare (items_of_lines lines)
bare_later lines = ap bare (items_of_later_lines next lines) ∙ map-map _ _ (items_of_lines lines)

lines_before : (items : List SpelledItem) (lines : List (List SpelledItem)) (rest : List ℕ) → lines_text (items ∷ lines) ++ rest ≡ line_text items ++ (10 ∷ (lines_text lines ++ rest))
lines_before items lines rest =
    append_assoc (line_text items ++ 10 ∷ []) (lines_text lines) rest ∙ append_assoc (line_text items) (10 ∷ []) (lines_text lines ++ rest)

-- the items of spelled lines before a text
pub items_before : (lines : List (List SpelledItem)) (rest : List ℕ) → AllByRecursion (AllByRecursion IsSpelledItem) lines → bare (items_of_lines (lines_of (lines_text lines ++ rest))) ≡ items_of_text lines ++ bare (items_of_lines (lines_of rest))
items_before [] rest h = refl
items_before (items ∷ lines) rest h =
    ap (λ t. bare (items_of_lines (lines_of t))) (lines_before items lines rest)
    ∙ ap (λ ls. bare (items_of_lines ls)) (first_line (line_text items) (lines_text lines ++ rest) (items_part items h.0))
    ∙ bare_append (items_of_line (record { number = 1; bytes = line_text items; is_ended = true })) (items_of_lines (map (later_by 1) (lines_of (lines_text lines ++ rest))))
    ∙ ap₂ (λ xs ys. xs ++ ys) (line_items 1 items h.0) (bare_later (lines_of (lines_text lines ++ rest)) ∙ items_before lines rest h.1)
    ∙ sym (append_assoc (map meaning items) (items_of_text lines) (bare (items_of_lines (lines_of rest))))
