-- Names with escapes are words.
use Rattle.std.proofs.Common.{◌≡◌, ◌≢◌, refl, ℕ, ◌+◌, ◌/◌, ◌%◌, ◌≤◌, ◌<◌, Bool, true, false, true≢false, sym, ap, ◌||◌, List, [], ◌∷◌, ◌++◌, arith}
use Rattle.std.specs.Prelude.{nat_lt, if◌then◌else◌, All}
use Rattle.std.specs.List.{AllByRecursion}
use Rattle.std.specs.Fmt.{digit_glyph}
use Rattle.std.proofs.lemmas.Bool.{and_parts, leb-true, ltb-true}
use Rattle.std.proofs.lemmas.List.Elements.{All-head, All-tail}
use Rattle.pattern_reading.specs.Escapes.{escaped_byte}
use Rattle.vcd_write.specs.References.{is_plain_in_reference, escaped_reference, ReferencesAreWords}

abbrev IsShown : ℕ → Type 0
IsShown b = (33 ≤ b) × (b ≤ 126)

shown_glyph : (n : ℕ) → n < 16 → IsShown (digit_glyph true n)
shown_glyph n small = by_test (nat_lt n 10)
  where
    by_test : (t : Bool) → IsShown (if t then 48 + n else (55 + n))
    by_test true = (omega arith, omega (arith, small))
    by_test false = (omega arith, omega (arith, small))

shown_plain : (b : ℕ) → b < 256 → (is_plain_in_reference b || nat_lt 255 b) ≡ true → IsShown b
shown_plain b small e = by_test (is_plain_in_reference b) refl e
  where
    by_test : (t : Bool) → is_plain_in_reference b ≡ t → (t || nat_lt 255 b) ≡ true → IsShown b
    by_test true plain k =
        let graphic = and_parts _ _ (and_parts _ _ (and_parts _ _ plain).0).0 in
        (leb-true 33 b graphic.0, leb-true b 126 graphic.1)
    by_test false plain k = let large = ltb-true 255 b k in absurd (omega (arith, large, small))

-- before other bytes that are shown
shown_onto : (b : ℕ) (rest : List ℕ) → b < 256 → AllByRecursion IsShown rest → AllByRecursion IsShown (escaped_byte is_plain_in_reference b ++ rest)
shown_onto b rest small h = by_test (is_plain_in_reference b || nat_lt 255 b) refl
  where
    by_test : (t : Bool) → (is_plain_in_reference b || nat_lt 255 b) ≡ t → AllByRecursion IsShown ((if t then b ∷ [] else 37 ∷ digit_glyph true (b / 16) ∷ digit_glyph true (b % 16) ∷ []) ++ rest)
    by_test true e = (shown_plain b small e, h)
    by_test false e = ((omega arith, omega arith), (shown_glyph (b / 16) (omega (arith, small)), (shown_glyph (b % 16) (omega arith), h)))

all_shown : (name : List ℕ) → All (λ b. b < 256) name → AllByRecursion IsShown (escaped_reference name)
all_shown [] h = tt
all_shown (b ∷ bs) h = shown_onto b (escaped_reference bs) (All-head (λ b. b < 256) b bs h) (all_shown bs (All-tail (λ b. b < 256) b bs h))

some_byte : (b : ℕ) (rest : List ℕ) → escaped_byte is_plain_in_reference b ++ rest ≢ []
some_byte b rest e = by_test (is_plain_in_reference b || nat_lt 255 b) e
  where
    is_none : List ℕ → Bool
    is_none [] = true
    is_none (c ∷ cs) = false

    by_test : (t : Bool) → (if t then b ∷ [] else 37 ∷ digit_glyph true (b / 16) ∷ digit_glyph true (b % 16) ∷ []) ++ rest ≢ []
    by_test true f = true≢false (sym (ap is_none f))
    by_test false f = true≢false (sym (ap is_none f))

pub references_are_words : ReferencesAreWords
references_are_words [] some h = absurd (some refl)
references_are_words (b ∷ bs) some h = (some_byte b (escaped_reference bs), all_shown (b ∷ bs) h)
