-- Paths are read as they stand, and no two places have one.
use Rattle.std.proofs.Common.{◌≡◌, refl, sym, ◌∙◌, ap, ap₂, ℕ, zero, suc, ◌<◌, ◌≤◌, ◌^◌, true, false, ◌&&◌, ◌||◌, not, ◌==◌, List, [], ◌∷◌, ◌++◌, length, map, flat_map, get_or, arith, drop}
use Rattle.std.specs.Prelude.{Some, None, codes, decimal, is_some, slice_index, bytes_eq, if◌then◌else◌}
use Rattle.std.specs.List.{All, list_all, slice_split}
use Rattle.std.specs.Char.{is_ascii_digit}
use Rattle.std.proofs.lemmas.List.{append-nil}
use Rattle.std.proofs.Math.Bool.{or-true}
use Rattle.std.proofs.lemmas.Bool.{leb-true, and_parts, ne_eqb}
use Rattle.std.proofs.lemmas.List.Splits.{slice_split_at, slice_split_none}
use Rattle.std.proofs.lemmas.List.Elements.{All-head, All-tail}
use Rattle.std.proofs.lemmas.List.Sums.{AllPass-from_list_all}
use Rattle.std.proofs.lemmas.Fmt.{decimal_is_IsNumeral, decimal_digit, decimal_injective, first_decimal}
use Rattle.netlist_meaning.specs.Places.{Place}
use Rattle.pattern_reading.specs.PortLines.{is_path_number}
use Rattle.pattern_reading.specs.Numbers.{number_in}
use Rattle.pattern_reading.proofs.PortText.{digits_pass, number_in-decimal}
use Rattle.place_paths.specs.Paths.{path_of, HasTableNumbers, PathsAreRead, PathsAreDistinct}

abbrev Small : ℕ → Type 0
Small n = n < 2 ^ 64

abbrev parts_in : List ℕ → List (List ℕ)
parts_in bytes = slice_split (λ b. b == 46) bytes

digit_no_dot : (b : ℕ) → is_ascii_digit b ≡ true → (b == 46) ≡ false
digit_no_dot b e = let low : 48 ≤ b = leb-true _ _ (and_parts _ _ e).0 in ne_eqb b 46 (λ h. omega (arith, low, h))

no_dot : (n : ℕ) → Small n → All (λ b. (b == 46) ≡ false) (decimal n)
no_dot n small k d l =
    digit_no_dot (get_or (decimal n) k d) (AllPass-from_list_all is_ascii_digit (decimal n) (digits_pass (decimal n) (decimal_is_IsNumeral n small).0.1) k d l)

-- the numbers of a path are its parts
parts_are : (n : ℕ) (place : Place) → HasTableNumbers (n ∷ place) → parts_in (path_of (n ∷ place)) ≡ map decimal (n ∷ place)
parts_are n [] h = slice_split_none (λ b. b == 46) (decimal n) (no_dot n (All-head Small n [] h))
parts_are n (next ∷ place) h =
    slice_split_at (λ b. b == 46) (decimal n) 46 (path_of (next ∷ place)) (no_dot n (All-head Small n (next ∷ place) h)) refl
    ∙ ap (λ parts. decimal n ∷ parts) (parts_are next place (All-tail Small n (next ∷ place) h))

plain : (n : ℕ) → Small n → (length (decimal n) == 1 || not (slice_index (decimal n) 0 == 48)) ≡ true
plain zero small = ap (λ digits. length digits == 1 || not (slice_index digits 0 == 48)) (decimal_digit 0 (omega arith))
plain (suc n) small =
    let first : 48 < get_or (decimal (suc n)) 0 0 = first_decimal (suc n) (omega arith) small in
    ap (λ b. length (decimal (suc n)) == 1 || not b) (ne_eqb (slice_index (decimal (suc n)) 0) 48 (λ e. omega (arith, first, e))) ∙ or-true (length (decimal (suc n)) == 1)

is_number : (n : ℕ) → Small n → is_path_number (decimal n) ≡ true
is_number n small = ap₂ (λ o b. is_some o && b) (number_in-decimal n small) (plain n small)

all_numbers : (place : Place) → HasTableNumbers place → list_all is_path_number (map decimal place) ≡ true
all_numbers [] h = refl
all_numbers (n ∷ place) h = ap₂ (λ a b. a && b) (is_number n (All-head Small n place h)) (all_numbers place (All-tail Small n place h))

pub paths_are_read : PathsAreRead
paths_are_read [] h = refl
paths_are_read (n ∷ place) h =
    let field = path_of (n ∷ place) in
    ap (λ b. if (bytes_eq field (codes "-") || b) then Some field else None) (ap (list_all is_path_number) (parts_are n place h) ∙ all_numbers (n ∷ place) h)
    ∙ ap (λ b. if b then Some field else None) (or-true (bytes_eq field (codes "-")))

abbrev head_of : {X : Type 0} → X → List X → X
head_of d [] = d
head_of d (x ∷ xs) = x

same_numbers : (a b : Place) → HasTableNumbers a → HasTableNumbers b → map decimal a ≡ map decimal b → a ≡ b
same_numbers [] [] h k e = refl
same_numbers [] (n ∷ b) h k e = cc
same_numbers (m ∷ a) [] h k e = cc
same_numbers (m ∷ a) (n ∷ b) h k e =
    ap₂ (λ x xs. x ∷ xs) (decimal_injective m n (All-head Small m a h) (All-head Small n b k) (ap (head_of []) e))
    (same_numbers a b (All-tail Small m a h) (All-tail Small n b k) (ap (drop 1) e))

-- no number is written `-`
no_dash : (n : ℕ) (place : Place) → HasTableNumbers (n ∷ place) → codes "-" ≡ path_of (n ∷ place) → ⊥
no_dash n place h e =
    let word : codes "-" ≡ decimal n = ap (head_of []) (ap parts_in e ∙ parts_are n place h) in
    let none : None ≡ Some n = ap number_in word ∙ number_in-decimal n (All-head Small n place h) in
    cc

pub paths_are_distinct : PathsAreDistinct
paths_are_distinct [] [] h k e = refl
paths_are_distinct [] (n ∷ b) h k e = absurd (no_dash n b k e)
paths_are_distinct (m ∷ a) [] h k e = absurd (no_dash m a h (sym e))
paths_are_distinct (m ∷ a) (n ∷ b) h k e = same_numbers (m ∷ a) (n ∷ b) h k (sym (parts_are m a h) ∙ ap parts_in e ∙ parts_are n b k)

-- the numbers one by one, each but the first with a dot before it
pub joined_numbers : (n : ℕ) (inner : List ℕ) → decimal n ++ flat_map (λ number. 46 ∷ decimal number) inner ≡ path_of (n ∷ inner)
joined_numbers n [] = append-nil (decimal n)
joined_numbers n (next ∷ inner) = ap (λ rest. decimal n ++ (46 ∷ rest)) (joined_numbers next inner)
