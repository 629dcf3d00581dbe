-- The lines of a text are those that `lines` of Rust gives.
use Rattle.std.proofs.Common.{ℕ, suc, ◌+◌, ◌-◌, ◌<◌, ◌≡◌, refl, sym, ap, ◌∙◌, Bool, true, false, true≢false, cond, ◌&&◌, ◌==◌, List, [], ◌∷◌, map, length, take, arith}
use Rattle.std.specs.Prelude.{if◌then◌else◌}
use Rattle.std.specs.List.{slice_split, onto_first}
use Rattle.std.specs.Str.Lines.{lines_of_parts, strip_carriage_return}
use Rattle.std.proofs.lemmas.Bool.{eqb-true, and_parts}
use Rattle.std.proofs.lemmas.List.Splits.{length-slice_split, slice_split-cons_yes, slice_split-cons_no}
use Rattle.pattern_reading.specs.Lines.{Line, begins_with, lines_from, onto_first_line, with_line_feeds}
use Rattle.pattern_reading.specs.Laws.{HasLinesOfRust}
use Rattle.std.proofs.lemmas.Bool.{ne_eqb}

abbrev parts_of : List ℕ → List (List ℕ)
parts_of bs = slice_split (λ b. b == 10) bs

abbrev bytes_of : List Line → List (List ℕ)
bytes_of ls = map (λ line. line.bytes) ls

-- an empty part before others is an empty line
empty_before : (parts : List (List ℕ)) → 0 < length parts → lines_of_parts ([] ∷ parts) ≡ [] ∷ lines_of_parts parts
empty_before [] h = absurd (omega (arith, h))
empty_before (part ∷ parts) h = refl

some_parts : (bs : List ℕ) → 0 < length (parts_of bs)
some_parts bs = omega (arith, length-slice_split (λ b. b == 10) bs)

-- a byte put before a part that loses its carriage return
strip_step : (b : ℕ) (xs : List ℕ) (k : ℕ) (t : Bool) → (if t then b ∷ take k xs else b ∷ xs) ≡ b ∷ (if t then take k xs else xs)
strip_step b xs k true = refl
strip_step b xs k false = refl

pub strip_onto : (b : ℕ) (part : List ℕ) → (part ≡ [] → (b == 13) ≡ false) → strip_carriage_return (b ∷ part) ≡ b ∷ strip_carriage_return part
strip_onto b [] h = rw (h refl) refl
strip_onto b (c ∷ cs) h =
    let last : length (b ∷ c ∷ cs) - 1 ≡ suc (length (c ∷ cs) - 1) = omega arith in
    rw last (strip_step b (c ∷ cs) (length (c ∷ cs) - 1) _)

lone_part : (b : ℕ) (part : List ℕ) → lines_of_parts ((b ∷ part) ∷ []) ≡ onto_first b (lines_of_parts (part ∷ []))
lone_part b [] = refl
lone_part b (c ∷ cs) = rw (ne_eqb (suc (length cs)) 0 (λ e. omega (arith, e)), ne_eqb (suc (suc (length cs))) 0 (λ e. omega (arith, e))) refl

part_onto : (b : ℕ) (parts : List (List ℕ)) → ((next : List ℕ) (more : List (List ℕ)) → parts ≡ [] ∷ next ∷ more → (b == 13) ≡ false) → 0 < length parts → lines_of_parts (onto_first b parts) ≡ onto_first b (lines_of_parts parts)
part_onto b [] h some = absurd (omega (arith, some))
part_onto b (part ∷ []) h some = lone_part b part
part_onto b (part ∷ next ∷ more) h some = ap (λ l. l ∷ lines_of_parts (next ∷ more)) (strip_onto b part (λ e. h next more (ap (λ p. p ∷ next ∷ more) e)))

bytes_onto : (n b : ℕ) (ls : List Line) → bytes_of (onto_first_line n b ls) ≡ onto_first b (bytes_of ls)
bytes_onto n b [] = refl
bytes_onto n b (l ∷ ls) = refl

-- where the first part is empty and others follow, the text begins with a line feed
no_empty_first : (c : ℕ) (parts : List (List ℕ)) (next : List ℕ) (more : List (List ℕ)) → onto_first c parts ≡ [] ∷ next ∷ more → ⊥
no_empty_first c [] next more e = cc
no_empty_first c (part ∷ parts) next more e = cc

feed_first : (c : ℕ) (t : Bool) (parts : List (List ℕ)) (next : List ℕ) (more : List (List ℕ)) → cond t ([] ∷ parts) (onto_first c parts) ≡ [] ∷ next ∷ more → t ≡ true
feed_first c true parts next more e = refl
feed_first c false parts next more e = absurd (no_empty_first c parts next more e)

begins_from_parts : (bs : List ℕ) (next : List ℕ) (more : List (List ℕ)) → parts_of bs ≡ [] ∷ next ∷ more → begins_with 10 bs ≡ true
begins_from_parts [] next more e = absurd (cc)
begins_from_parts (c ∷ cs) next more e = feed_first c _ (parts_of cs) next more e

-- a carriage return before an empty part that others follow
return_before : (parts : List (List ℕ)) → 0 < length parts → lines_of_parts ((13 ∷ []) ∷ parts) ≡ [] ∷ lines_of_parts parts
return_before [] h = absurd (omega (arith, h))
return_before (part ∷ parts) h = refl

return_onto : (bs : List ℕ) → begins_with 10 bs ≡ true → lines_of_parts (parts_of bs) ≡ lines_of_parts (onto_first 13 (parts_of bs))
return_onto [] e = absurd (true≢false (sym e))
return_onto (c ∷ cs) e =
    let split : parts_of (c ∷ cs) ≡ [] ∷ parts_of cs = slice_split-cons_yes (λ b. b == 10) c cs e in
    rw split (empty_before (parts_of cs) (some_parts cs) ∙ sym (return_before (parts_of cs) (some_parts cs)))

abbrev Agrees : List ℕ → Type 0
Agrees bs = (n : ℕ) → bytes_of (lines_from n (with_line_feeds bs)) ≡ lines_of_parts (parts_of bs)

agree_feed : (bs : List ℕ) → Agrees bs → Agrees (10 ∷ bs)
agree_feed bs h n = ap (λ ls. [] ∷ ls) (h (n + 1)) ∙ sym (empty_before (parts_of bs) (some_parts bs))

no_return : (x y : Bool) → (x && y) ≡ false → y ≡ true → x ≡ false
no_return true y e h = absurd (true≢false (sym h ∙ e))
no_return false y e h = refl

agree_byte : (b : ℕ) (bs : List ℕ) → (b == 10) ≡ false → Agrees bs → (t : Bool) → (b == 13 && begins_with 10 bs) ≡ t → Agrees (b ∷ bs)
agree_byte b bs e h true r n =
    let parts = and_parts _ _ r in
    rw (r, slice_split-cons_no (λ c. c == 10) b bs e, eqb-true b 13 parts.0) (h n ∙ return_onto bs parts.1)
agree_byte b bs e h false r n =
    rw (r, slice_split-cons_no (λ c. c == 10) b bs e, e) (
    bytes_onto n b (lines_from n (with_line_feeds bs))
    ∙ ap (onto_first b) (h n)
    ∙ sym (part_onto b (parts_of bs) (λ next more is. no_return _ _ r (begins_from_parts bs next more is)) (some_parts bs)))

agree_first : (b : ℕ) (bs : List ℕ) → Agrees bs → (t : Bool) → (b == 10) ≡ t → Agrees (b ∷ bs)
agree_first b bs h true e = rw (eqb-true b 10 e) (agree_feed bs h)
agree_first b bs h false e = agree_byte b bs e h _ refl

agree : (bs : List ℕ) → Agrees bs
agree [] n = refl
agree (b ∷ bs) n = agree_first b bs (agree bs) (b == 10) refl n

pub lines_of_rust : (text : List ℕ) → HasLinesOfRust text
lines_of_rust text = agree text 1
