-- No line has a line feed in it, and no field of a line has a space.
use Rattle.std.proofs.Common.{ℕ, zero, suc, ◌+◌, ◌≡◌, ◌≢◌, refl, Bool, true, false, ◌==◌, List, [], ◌∷◌, take}
use Rattle.std.specs.Prelude.{Option, Some, None, if◌then◌else◌}
use Rattle.std.specs.List.{All, AllByRecursion, onto_first, prefix_len, slice_split}
use Rattle.std.proofs.lemmas.List.Elements.{All-cons, All-head, All-nil, All-tail}
use Rattle.std.proofs.lemmas.List.Splits.{slice_split-cons_no, slice_split-cons_yes}
use Rattle.std.proofs.lemmas.Option.{none-some}
use Rattle.std.proofs.lemmas.Bool.{eqb-false}
use Rattle.pattern_reading.specs.Lines.{Line, lines_from, lines_of, onto_first_line, with_line_feeds}
use Rattle.pattern_reading.specs.Numbers.{after_prefix}
use Rattle.pattern_reading.specs.Header.{is_skipped, lines_before_header}
use Rattle.pattern_reading.proofs.FirstLine.{HasNoFeed}

-- the bytes of a line
abbrev pub IsFeedless : Line → Type 0
IsFeedless line = HasNoFeed line.bytes

feedless_onto : (n b : ℕ) (lines : List Line) → b ≢ 10 → AllByRecursion IsFeedless lines → AllByRecursion IsFeedless (onto_first_line n b lines)
feedless_onto n b [] h hs = (All-cons (λ b. b ≢ 10) b [] h (All-nil (λ b. b ≢ 10)), tt)
feedless_onto n b (line ∷ lines) h hs = (All-cons (λ b. b ≢ 10) b line.bytes h hs.0, hs.1)

feedless_step : (n b : ℕ) (is_feed : Bool) (after same : List Line) → (b == 10) ≡ is_feed → AllByRecursion IsFeedless after → AllByRecursion IsFeedless same → AllByRecursion IsFeedless (if is_feed then record { number = n; bytes = []; is_ended = true } ∷ after else onto_first_line n b same)
feedless_step n b true after same e h k = (All-nil (λ b. b ≢ 10), h)
feedless_step n b false after same e h k = feedless_onto n b same (eqb-false b 10 e) k

feedless_from : (n : ℕ) (bs : List ℕ) → AllByRecursion IsFeedless (lines_from n bs)
feedless_from n [] = tt
feedless_from n (b ∷ bs) = feedless_step n b (b == 10) _ _ refl (feedless_from (n + 1) bs) (feedless_from n bs)

feedless_take : (n : ℕ) (lines : List Line) → AllByRecursion IsFeedless lines → AllByRecursion IsFeedless (take n lines)
feedless_take zero lines h = tt
feedless_take (suc n) [] h = tt
feedless_take (suc n) (line ∷ lines) h = (h.0, feedless_take n lines h.1)

pub feedless_before_header : (text : List ℕ) → AllByRecursion IsFeedless (lines_before_header text)
feedless_before_header text = feedless_take (prefix_len is_skipped (lines_of text)) (lines_of text) (feedless_from 1 (with_line_feeds text))

-- what follows a word in such bytes
pub feedless_after : (word bytes rest : List ℕ) → after_prefix word bytes ≡ Some rest → HasNoFeed bytes → HasNoFeed rest
feedless_after [] bytes rest e h = let same : bytes ≡ rest = cc in rw (← same) h
feedless_after (c ∷ word) [] rest e h = absurd (none-some _ e)
feedless_after (c ∷ word) (b ∷ bytes) rest e h = by_test (b == c) (after_prefix word bytes) e (λ k. feedless_after word bytes rest k (All-tail (λ b. b ≢ 10) b bytes h))
  where
    by_test : (t : Bool) (o : Option (List ℕ)) → (if t then o else None) ≡ Some rest → (o ≡ Some rest → HasNoFeed rest) → HasNoFeed rest
    by_test true o k go = go k
    by_test false o k go = absurd (none-some _ k)

-- the fields of a line
abbrev pub IsFieldText : List ℕ → Type 0
IsFieldText bytes = All (λ b. (b ≢ 10) × (b ≢ 32)) bytes

field_onto : (b : ℕ) (parts : List (List ℕ)) → (b ≢ 10) × (b ≢ 32) → AllByRecursion IsFieldText parts → AllByRecursion IsFieldText (onto_first b parts)
field_onto b [] h hs = (All-cons (λ b. (b ≢ 10) × (b ≢ 32)) b [] h (All-nil (λ b. (b ≢ 10) × (b ≢ 32))), tt)
field_onto b (part ∷ parts) h hs = (All-cons (λ b. (b ≢ 10) × (b ≢ 32)) b part h hs.0, hs.1)

pub fields_are : (bytes : List ℕ) → HasNoFeed bytes → AllByRecursion IsFieldText (slice_split (λ b. b == 32) bytes)
fields_are [] h = (All-nil (λ b. (b ≢ 10) × (b ≢ 32)), tt)
fields_are (b ∷ bs) h = by_test (b == 32) refl (fields_are bs (All-tail (λ b. b ≢ 10) b bs h))
  where
    by_test : (t : Bool) → (b == 32) ≡ t → AllByRecursion IsFieldText (slice_split (λ b. b == 32) bs) → AllByRecursion IsFieldText (slice_split (λ b. b == 32) (b ∷ bs))
    by_test true e rest = rw (slice_split-cons_yes (λ b. b == 32) b bs e) (All-nil (λ b. (b ≢ 10) × (b ≢ 32)), rest)
    by_test false e rest = rw (slice_split-cons_no (λ b. b == 32) b bs e) (field_onto b _ (All-head (λ b. b ≢ 10) b bs h, eqb-false b 32 e) rest)
