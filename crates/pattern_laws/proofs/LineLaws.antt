-- What the lines of a text are.
use Rattle.std.proofs.Common.{ℕ, ◌+◌, ◌≡◌, refl, ap, ◌∙◌, Bool, true, false, ◌==◌, List, [], ◌∷◌, map, length}
use Rattle.std.specs.Prelude.{if◌then◌else◌, flat_map}
use Rattle.std.specs.List.{range_with_len}
use Rattle.std.proofs.lemmas.Bool.{eqb-true}
use Rattle.pattern_reading.specs.Lines.{Line, lines_from, onto_first_line, with_line_feeds}
use Rattle.pattern_reading.specs.Laws.{HasAllInLines, HasNumberedLines, with_end}

joined_onto : (n b : ℕ) (ls : List Line) → flat_map with_end (onto_first_line n b ls) ≡ b ∷ flat_map with_end ls
joined_onto n b [] = refl
joined_onto n b (l ∷ ls) = refl

joined_step : (n b : ℕ) (is_feed : Bool) (after same : List Line) (bs : List ℕ) → (b == 10) ≡ is_feed → flat_map with_end after ≡ bs → flat_map with_end same ≡ bs → flat_map with_end (if is_feed then record { number = n; bytes = []; is_ended = true } ∷ after else onto_first_line n b same) ≡ b ∷ bs
joined_step n b true after same bs e h k = rw (h, eqb-true b 10 e) refl
joined_step n b false after same bs e h k = joined_onto n b same ∙ ap (λ r. b ∷ r) k

joined_from : (n : ℕ) (bs : List ℕ) → flat_map with_end (lines_from n bs) ≡ bs
joined_from n [] = refl
joined_from n (b ∷ bs) = joined_step n b _ _ _ bs refl (joined_from (n + 1) bs) (joined_from n bs)

pub all_in_lines : (text : List ℕ) → HasAllInLines text
all_in_lines text = joined_from 1 (with_line_feeds text)

abbrev AreNumbered : ℕ → List Line → Type 0
AreNumbered n ls = map (λ line. line.number) ls ≡ range_with_len n (length ls)

numbered_onto : (n b : ℕ) (ls : List Line) → AreNumbered n ls → AreNumbered n (onto_first_line n b ls)
numbered_onto n b [] e = refl
numbered_onto n b (l ∷ ls) e = e

numbered_step : (n b : ℕ) (is_feed : Bool) (after same : List Line) → AreNumbered (n + 1) after → AreNumbered n same → AreNumbered n (if is_feed then record { number = n; bytes = []; is_ended = true } ∷ after else onto_first_line n b same)
numbered_step n b true after same h k = ap (λ r. n ∷ r) h
numbered_step n b false after same h k = numbered_onto n b same k

numbered_from : (n : ℕ) (bs : List ℕ) → AreNumbered n (lines_from n bs)
numbered_from n [] = refl
numbered_from n (b ∷ bs) = numbered_step n b (b == 10) _ _ (numbered_from (n + 1) bs) (numbered_from n bs)

pub numbered_lines : (text : List ℕ) → HasNumberedLines text
numbered_lines text = numbered_from 1 (with_line_feeds text)
