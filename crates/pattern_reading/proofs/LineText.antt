-- A line that stands before a text.
use Rattle.std.proofs.Common.{ℕ, ◌+◌, ◌≡◌, ◌≢◌, refl, ap, ◌∙◌, Bool, true, false, ◌==◌, List, [], ◌∷◌, ◌++◌, map, arith}
use Rattle.std.specs.Prelude.{if◌then◌else◌}
use Rattle.std.proofs.lemmas.List.Elements.{All-head, All-tail}
use Rattle.pattern_reading.specs.Lines.{Line, lines_from, onto_first_line, with_line_feeds}
use Rattle.pattern_reading.specs.Laws.{IsLineText, HasFirstLine, later_by}
use Rattle.std.proofs.lemmas.Bool.{ne_eqb}

-- the lines of a line feed before a text, of another byte, and of a line
feed_before : (b : ℕ) (bs : List ℕ) → b ≢ 13 → with_line_feeds (b ∷ bs) ≡ b ∷ with_line_feeds bs
feed_before b bs h = rw (ne_eqb b 13 h) refl

pub byte_before : (n b : ℕ) (bs : List ℕ) → b ≢ 10 → lines_from n (b ∷ bs) ≡ onto_first_line n b (lines_from n bs)
byte_before n b bs h = rw (ne_eqb b 10 h) refl

-- a line before a text whose lines are numbered from n
pub line_before : (n : ℕ) (bytes rest : List ℕ) → IsLineText bytes → lines_from n (with_line_feeds (bytes ++ 10 ∷ rest)) ≡ record { number = n; bytes = bytes; is_ended = true } ∷ lines_from (n + 1) (with_line_feeds rest)
line_before n [] rest h = refl
line_before n (b ∷ bytes) rest h =
    let here : (b ≢ 10) × (b ≢ 13) = All-head (λ c. (c ≢ 10) × (c ≢ 13)) b bytes h in
    ap (lines_from n) (feed_before b (bytes ++ 10 ∷ rest) here.1)
    ∙ byte_before n b (with_line_feeds (bytes ++ 10 ∷ rest)) here.0
    ∙ ap (onto_first_line n b) (line_before n bytes rest (All-tail (λ c. (c ≢ 10) × (c ≢ 13)) b bytes h))

abbrev moved : ℕ → List Line → List Line
moved k lines = map (later_by k) lines

moved_onto : (k n b : ℕ) (lines : List Line) → onto_first_line (k + n) b (moved k lines) ≡ moved k (onto_first_line n b lines)
moved_onto k n b [] = refl
moved_onto k n b (line ∷ lines) = refl

moved_step : (k n b : ℕ) (is_feed : Bool) (after same after' same' : List Line) → after' ≡ moved k after → same' ≡ moved k same → (if is_feed then record { number = k + n; bytes = []; is_ended = true } ∷ after' else onto_first_line (k + n) b same') ≡ moved k (if is_feed then record { number = n; bytes = []; is_ended = true } ∷ after else onto_first_line n b same)
moved_step k n b true after same after' same' e f = ap (λ ls. record { number = k + n; bytes = []; is_ended = true } ∷ ls) e
moved_step k n b false after same after' same' e f = ap (onto_first_line (k + n) b) f ∙ moved_onto k n b same

-- the lines from another number on
pub lines_moved : (k n : ℕ) (bs : List ℕ) → lines_from (k + n) bs ≡ moved k (lines_from n bs)
lines_moved k n [] = refl
lines_moved k n (b ∷ bs) =
    let shifted : k + n + 1 ≡ k + (n + 1) = omega arith in
    moved_step k n b (b == 10) _ _ _ _ (ap (λ m. lines_from m bs) shifted ∙ lines_moved k (n + 1) bs) (lines_moved k n bs)

pub first_line : (bytes rest : List ℕ) → IsLineText bytes → HasFirstLine bytes rest
first_line bytes rest h =
    line_before 1 bytes rest h ∙ ap (λ ls. record { number = 1; bytes = bytes; is_ended = true } ∷ ls) (lines_moved 1 1 (with_line_feeds rest))
