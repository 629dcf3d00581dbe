-- Logical lines have words without blanks, and their numbers rise.
use Rattle.std.proofs.Common.{length, suc, ◌≡◌, ◌≢◌, refl, ap, ◌∙◌, ℕ, ◌+◌, ◌≤◌, List, [], ◌∷◌, Bool, true, false, ◌||◌, arith}
use Rattle.std.specs.Prelude.{Some, None, Option, filter_map, ⊤}
use Rattle.std.specs.List.{AllByRecursion, list_any, cons_option}
use Rattle.blif_text.specs.declared.logical.Logical.{Logical}
use Rattle.blif_text.specs.LogicalLines.{cut_or_kept, parts_between, physical_lines, is_space, words_of, with_words, logical_line, JoinedLine, joined_to, continued_by, joined_lines, without_comment, before_backslash}
use Rattle.lists.specs.Bytes.{non_empty}
use Rattle.blif_text.specs.Laws.{HasWords, Rises, LinesHaveWords, NumbersAreBounded}

-- no part has a byte that passes the test
plain_cut : (p : ℕ → Bool) (b : ℕ) (c : Bool) (parts : List (List ℕ)) → p b ≡ c → AllByRecursion (λ (w : List ℕ). list_any p w ≡ false) parts → AllByRecursion (λ (w : List ℕ). list_any p w ≡ false) (cut_or_kept c b parts)
plain_cut p b true parts e a = (refl, a)
plain_cut p b false [] e a = (ap (λ c. c || false) e, tt)
plain_cut p b false (w ∷ ws) e a = (ap (λ c. c || list_any p w) e ∙ a.0, a.1)

plain_parts : (p : ℕ → Bool) (bs : List ℕ) → AllByRecursion (λ (w : List ℕ). list_any p w ≡ false) (parts_between p bs)
plain_parts p [] = (refl, tt)
plain_parts p (b ∷ bs) = plain_cut p b (p b) (parts_between p bs) refl (plain_parts p bs)

words_plain : (parts : List (List ℕ)) → AllByRecursion (λ (w : List ℕ). list_any is_space w ≡ false) parts → AllByRecursion (λ (word : List ℕ). (word ≢ []) × (list_any is_space word ≡ false)) (filter_map non_empty parts)
words_plain [] a = tt
words_plain ([] ∷ ws) a = words_plain ws a.1
words_plain ((b ∷ bs) ∷ ws) a = ((λ e. cc, a.0), words_plain ws a.1)

-- the numbers of joined lines rise
abbrev pub Rising : ℕ → List JoinedLine → Type 0
Rising least [] = ⊤
Rising least (l ∷ later) = (least ≤ l.line) × Rising (l.line + 1) later

lower : (a b : ℕ) (js : List JoinedLine) → b ≤ a → Rising a js → Rising b js
lower a b [] h r = tt
lower a b (j ∷ js) h r = (let e : a ≤ j.line = r.0 in omega arith, r.1)

rising_to : (n : ℕ) (front : List ℕ) (later : List JoinedLine) → Rising (n + 1) later → Rising n (joined_to n front later)
rising_to n front [] r = (omega arith, tt)
rising_to n front (next ∷ later) r = (omega arith, let e : n + 1 ≤ next.line = r.0 in lower (next.line + 1) (n + 1) later (omega arith) r.1)

rising_by : (n : ℕ) (bytes : List ℕ) (o : Option (List ℕ)) (later : List JoinedLine) → Rising (n + 1) later → Rising n (continued_by n bytes o later)
rising_by n bytes None later r = (omega arith, r)
rising_by n bytes (Some front) later r = rising_to n front later r

rising : (n : ℕ) (lines : List (List ℕ)) → Rising n (joined_lines n lines)
rising n [] = tt
rising n (line ∷ lines) = rising_by n (without_comment line) (before_backslash (without_comment line)) (joined_lines (n + 1) lines) (rising (n + 1) lines)

lower_lines : (a b : ℕ) (ls : List Logical) → b ≤ a → Rises a ls → Rises b ls
lower_lines a b [] h r = tt
lower_lines a b (l ∷ ls) h r = (let e : a ≤ l.line = r.0 in omega arith, r.1)

kept_lines : (n : ℕ) (j : JoinedLine) (words : List (List ℕ)) (rest : List Logical) → n ≤ j.line → AllByRecursion (λ (word : List ℕ). (word ≢ []) × (list_any is_space word ≡ false)) words → AllByRecursion HasWords rest → Rises (j.line + 1) rest
    → AllByRecursion HasWords (cons_option (with_words j.line words) rest) × Rises n (cons_option (with_words j.line words) rest)
kept_lines n j [] rest h a all r = (all, lower_lines (j.line + 1) n rest (omega arith) r)
kept_lines n j (w ∷ ws) rest h a all r = (((λ e. cc, a), all), (h, r))

lines_rise : (n : ℕ) (js : List JoinedLine) → Rising n js → AllByRecursion HasWords (filter_map logical_line js) × Rises n (filter_map logical_line js)
lines_rise n [] r = (tt, tt)
lines_rise n (j ∷ js) r =
    let later = lines_rise (j.line + 1) js r.1 in
    kept_lines n j (words_of j.bytes) (filter_map logical_line js) r.0 (words_plain (parts_between is_space j.bytes) (plain_parts is_space j.bytes)) later.0 later.1

pub lines_have_words : LinesHaveWords
lines_have_words text = lines_rise 1 (joined_lines 1 (physical_lines text)) (rising 1 (physical_lines text))

-- no number is past that of the last physical line
bounded_to : (n last : ℕ) (front : List ℕ) (later : List JoinedLine) → n ≤ last → AllByRecursion (λ (j : JoinedLine). j.line ≤ last) later → AllByRecursion (λ (j : JoinedLine). j.line ≤ last) (joined_to n front later)
bounded_to n last front [] h a = (h, tt)
bounded_to n last front (next ∷ later) h a = (h, a.1)

bounded_by : (n last : ℕ) (bytes : List ℕ) (o : Option (List ℕ)) (later : List JoinedLine) → n ≤ last → AllByRecursion (λ (j : JoinedLine). j.line ≤ last) later → AllByRecursion (λ (j : JoinedLine). j.line ≤ last) (continued_by n bytes o later)
bounded_by n last bytes None later h a = (h, a)
bounded_by n last bytes (Some front) later h a = bounded_to n last front later h a

bounded : (n last : ℕ) (lines : List (List ℕ)) → n + length lines ≤ last + 1 → AllByRecursion (λ (j : JoinedLine). j.line ≤ last) (joined_lines n lines)
bounded n last [] h = tt
bounded n last (line ∷ lines) h =
    bounded_by n last (without_comment line) (before_backslash (without_comment line)) (joined_lines (n + 1) lines) (first n (length lines) last h) (bounded (n + 1) last lines (second n (length lines) last h))
  where
    first : (a k b : ℕ) → a + suc k ≤ b + 1 → a ≤ b
    first a k b g = omega arith

    second : (a k b : ℕ) → a + suc k ≤ b + 1 → a + 1 + k ≤ b + 1
    second a k b g = omega arith

bounded_words : (last line : ℕ) (words : List (List ℕ)) (rest : List Logical) → line ≤ last → AllByRecursion (λ (l : Logical). l.line ≤ last) rest → AllByRecursion (λ (l : Logical). l.line ≤ last) (cons_option (with_words line words) rest)
bounded_words last line [] rest h a = a
bounded_words last line (w ∷ ws) rest h a = (h, a)

bounded_lines : (last : ℕ) (js : List JoinedLine) → AllByRecursion (λ (j : JoinedLine). j.line ≤ last) js → AllByRecursion (λ (l : Logical). l.line ≤ last) (filter_map logical_line js)
bounded_lines last [] a = tt
bounded_lines last (j ∷ js) a = bounded_words last j.line (words_of j.bytes) (filter_map logical_line js) a.0 (bounded_lines last js a.1)

pub numbers_are_bounded : NumbersAreBounded
numbers_are_bounded text = bounded_lines (length (physical_lines text)) (joined_lines 1 (physical_lines text)) (bounded 1 (length (physical_lines text)) (physical_lines text) (omega arith))
