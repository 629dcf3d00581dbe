-- The lines and words of texts that are joined of parts.
use Rattle.std.proofs.Common.{sym, append_assoc, length-append, ◌≡◌, ◌≢◌, refl, ap, ◌∙◌, ℕ, suc, ◌+◌, ◌<◌, List, [], ◌∷◌, ◌++◌, length, Bool, true, false, ◌||◌, arith, true≢false, take, get_or, cond, not, zero, ◌-◌, ◌&&◌}
use Rattle.std.specs.Prelude.{option_map, Option, Some, None, filter_map, ◌==◌, if◌then◌else◌}
use Rattle.std.specs.List.{list_any, onto_first, list_all, before_first, cons_option, slice_split}
use Rattle.std.specs.Str.Lines.{lines_of_parts, strip_carriage_return}
use Rattle.std.proofs.Math.Seq.{take-append_seam}
use Rattle.std.proofs.lemmas.List.Sums.{take_while-cons}
use Rattle.blif_text.specs.declared.logical.Logical.{Logical}
use Rattle.blif_text.specs.Laws.{LinesAreJoined, LinesAreKnown, WordsAreRuns}
use Rattle.blif_text.specs.LogicalLines.{cut_or_kept, parts_between, is_newline, physical_lines, is_space, words_of, joined_lines, JoinedLine, without_comment, before_backslash, is_hash, found_or_later, continued_by, joined_to, logical_line, with_words}
use Rattle.lists.specs.Bytes.{non_empty}
use Rattle.lists.proofs.Bools.{or_false_left as or_left, or_false_right as or_right, and_true_left as all_left, and_true_right as all_right}
use Rattle.std.proofs.lemmas.Bool.{ne_eqb as apart_from}

kept : (b : Bool) (x : ℕ) (w : List ℕ) (parts : List (List ℕ)) → b ≡ false → cut_or_kept b x (w ∷ parts) ≡ (x ∷ w) ∷ parts
kept true x w parts e = absurd (true≢false e)
kept false x w parts e = refl

pub parts-whole : (p : ℕ → Bool) (w : List ℕ) → list_any p w ≡ false → parts_between p w ≡ w ∷ []
parts-whole p [] e = refl
parts-whole p (x ∷ w) e = ap (cut_or_kept (p x) x) (parts-whole p w (or_right (p x) (list_any p w) e)) ∙ kept (p x) x w [] (or_left (p x) (list_any p w) e)

pub parts-cut : (p : ℕ → Bool) (w : List ℕ) (b : ℕ) (rest : List ℕ) → list_any p w ≡ false → p b ≡ true → parts_between p (w ++ b ∷ rest) ≡ w ∷ parts_between p rest
parts-cut p [] b rest e h = ap (λ c. cut_or_kept c b (parts_between p rest)) h
parts-cut p (x ∷ w) b rest e h = ap (cut_or_kept (p x) x) (parts-cut p w b rest (or_right (p x) (list_any p w) e) h) ∙ kept (p x) x w (parts_between p rest) (or_left (p x) (list_any p w) e)

-- a test that fails at each byte, and at 0, fails at each place
pub at-none : (p : ℕ → Bool) (w : List ℕ) (i : ℕ) → list_any p w ≡ false → p 0 ≡ false → p (get_or w i 0) ≡ false
at-none p [] i e z = z
at-none p (x ∷ w) zero e z = or_left (p x) (list_any p w) e
at-none p (x ∷ w) (suc i) e z = at-none p w i (or_right (p x) (list_any p w) e) z

-- a byte 13
abbrev pub is_return : ℕ → Bool
is_return b = b == 13

strip_by : (b : Bool) (w : List ℕ) (n : ℕ) → b ≡ false → (if b then take n w else w) ≡ w
strip_by true w n e = absurd (true≢false e)
strip_by false w n e = refl

stripped : (w : List ℕ) → list_any is_return w ≡ false → strip_carriage_return w ≡ w
stripped w e = strip_by (get_or w (length w - 1) 0 == 13) w (length w - 1) (at-none is_return w (length w - 1) e refl)

-- there is always a part
pub some_part : (p : ℕ → Bool) (bs : List ℕ) → (part : List ℕ) × (parts : List (List ℕ)) × (parts_between p bs ≡ part ∷ parts)
some_part p [] = ([], [], refl)
some_part p (b ∷ bs) = by (p b) (some_part p bs)
  where
    by : (c : Bool) → (part : List ℕ) × (parts : List (List ℕ)) × (parts_between p bs ≡ part ∷ parts) → (part : List ℕ) × (parts : List (List ℕ)) × (cut_or_kept c b (parts_between p bs) ≡ part ∷ parts)
    by true s = ([], parts_between p bs, refl)
    by false s = (b ∷ s.0, s.1, ap (onto_first b) s.2)

pub lines_more : (w : List ℕ) (ps : List (List ℕ)) (part : List ℕ) (parts : List (List ℕ)) → ps ≡ part ∷ parts → lines_of_parts (w ∷ ps) ≡ strip_carriage_return w ∷ lines_of_parts ps
lines_more w ps part parts e = rw e refl

-- a line that ends with byte 10, before the rest of a text
pub lines-cut : (w rest : List ℕ) → list_any is_newline w ≡ false → list_any is_return w ≡ false → physical_lines (w ++ 10 ∷ rest) ≡ w ∷ physical_lines rest
lines-cut w rest e f = let s = some_part is_newline rest in
    ap lines_of_parts (parts-cut is_newline w 10 rest e refl) ∙ lines_more w (parts_between is_newline rest) s.0 s.1 s.2 ∙ ap (λ v. v ∷ physical_lines rest) (stripped w f)

none_before : (b : Bool) (x : ℕ) (w : List ℕ) → b ≡ false → cond (not b) (x ∷ w) [] ≡ x ∷ w
none_before true x w e = absurd (true≢false e)
none_before false x w e = refl

-- nothing is cut off where nothing passes the test
pub before_first-none : (p : ℕ → Bool) (w : List ℕ) → list_any p w ≡ false → before_first p w ≡ w
before_first-none p [] e = refl
before_first-none p (x ∷ w) e = take_while-cons (λ b. not (p b)) x w ∙ ap (λ v. cond (not (p x)) (x ∷ v) []) (before_first-none p w (or_right (p x) (list_any p w) e)) ∙ none_before (p x) x w (or_left (p x) (list_any p w) e)

-- a byte `\`
abbrev pub is_backslash : ℕ → Bool
is_backslash b = b == 92

not_found : (a b : Bool) (x : ℕ) → a ≡ false → found_or_later (a && b) x None ≡ None
not_found true b x e = absurd (true≢false e)
not_found false b x e = refl

pub no_backslash : (w : List ℕ) → list_any is_backslash w ≡ false → before_backslash w ≡ None
no_backslash [] e = refl
no_backslash (x ∷ w) e = ap (found_or_later (x == 92 && list_all is_space w) x) (no_backslash w (or_right (x == 92) (list_any is_backslash w) e)) ∙ not_found (x == 92) (list_all is_space w) x (or_left (x == 92) (list_any is_backslash w) e)

-- a byte that ends a line, begins a comment or may continue a line
abbrev pub is_special : ℕ → Bool
is_special b = is_newline b || is_return b || is_hash b || is_backslash b

-- what fails at each byte of a list
pub none-of : (p q : ℕ → Bool) (w : List ℕ) → ((b : ℕ) → p b ≡ false → q b ≡ false) → list_any p w ≡ false → list_any q w ≡ false
none-of p q [] f e = refl
none-of p q (x ∷ w) f e = ap (λ c. c || list_any q w) (f x (or_left (p x) (list_any p w) e)) ∙ none-of p q w f (or_right (p x) (list_any p w) e)

pub none-append : (p : ℕ → Bool) (v w : List ℕ) → list_any p v ≡ false → list_any p w ≡ false → list_any p (v ++ w) ≡ false
none-append p [] w e f = f
none-append p (x ∷ v) w e f = ap (λ c. c || list_any p (v ++ w)) (or_left (p x) (list_any p v) e) ∙ none-append p v w (or_right (p x) (list_any p v) e) f

specials : (a b c d : Bool) → (a || b || c || d) ≡ false → (a ≡ false) × (b ≡ false) × (c ≡ false) × (d ≡ false)
specials true b c d e = absurd (true≢false e)
specials false true c d e = absurd (true≢false e)
specials false false true d e = absurd (true≢false e)
specials false false false d e = (refl, refl, refl, e)

abbrev pub joined : ℕ → List ℕ → JoinedLine
joined n w = record { line = n; bytes = w }

-- a line without these bytes stands alone
pub line-cut : (n : ℕ) (w rest : List ℕ) → list_any is_special w ≡ false → joined_lines n (physical_lines (w ++ 10 ∷ rest)) ≡ joined n w ∷ joined_lines (n + 1) (physical_lines rest)
line-cut n w rest e =
    let parts : (b : ℕ) → is_special b ≡ false → (is_newline b ≡ false) × (is_return b ≡ false) × (is_hash b ≡ false) × (is_backslash b ≡ false) = λ b. specials (is_newline b) (is_return b) (is_hash b) (is_backslash b) in
    let newline : list_any is_newline w ≡ false = none-of is_special is_newline w (λ b h. (parts b h).0) e in
    let return : list_any is_return w ≡ false = none-of is_special is_return w (λ b h. (parts b h).1) e in
    let hash : without_comment w ≡ w = before_first-none is_hash w (none-of is_special is_hash w (λ b h. (parts b h).2) e) in
    let end : before_backslash w ≡ None = no_backslash w (none-of is_special is_backslash w (λ b h. (parts b h).3) e) in
    let later = joined_lines (n + 1) (physical_lines rest) in
    ap (joined_lines n) (lines-cut w rest newline return) ∙ ap (λ v. continued_by n v (before_backslash v) later) hash ∙ ap (λ o. continued_by n w o later) end

-- a word in front of a blank, and a word alone
pub words-cut : (w : List ℕ) (b : ℕ) (rest : List ℕ) → 0 < length w → list_any is_space w ≡ false → is_space b ≡ true → words_of (w ++ b ∷ rest) ≡ w ∷ words_of rest
words-cut [] b rest z e h = absurd (omega arith)
words-cut (x ∷ w) b rest z e h = ap (filter_map non_empty) (parts-cut is_space (x ∷ w) b rest e h)

pub words-whole : (w : List ℕ) → 0 < length w → list_any is_space w ≡ false → words_of w ≡ w ∷ []
words-whole [] z e = absurd (omega arith)
words-whole (x ∷ w) z e = ap (filter_map non_empty) (parts-whole is_space (x ∷ w) e)

-- the logical lines from the physical line of a number on
abbrev pub lines_from : ℕ → List ℕ → List Logical
lines_from n text = filter_map logical_line (joined_lines n (physical_lines text))

abbrev pub logical : ℕ → List (List ℕ) → Logical
logical n words = record { line = n; words = words }

pub logical-cut : (n : ℕ) (w rest : List ℕ) (word : List ℕ) (words : List (List ℕ)) → list_any is_special w ≡ false → words_of w ≡ word ∷ words → lines_from n (w ++ 10 ∷ rest) ≡ logical n (word ∷ words) ∷ lines_from (n + 1) rest
logical-cut n w rest word words e f = ap (filter_map logical_line) (line-cut n w rest e) ∙ ap (λ v. cons_option (with_words n v) (lines_from (n + 1) rest)) f

-- the parts are those of a split
cut_as : (p : ℕ → Bool) (b : ℕ) (parts : List (List ℕ)) (c : Bool) → cut_or_kept c b parts ≡ cond c ([] ∷ parts) (onto_first b parts)
cut_as p b parts true = refl
cut_as p b parts false = refl

pub parts-split : (p : ℕ → Bool) (bs : List ℕ) → parts_between p bs ≡ slice_split p bs
parts-split p [] = refl
parts-split p (b ∷ bs) = cut_as p b (parts_between p bs) (p b) ∙ ap (λ v. cond (p b) ([] ∷ v) (onto_first b v)) (parts-split p bs)

pub lines_are_known : LinesAreKnown
lines_are_known text = ap lines_of_parts (parts-split is_newline text)

has_byte : (word : List ℕ) → word ≢ [] → 0 < length word
has_byte [] n = absurd (n refl)
has_byte (b ∷ bs) n = omega arith

pub words_are_runs : WordsAreRuns
words_are_runs = record {
  before_blank = λ word blank rest n e h. words-cut word blank rest (has_byte word n) e h;
  at_the_end = λ word n e. words-whole word (has_byte word n) e;
  after_blank = λ blank rest h. ap (filter_map non_empty) (parts-cut is_space [] blank rest refl h);
  of_nothing = refl;
}

-- the last byte of a list that ends with it, and what stands before
pub seam : (front : List ℕ) (b : ℕ) → length (front ++ b ∷ []) - 1 ≡ length front
seam front b = simp length-append (omega arith)

pub at_seam : (front : List ℕ) (b : ℕ) → get_or (front ++ b ∷ []) (length front) 0 ≡ b
at_seam [] b = refl
at_seam (x ∷ xs) b = at_seam xs b

strip_return : (b : Bool) (w front : List ℕ) (n : ℕ) → b ≡ true → take n w ≡ front → (if b then take n w else w) ≡ front
strip_return true w front n e h = h
strip_return false w front n e h = absurd (true≢false (sym e))

return_stripped : (front : List ℕ) → strip_carriage_return (front ++ 13 ∷ []) ≡ front
return_stripped front =
    let w : List ℕ = front ++ 13 ∷ [] in
    let byte : get_or w (length w - 1) 0 ≡ 13 = ap (λ n. get_or w n 0) (seam front 13) ∙ at_seam front 13 in
    let rest : take (length w - 1) w ≡ front = ap (λ n. take n w) (seam front 13) ∙ take-append_seam front (13 ∷ []) in
    strip_return (get_or w (length w - 1) 0 == 13) w front (length w - 1) (ap (λ b. b == 13) byte) rest

pub cut_line : (w rest : List ℕ) → list_any is_newline w ≡ false → physical_lines (w ++ 10 ∷ rest) ≡ strip_carriage_return w ∷ physical_lines rest
cut_line w rest e = let s = some_part is_newline rest in ap lines_of_parts (parts-cut is_newline w 10 rest e refl) ∙ lines_more w (parts_between is_newline rest) s.0 s.1 s.2

before_return : (line rest : List ℕ) → list_any is_newline line ≡ false → physical_lines (line ++ 13 ∷ 10 ∷ rest) ≡ line ∷ physical_lines rest
before_return line rest e =
    ap physical_lines (sym (append_assoc line (13 ∷ []) (10 ∷ rest)))
    ∙ cut_line (line ++ 13 ∷ []) rest (none-append is_newline line (13 ∷ []) e refl)
    ∙ ap (λ v. v ∷ physical_lines rest) (return_stripped line)

line_kept : (c : Bool) (x : List ℕ) → c ≡ false → (if c then [] else x ∷ []) ≡ x ∷ []
line_kept true x e = absurd (true≢false e)
line_kept false x e = refl

last_line : (line : List ℕ) → line ≢ [] → list_any is_newline line ≡ false → physical_lines line ≡ line ∷ []
last_line [] n e = absurd (n refl)
last_line (b ∷ bs) n e = ap lines_of_parts (parts-whole is_newline (b ∷ bs) e) ∙ line_kept (length (b ∷ bs) == 0) (b ∷ bs) (apart_from (length (b ∷ bs)) 0 (λ h. absurd (omega arith)))

none_passes : (b : Bool) (x : ℕ) (w : List ℕ) → b ≡ true → cond (not b) (x ∷ w) [] ≡ []
none_passes true x w e = refl
none_passes false x w e = absurd (true≢false (sym e))

pub before_first-cut : (p : ℕ → Bool) (front : List ℕ) (b : ℕ) (rest : List ℕ) → list_any p front ≡ false → p b ≡ true → before_first p (front ++ b ∷ rest) ≡ front
before_first-cut p [] b rest e h = take_while-cons (λ c. not (p c)) b rest ∙ none_passes (p b) b (before_first p rest) h
before_first-cut p (x ∷ w) b rest e h =
    take_while-cons (λ c. not (p c)) x (w ++ b ∷ rest)
    ∙ ap (λ v. cond (not (p x)) (x ∷ v) []) (before_first-cut p w b rest (or_right (p x) (list_any p w) e) h)
    ∙ none_before (p x) x w (or_left (p x) (list_any p w) e)

-- a last `\\`, and other last bytes
not_all : (p : ℕ → Bool) (xs : List ℕ) (b : ℕ) (ys : List ℕ) → p b ≡ false → list_all p (xs ++ b ∷ ys) ≡ false
not_all p [] b ys e = ap (λ c. c && list_all p ys) e
not_all p (x ∷ xs) b ys e = by (p x) (list_all p (xs ++ b ∷ ys)) (not_all p xs b ys e)
  where
    by : (c d : Bool) → d ≡ false → (c && d) ≡ false
    by true d h = h
    by false d h = refl

later_found : (a b : Bool) (x : ℕ) (o : Option (List ℕ)) → b ≡ false → found_or_later (a && b) x o ≡ option_map (λ front. x ∷ front) o
later_found true b x o e = ap (λ c. found_or_later c x o) e
later_found false b x o e = refl

found_here : (b : Bool) (x : ℕ) (o : Option (List ℕ)) → b ≡ true → found_or_later b x o ≡ Some []
found_here true x o e = refl
found_here false x o e = absurd (true≢false (sym e))

continued : (front blanks : List ℕ) → list_all is_space blanks ≡ true → before_backslash (front ++ 92 ∷ blanks) ≡ Some front
continued [] blanks e = found_here (list_all is_space blanks) 92 (before_backslash blanks) e
continued (x ∷ xs) blanks e =
    later_found (x == 92) (list_all is_space (xs ++ 92 ∷ blanks)) x (before_backslash (xs ++ 92 ∷ blanks)) (not_all is_space xs 92 blanks refl)
    ∙ ap (option_map (λ front. x ∷ front)) (continued xs blanks e)

blank_line : (blanks : List ℕ) → list_all is_space blanks ≡ true → before_backslash blanks ≡ None
blank_line [] e = refl
blank_line (x ∷ xs) e =
    ap (found_or_later (x == 92 && list_all is_space xs) x) (blank_line xs (all_right (is_space x) (list_all is_space xs) e))
    ∙ not_found (x == 92) (list_all is_space xs) x (apart_from x 92 (λ h. let t : is_space 92 ≡ true = ap is_space (sym h) ∙ all_left (is_space x) (list_all is_space xs) e in cc))

ended : (front : List ℕ) (byte : ℕ) (blanks : List ℕ) → byte ≢ 92 → is_space byte ≡ false → list_all is_space blanks ≡ true → before_backslash (front ++ byte ∷ blanks) ≡ None
ended [] byte blanks n h e = ap (found_or_later (byte == 92 && list_all is_space blanks) byte) (blank_line blanks e) ∙ not_found (byte == 92) (list_all is_space blanks) byte (apart_from byte 92 n)
ended (x ∷ xs) byte blanks n h e =
    later_found (x == 92) (list_all is_space (xs ++ byte ∷ blanks)) x (before_backslash (xs ++ byte ∷ blanks)) (not_all is_space xs byte blanks h)
    ∙ ap (option_map (λ front. x ∷ front)) (ended xs byte blanks n h e)

pub lines_are_joined : LinesAreJoined
lines_are_joined = record {
  of_nothing = refl;
  at_the_end = last_line;
  before_newline = λ line rest e n. cut_line line rest e ∙ ap (λ v. v ∷ physical_lines rest) (strip_by (get_or line (length line - 1) 0 == 13) line (length line - 1) (apart_from (get_or line (length line - 1) 0) 13 n));
  before_return = before_return;
  before_comment = λ front comment e. before_first-cut is_hash front 35 comment e refl;
  no_comment = λ line e. before_first-none is_hash line e;
  continued = continued;
  ended = ended;
  blank = blank_line;
  alone = λ n line later e. ap (λ o. continued_by n (without_comment line) o (joined_lines (n + 1) later)) e;
  joined = λ n line front next later m bytes others e h. ap (λ o. continued_by n (without_comment line) o (joined_lines (n + 1) (next ∷ later))) e ∙ ap (joined_to n front) h;
  joined_to_nothing = λ n line front e. ap (λ o. continued_by n (without_comment line) o []) e;
}
