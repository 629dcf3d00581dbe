-- The words of a text's logical lines have no byte that passes a test, if no physical line has one before its comment.
use Rattle.std.proofs.Common.{ℕ, zero, suc, ◌≡◌, ◌∙◌, ◌+◌, ◌==◌, refl, ap, List, [], ◌∷◌, ◌++◌, Bool, true, false, ◌||◌, ◌&&◌, take}
use Rattle.std.specs.Prelude.{Option, Some, None}
use Rattle.std.specs.List.{AllByRecursion, list_any, list_all, onto_first, filter_map, cons_option}
use Rattle.std.proofs.lemmas.Bool.{or_parts}
use Rattle.lists.specs.Bytes.{non_empty}
use Rattle.blif_text.specs.declared.logical.Logical.{Logical}
use Rattle.blif_text.specs.LogicalLines.{cut_or_kept, parts_between, physical_lines, is_space, without_comment, found_or_later, before_backslash, JoinedLine, joined_to, continued_by, joined_lines, words_of, with_words, logical_line, logical_lines}

-- no byte passes the test
abbrev pub IsFree : (ℕ → Bool) → List ℕ → Type 0
IsFree test bytes = list_any test bytes ≡ false

abbrev pub AreFree : (ℕ → Bool) → List (List ℕ) → Type 0
AreFree test = AllByRecursion (IsFree test)

-- the words of a line
abbrev pub HasFreeWords : (ℕ → Bool) → Logical → Type 0
HasFreeWords test l = AreFree test l.words

module _ (test : ℕ → Bool) where
  pub joined_free : (b : ℕ) (bytes : List ℕ) → test b ≡ false → IsFree test bytes → IsFree test (b ∷ bytes)
  joined_free b bytes e f = ap (λ t. t || list_any test bytes) e ∙ f

  pub front_free : (n : ℕ) (bytes : List ℕ) → IsFree test bytes → IsFree test (take n bytes)
  front_free zero [] f = refl
  front_free zero (b ∷ bytes) f = refl
  front_free (suc n) [] f = refl
  front_free (suc n) (b ∷ bytes) f = let p = or_parts (test b) (list_any test bytes) f in joined_free b (take n bytes) p.0 (front_free n bytes p.1)

  both_free : (front back : List ℕ) → IsFree test front → IsFree test back → IsFree test (front ++ back)
  both_free [] back f g = g
  both_free (b ∷ front) back f g = let p = or_parts (test b) (list_any test front) f in joined_free b (front ++ back) p.0 (both_free front back p.1 g)

  pub put_on : (b : ℕ) (parts : List (List ℕ)) → test b ≡ false → AreFree test parts → AreFree test (onto_first b parts)
  put_on b [] e f = (joined_free b [] e refl, tt)
  put_on b (part ∷ parts) e f = (joined_free b part e f.0, f.1)

  -- parts of a line
  line_parts : (p : ℕ → Bool) (bytes : List ℕ) → IsFree test bytes → AreFree test (parts_between p bytes)
  line_parts p [] f = (refl, tt)
  line_parts p (b ∷ bytes) f = let apart = or_parts (test b) (list_any test bytes) f in by (p b) apart.0 (line_parts p bytes apart.1)
    where
      by : (t : Bool) → test b ≡ false → AreFree test (parts_between p bytes) → AreFree test (cut_or_kept t b (parts_between p bytes))
      by true e rest = (refl, rest)
      by false e rest = put_on b (parts_between p bytes) e rest

  -- what stands before a `\` at the end
  abbrev IsFreeIfAny : Option (List ℕ) → Type 0
  IsFreeIfAny None = Unit {0}
  IsFreeIfAny (Some bytes) = IsFree test bytes

  continued_free : (bytes : List ℕ) → IsFree test bytes → IsFreeIfAny (before_backslash bytes)
  continued_free [] f = tt
  continued_free (b ∷ bytes) f = by (b == 92 && list_all is_space bytes) (before_backslash bytes) (continued_free bytes (or_parts (test b) (list_any test bytes) f).1)
    where
      by : (t : Bool) (later : Option (List ℕ)) → IsFreeIfAny later → IsFreeIfAny (found_or_later t b later)
      by true later g = refl
      by false None g = tt
      by false (Some front) g = joined_free b front (or_parts (test b) (list_any test bytes) f).0 g

  -- joined lines
  abbrev JoinedFree : List JoinedLine → Type 0
  JoinedFree = AllByRecursion (λ (joined : JoinedLine). IsFree test joined.bytes)

  joined_lines_free : (n : ℕ) (lines : List (List ℕ)) → AllByRecursion (λ (line : List ℕ). IsFree test (without_comment line)) lines → JoinedFree (joined_lines n lines)
  joined_lines_free n [] f = tt
  joined_lines_free n (line ∷ lines) f =
      by (before_backslash (without_comment line)) (continued_free (without_comment line) f.0) (joined_lines (n + 1) lines) (joined_lines_free (n + 1) lines f.1)
    where
      onto : (front : List ℕ) (later : List JoinedLine) → IsFree test front → JoinedFree later → JoinedFree (joined_to n front later)
      onto front [] g h = (g, tt)
      onto front (next ∷ later) g h = (both_free front next.bytes g h.0, h.1)

      by : (o : Option (List ℕ)) → IsFreeIfAny o → (later : List JoinedLine) → JoinedFree later → JoinedFree (continued_by n (without_comment line) o later)
      by None g later h = (f.0, h)
      by (Some front) g later h = onto front later g h

  words_free : (parts : List (List ℕ)) → AreFree test parts → AreFree test (filter_map non_empty parts)
  words_free [] f = tt
  words_free ([] ∷ parts) f = words_free parts f.1
  words_free ((b ∷ part) ∷ parts) f = (f.0, words_free parts f.1)

  lines_free : (joined : List JoinedLine) → JoinedFree joined → AllByRecursion (HasFreeWords test) (filter_map logical_line joined)
  lines_free [] f = tt
  lines_free (j ∷ joined) f = by (words_of j.bytes) (words_free (parts_between is_space j.bytes) (line_parts is_space j.bytes f.0)) (lines_free joined f.1)
    where
      by : (words : List (List ℕ)) → AreFree test words → AllByRecursion (HasFreeWords test) (filter_map logical_line joined) → AllByRecursion (HasFreeWords test) (cons_option (with_words j.line words) (filter_map logical_line joined))
      by [] g rest = rest
      by (word ∷ words) g rest = (g, rest)

  pub lines_have_free_words : (text : List ℕ) → AllByRecursion (λ (line : List ℕ). IsFree test (without_comment line)) (physical_lines text) → AllByRecursion (HasFreeWords test) (logical_lines text)
  lines_have_free_words text f = lines_free (joined_lines 1 (physical_lines text)) (joined_lines_free 1 (physical_lines text) f)
