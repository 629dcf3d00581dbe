-- The words of a text's logical lines have no line end in them, and no `#`.
use Rattle.std.proofs.Common.{ℕ, suc, ◌≡◌, ◌+◌, ◌-◌, ◌==◌, refl, subst, arith, List, [], ◌∷◌, Bool, true, false, not, cond, if◌then◌else◌, length, take}
use Rattle.std.specs.Prelude.{slice_index}
use Rattle.std.specs.List.{AllByRecursion, position_or_len}
use Rattle.std.specs.Str.Lines.{lines_of_parts, strip_carriage_return}
use Rattle.blif_text.specs.declared.logical.Logical.{Logical}
use Rattle.blif_text.specs.LogicalLines.{cut_or_kept, parts_between, is_newline, is_hash, physical_lines, without_comment, logical_lines}
use Rattle.netlist_plans.proofs.FreeWords.{AreFree, HasFreeWords, IsFree, front_free, joined_free, lines_have_free_words, put_on}

-- no byte of it ends a line
abbrev pub IsOneLine : List ℕ → Type 0
IsOneLine = IsFree is_newline

-- the words of a line
abbrev pub HasOneLineWords : Logical → Type 0
HasOneLineWords = HasFreeWords is_newline

-- parts between newlines
newline_parts : (bytes : List ℕ) → AreFree is_newline (parts_between is_newline bytes)
newline_parts [] = (refl, tt)
newline_parts (b ∷ bytes) = by (is_newline b) refl (newline_parts bytes)
  where
    by : (t : Bool) → is_newline b ≡ t → AreFree is_newline (parts_between is_newline bytes) → AreFree is_newline (cut_or_kept t b (parts_between is_newline bytes))
    by true e rest = (refl, rest)
    by false e rest = put_on is_newline b (parts_between is_newline bytes) e rest

stripped_free : (bytes : List ℕ) → IsOneLine bytes → IsOneLine (strip_carriage_return bytes)
stripped_free bytes f = by (slice_index bytes (length bytes - 1) == 13)
  where
    by : (t : Bool) → IsOneLine (if t then take (length bytes - 1) bytes else bytes)
    by true = front_free is_newline (length bytes - 1) bytes f
    by false = f

physical_free : (parts : List (List ℕ)) → AreFree is_newline parts → AreFree is_newline (lines_of_parts parts)
physical_free [] f = tt
physical_free (part ∷ []) f = by (length part == 0)
  where
    by : (t : Bool) → AreFree is_newline (if t then [] else part ∷ [])
    by true = tt
    by false = (f.0, tt)
physical_free (part ∷ next ∷ parts) f = (stripped_free part f.0, physical_free (next ∷ parts) f.1)

fronts_free : (lines : List (List ℕ)) → AreFree is_newline lines → AllByRecursion (λ (line : List ℕ). IsOneLine (without_comment line)) lines
fronts_free [] f = tt
fronts_free (line ∷ lines) f = (front_free is_newline (position_or_len is_hash line) line f.0, fronts_free lines f.1)

pub lines_have_one_line_words : (text : List ℕ) → AllByRecursion HasOneLineWords (logical_lines text)
lines_have_one_line_words text =
    lines_have_free_words is_newline text (fronts_free (physical_lines text) (physical_free (parts_between is_newline text) (newline_parts text)))

-- a line without its comment has no `#`
uncommented : (line : List ℕ) → IsFree is_hash (without_comment line)
uncommented [] = refl
uncommented (b ∷ line) = by (is_hash b) refl (uncommented line)
  where
    by : (t : Bool) → is_hash b ≡ t → IsFree is_hash (without_comment line) → IsFree is_hash (take (cond (not t) (1 + position_or_len is_hash line) 0) (b ∷ line))
    by true e rest = refl
    by false e rest =
        let next : suc (position_or_len is_hash line) ≡ 1 + position_or_len is_hash line = omega arith in
        subst (λ (n : ℕ). IsFree is_hash (take n (b ∷ line))) next (joined_free is_hash b (without_comment line) e rest)

all_uncommented : (lines : List (List ℕ)) → AllByRecursion (λ (line : List ℕ). IsFree is_hash (without_comment line)) lines
all_uncommented [] = tt
all_uncommented (line ∷ lines) = (uncommented line, all_uncommented lines)

pub lines_have_no_comments : (text : List ℕ) → AllByRecursion (HasFreeWords is_hash) (logical_lines text)
lines_have_no_comments text = lines_have_free_words is_hash text (all_uncommented (physical_lines text))
