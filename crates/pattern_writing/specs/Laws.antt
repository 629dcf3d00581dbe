-- What holds for the items of every list of tags.
use Rattle.std.specs.Prelude.{◌≡◌, ◌≢◌, ◌<◌, ◌≤◌, ◌+◌, ℕ, List, [], ◌∷◌, ◌++◌, ◌==◌, not, filter, flat_map, length, map, replicate}
use Rattle.std.specs.List.{AllByRecursion}
use Rattle.pattern_writing.specs.Writer.{TagRun, ended_lines, runs_of, wrapped}

-- the tags for which items stand
abbrev pub spelled : List TagRun → List ℕ
spelled items = flat_map (λ i. replicate i.count i.tag) items

-- the first item, if there is one, has another tag
abbrev pub BeginsWithAnother : ℕ → List TagRun → Type 0
BeginsWithAnother t [] = Unit {0}
BeginsWithAnother t (i ∷ is) = t ≢ i.tag

-- no two items side by side have one tag
abbrev pub HasLongestRuns : List TagRun → Type 0
HasLongestRuns [] = Unit {0}
HasLongestRuns (i ∷ is) = BeginsWithAnother i.tag is × HasLongestRuns is

-- the items of tags stand for these tags
abbrev pub ItemsSpellTags : Type 0
ItemsSpellTags = (tags : List ℕ) → spelled (runs_of tags) ≡ tags

-- each item of tags is as long as it can be
abbrev pub ItemsAreLongestRuns : Type 0
ItemsAreLongestRuns = (tags : List ℕ) → HasLongestRuns (runs_of tags)

-- the bytes without the line ends
abbrev pub without_line_ends : List ℕ → List ℕ
without_line_ends bytes = filter (λ b. not (b == 10)) bytes

-- wrapping puts in line ends, and nothing else
abbrev pub WrappingKeepsItems : Type 0
WrappingKeepsItems = (used : ℕ) (items : List (List ℕ)) →
    without_line_ends (wrapped used items) ≡ without_line_ends (flat_map (λ item. item) items)

-- the bytes of some items side by side
abbrev pub joined : List (List ℕ) → List ℕ
joined items = flat_map (λ item. item) items

-- the first item on the lines that follow a line of so many bytes does not fit on that line; the
-- first of these lines has items
abbrev pub BreaksAfter : ℕ → List (List (List ℕ)) → Type 0
BreaksAfter used [] = Unit {0}
BreaksAfter used ([] ∷ lines) = ⊥
BreaksAfter used ((item ∷ items) ∷ lines) = 70 < used + length item

-- each line but the last is followed by an item that does not fit on it
abbrev pub HasNeededBreaks : List (List (List ℕ)) → Type 0
HasNeededBreaks [] = Unit {0}
HasNeededBreaks (line ∷ lines) = BreaksAfter (length (joined line)) lines × HasNeededBreaks lines

-- All items stand on these lines, in order and uncut: the lines are those of their text, each has
-- at most 70 bytes, and no line ends before an item that it has room for.
pub record AreOnLines (items : List (List ℕ)) (lines : List (List (List ℕ))) : Type 0 where
  pub all : flat_map (λ line. line) lines ≡ items
  pub text : ended_lines (map joined lines) ≡ wrapped 0 items ++ 10 ∷ []
  pub short : AllByRecursion (λ line. length (joined line) ≤ 70) lines
  pub breaks : HasNeededBreaks lines

-- an item that fits on a line
abbrev pub IsShort : List ℕ → Type 0
IsShort item = length item ≤ 70

-- wrapping puts items on such lines
abbrev pub WrappedIsLines : Type 0
WrappedIsLines =
    (items : List (List ℕ)) → AllByRecursion IsShort items
    → (lines : List (List (List ℕ))) × AreOnLines items lines
