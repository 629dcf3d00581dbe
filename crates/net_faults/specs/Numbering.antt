-- Names by number, and words with the numbers of their names.
use Rattle.std.specs.Prelude.{◌≡◌, ℕ, ◌<◌, cond, bytes_eq, List, [], length, map, slice_index_or, Option, Some}
use Rattle.std.specs.BTreeMap.{get_by}
use Rattle.std.specs.Cmp.Lexicographic.{slice_cmp}
use Rattle.std.specs.List.{All}
use Rattle.std.specs.Ordering.{nat_cmp}
use denote.Ref.{Bor}
use Rattle.netlist_core.specs.declared.model.Port.{Port}
use Rattle.netlist_core.specs.Names.{Name}
use Rattle.model_words.specs.Words.{word_port}
use Rattle.net_faults.specs.declared.numbering.Numbering.{Numbering}
use Rattle.net_faults.specs.declared.numbering.NumberedWord.{NumberedWord}

-- the number of a name
abbrev pub name_number : Numbering → Name → Option ℕ
name_number names name = get_by (λ k. slice_cmp nat_cmp name k.now) names.numbers

-- the names by number, and how many there are
abbrev pub numbered_names : Numbering → List Name
numbered_names names = map (λ (name : Bor (List ℕ)). name.now) names.names.items

abbrev pub count_of : Numbering → ℕ
count_of names = length names.names.items

-- the name stands at its number
abbrev pub StandsAt : Numbering → Name → ℕ → Type 0
StandsAt names name number =
    (number < count_of names) × (slice_index_or (numbered_names names) number [] ≡ name)

-- each name that has a number stands at it, so no two names have one number
abbrev pub IsNumbering : Numbering → Type 0
IsNumbering names =
    (name : Name) (number : ℕ) → name_number names name ≡ Some number → StandsAt names name number

-- the name has this number now, and every other name has the number that it had
abbrev pub GivesNumber : Numbering → Numbering → Name → ℕ → Type 0
GivesNumber old new name number =
    (other : Name) → name_number new other ≡ cond (bytes_eq name other) (Some number)
    (name_number old other)

-- each name keeps its number
abbrev pub KeepsNumbers : Numbering → Numbering → Type 0
KeepsNumbers old new =
    (name : Name) (number : ℕ) → name_number old name ≡ Some number
    → name_number new name ≡ Some number

-- words without their numbers, and without the place of their bytes in memory
abbrev pub numbered_port : NumberedWord → Port
numbered_port w = word_port w.word

abbrev pub numbered_ports : List NumberedWord → List Port
numbered_ports words = map numbered_port words

-- the word has the number of its name
pub record IsNumbered (names : Numbering) (w : NumberedWord) : Type 0 where
  pub numbering : IsNumbering names
  pub number : name_number names w.word.name.now ≡ Some w.number

abbrev pub AreNumbered : Numbering → List NumberedWord → Type 0
AreNumbered names words = All (IsNumbered names) words
