-- What a VCD text means: variables of one bit, and the bit of each at each time. A text consists of
-- a line for each variable, with an id and the reference under which it is shown; a line that ends
-- these; and blocks, each of a line with a time and lines that give values to ids.
use Rattle.std.specs.Prelude.{◌≡◌, ◌≢◌, ◌≤◌, ◌<◌, ◌^◌, ℕ, suc, nat_le, Bool, true, if◌then◌else◌, List, [], ◌∷◌, ◌++◌, map, flat_map, AllPairs, Option, Some, None, codes, decimal}
use Rattle.std.specs.List.{AllByRecursion, list_any}
use Rattle.std.specs.Option.{option_or}
use Rattle.std.specs.Str.{bytes_eq}
use Rattle.pattern_writing.specs.Writer.{ended_lines}

-- a variable, by its id and its reference
pub record VcdVar : Type 0 where
  pub id : List ℕ
  pub reference : List ℕ

-- a value that is given to an id
pub record VcdValue : Type 0 where
  pub id : List ℕ
  pub bit : Bool

-- the values that are given at a time
pub record VcdBlock : Type 0 where
  pub time : ℕ
  pub values : List VcdValue

pub record VcdForm : Type 0 where
  pub vars : List VcdVar
  pub blocks : List VcdBlock

-- the lines of a text in this form
abbrev pub var_line : VcdVar → List ℕ
var_line var = codes "$var wire 1 " ++ (var.id ++ (codes " " ++ (var.reference ++ codes " $end")))

abbrev pub last_definition : List ℕ
last_definition = codes "$enddefinitions $end"

abbrev pub time_line : ℕ → List ℕ
time_line time = codes "#" ++ decimal time

abbrev pub value_line : VcdValue → List ℕ
value_line value = (if value.bit then 49 else 48) ∷ value.id

abbrev pub block_lines : VcdBlock → List (List ℕ)
block_lines block = time_line block.time ∷ map value_line block.values

abbrev pub form_lines : VcdForm → List (List ℕ)
form_lines form = map var_line form.vars ++ (last_definition ∷ flat_map block_lines form.blocks)

-- a word: one or more bytes, each from 33 to 126
abbrev pub IsWord : List ℕ → Type 0
IsWord bytes = (bytes ≢ []) × AllByRecursion (λ b. (33 ≤ b) × (b ≤ 126)) bytes

-- the times of blocks rise, and the first is at least `least`
abbrev pub AreRising : ℕ → List VcdBlock → Type 0
AreRising least [] = Unit {0}
AreRising least (block ∷ blocks) = (least ≤ block.time) × AreRising (suc block.time) blocks

-- the first block is at time 0
abbrev pub BeginsAtZero : List VcdBlock → Type 0
BeginsAtZero [] = Unit {0}
BeginsAtZero (block ∷ blocks) = block.time ≡ 0

-- one of the variables has the id
abbrev pub has_id : List VcdVar → List ℕ → Bool
has_id vars id = list_any (λ var. bytes_eq var.id id) vars

-- The form is in order: ids and references are words, no two variables have one id, times rise from
-- 0 and fit 64 bits, and values are given to ids of variables.
pub record IsInOrder (form : VcdForm) : Type 0 where
  pub words : AllByRecursion (λ var. IsWord var.id × IsWord var.reference) form.vars
  pub distinct : AllPairs (λ a b. a.id ≢ b.id) form.vars
  pub rising : AreRising 0 form.blocks
  pub from_zero : BeginsAtZero form.blocks
  pub fit : AllByRecursion (λ block. block.time < 2 ^ 64) form.blocks
  pub known : AllByRecursion (λ block. AllByRecursion
      (λ value. has_id form.vars value.id ≡ true) block.values) form.blocks

-- The text reads as this form.
pub record ReadsAsVcd (text : List ℕ) (form : VcdForm) : Type 0 where
  pub lines : text ≡ ended_lines (form_lines form)
  pub in_order : IsInOrder form

-- the last bit that these values give to an id, if they give it one
abbrev pub last_value : List ℕ → List VcdValue → Option Bool
last_value id [] = None
last_value id (value ∷ values) =
    option_or (last_value id values) (if bytes_eq value.id id then Some value.bit else None)

-- the bit of an id at a time: that of its last value in the blocks up to the time, or `before` if
-- there is none
abbrev pub value_from : Option Bool → List ℕ → ℕ → List VcdBlock → Option Bool
value_from before id time [] = before
value_from before id time (block ∷ blocks) =
    value_from (if nat_le block.time time then option_or (last_value id block.values) before
    else before) id time blocks

abbrev pub value_at : VcdForm → List ℕ → ℕ → Option Bool
value_at form id time = value_from None id time form.blocks

-- the time of the last block, or `before` if there is no block
abbrev pub last_time_after : ℕ → List VcdBlock → ℕ
last_time_after before [] = before
last_time_after before (block ∷ blocks) = last_time_after block.time blocks

abbrev pub last_time : VcdForm → ℕ
last_time form = last_time_after 0 form.blocks
