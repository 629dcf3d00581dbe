-- Tables over leaves: words of 64 bits, in which the bits of the leaves select one bit.
use Rattle.std.specs.Prelude.{◌≡◌, ℕ, Bool, List, map, All}
use Rattle.cell_core.specs.declared.cells.Src.{Src}
use Rattle.cell_core.specs.declared.cells.Src.TheVariants.{Cell as Made}
use Rattle.cell_core.specs.declared.cells.Cell.{Cell}
use Rattle.cell_core.specs.declared.list.CellList.{CellList}
use Rattle.cell_core.specs.Meaning.{cell_bit, cell_bits, bit_of}
use Rattle.cell_core.specs.Tables.{table_bit}
use Rattle.cell_rewriting.specs.declared.words.CellWord.{CellWord}

-- the bit of the word that the bits of the leaves select
abbrev pub word_says : CellList → List Src → ℕ → List Bool → List Bool → Bool
word_says list leaves word inputs state = table_bit (map (bit_of list inputs state) leaves) word

-- the bits of the leaves select the source's bit in the word, under all inputs and states
abbrev pub IsWordOf : CellList → List Src → Src → ℕ → Type 0
IsWordOf list leaves src word =
    (inputs state : List Bool) → word_says list leaves word inputs state
    ≡ bit_of list inputs state src

-- the bits of the leaves select in the word the bit that the cell makes
abbrev pub IsWordOfCell : CellList → List Src → Cell → ℕ → Type 0
IsWordOfCell list leaves cell word =
    (inputs state : List Bool) → word_says list leaves word inputs state ≡ cell_bit inputs state
    (cell_bits inputs state list.cells) cell

-- each of these words is the word of its cell
abbrev pub AreWords : CellList → List Src → List CellWord → Type 0
AreWords list leaves words = All (λ (w : CellWord). IsWordOf list leaves (Made w.cell) w.word) words
