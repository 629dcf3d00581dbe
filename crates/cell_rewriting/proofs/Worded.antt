-- Words over leaves.
use Rattle.std.proofs.Common.{◌≡◌, sym, ◌∙◌, ap, ap₂, ℕ, ◌<◌, ◌≤◌, ◌==◌, Bool, ◌&&◌, not, List, [], ◌∷◌, ◌++◌, map, length, slice_get, Some, arith}
use Rattle.std.proofs.lemmas.List.{length-map}
use Rattle.std.proofs.lemmas.List.Elements.{All-push}
use Rattle.std.proofs.lemmas.Option.{slice_get_within, get_or_from_slice_get}
use Rattle.std.proofs.lemmas.Nat.Bits.{bit_at-zero}
use Rattle.cell_core.specs.declared.cells.Src.{Src}
use Rattle.cell_core.specs.declared.cells.Src.TheVariants.{One, Zero, Cell as Made}
use Rattle.cell_core.specs.declared.cells.Cell.{Cell}
use Rattle.cell_core.specs.declared.cells.Cell.TheVariants.{AndNot}
use Rattle.cell_core.specs.declared.list.CellList.{CellList}
use Rattle.cell_core.specs.Meaning.{cell_bit, cell_bits, bit_of}
use Rattle.cell_core.proofs.OwnBits.{bit_of_cell}
use Rattle.cell_core.specs.Tables.{bits_number}
use Rattle.cell_core.proofs.TableBits.{number_small, ones_shown}
use Rattle.lists.specs.Bits.{has_bit}
use Rattle.cell_rewriting.specs.Substitution.{AreEquivalent}
use Rattle.cell_rewriting.specs.Words.{word_says, IsWordOf, IsWordOfCell, AreWords}
use Rattle.cell_rewriting.specs.declared.words.CellWord.{CellWord}

-- the leaves' bits are at most six
pub leaf_bits_few : (list : CellList) (leaves : List Src) (inputs state : List Bool) → length leaves ≤ 6 → length (map (bit_of list inputs state) leaves) ≤ 6
leaf_bits_few list leaves inputs state few = let e = length-map leaves (bit_of list inputs state) in omega (arith, e, few)

pub number_is_small : (list : CellList) (leaves : List Src) (inputs state : List Bool) → length leaves ≤ 6 → bits_number (map (bit_of list inputs state) leaves) < 64
number_is_small list leaves inputs state few = number_small (map (bit_of list inputs state) leaves) (leaf_bits_few list leaves inputs state few)

pub ones_are : (list : CellList) (leaves : List Src) → length leaves ≤ 6 → IsWordOf list leaves One 18446744073709551615
ones_are list leaves few = λ inputs state. ones_shown (map (bit_of list inputs state) leaves) (length leaves) few (length-map leaves (bit_of list inputs state))

pub zero_is : (list : CellList) (leaves : List Src) → IsWordOf list leaves Zero 0
zero_is list leaves = λ inputs state. ap (λ x. x == 1) (bit_at-zero (bits_number (map (bit_of list inputs state) leaves)))

-- ---- cells
pub and_not_is : (list : CellList) (leaves : List Src) (a b : Src) (x y word : ℕ) → length leaves ≤ 6 → IsWordOf list leaves a x → IsWordOf list leaves b y
    → ((n : ℕ) → n < 64 → has_bit word n ≡ (has_bit x n && not (has_bit y n))) → IsWordOfCell list leaves (AndNot a b) word
and_not_is list leaves a b x y word few p q made = λ inputs state.
    made (bits_number (map (bit_of list inputs state) leaves)) (number_is_small list leaves inputs state few) ∙ ap₂ (λ u v. u && not v) (p inputs state) (q inputs state)

-- ---- the words of cells, one after another
pub cell_is : (list : CellList) (leaves : List Src) (i : ℕ) (cell : Cell) (word : ℕ) → slice_get list.cells i ≡ Some cell → IsWordOfCell list leaves cell word → IsWordOf list leaves (Made i) word
cell_is list leaves i cell word at made = λ inputs state.
    made inputs state ∙ ap (cell_bit inputs state (cell_bits inputs state list.cells)) (sym (get_or_from_slice_get list.cells i cell cell at))
    ∙ sym (bit_of_cell list i cell inputs state (slice_get_within list.cells i cell at))

pub word_added : (list : CellList) (leaves : List Src) (words : List CellWord) (new : CellWord) → AreWords list leaves words → IsWordOf list leaves (Made new.cell) new.word → AreWords list leaves (words ++ new ∷ [])
word_added list leaves words new are made = All-push (λ (w : CellWord). IsWordOf list leaves (Made w.cell) w.word) words new are made

-- ---- equal words
pub one_bit : (list : CellList) (leaves : List Src) (a b : Src) (x y : ℕ) → IsWordOf list leaves a x → IsWordOf list leaves b y → x ≡ y → AreEquivalent list a b
one_bit list leaves a b x y p q same = λ inputs state. sym (p inputs state) ∙ ap (λ w. word_says list leaves w inputs state) same ∙ q inputs state
