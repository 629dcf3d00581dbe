-- Bits of cells, where cells are added.
use Rattle.std.proofs.Common.{◌≡◌, refl, ◌∙◌, ap, ℕ, ◌+◌, ◌<◌, Bool, true, false, List, [], ◌∷◌, ◌++◌, length, get_or, arith}
use Rattle.std.proofs.lemmas.Bool.{ltb-true}
use Rattle.std.proofs.lemmas.List.{get_or_append_left, length_push, get_or_push}
use Rattle.std.proofs.lemmas.List.Sums.{fold-append, fold_push}
use Rattle.cell_core.specs.declared.cells.Src.{Src}
use Rattle.cell_core.specs.declared.cells.Src.TheVariants.{Input, Latch, One, Zero, Cell as Made}
use Rattle.cell_core.specs.declared.cells.Cell.{Cell}
use Rattle.cell_core.specs.Sources.{is_there}
use Rattle.cell_core.specs.Meaning.{source_bit, cell_bit, bits_from, cell_bits, bit_in}
use Rattle.cell_core.specs.Adding.{AppendingKeepsBits}

-- as many bits as cells
pub length-bits_from : (inputs state made : List Bool) (cells : List Cell) → length (bits_from inputs state made cells) ≡ length made + length cells
length-bits_from inputs state made [] = omega arith
length-bits_from inputs state made (cell ∷ cells) =
    let rest : length (bits_from inputs state (made ++ cell_bit inputs state made cell ∷ []) cells) ≡ length (made ++ cell_bit inputs state made cell ∷ []) + length cells =
    length-bits_from inputs state (made ++ cell_bit inputs state made cell ∷ []) cells in
    let one : length (made ++ cell_bit inputs state made cell ∷ []) ≡ length made + 1 = length_push made (cell_bit inputs state made cell) in
    omega arith

pub length-cell_bits : (inputs state : List Bool) (cells : List Cell) → length (cell_bits inputs state cells) ≡ length cells
length-cell_bits inputs state cells = length-bits_from inputs state [] cells ∙ omega arith

-- the bits that were made stay
kept : (inputs state made : List Bool) (cells : List Cell) (i : ℕ) → i < length made → get_or (bits_from inputs state made cells) i false ≡ get_or made i false
kept inputs state made [] i within = refl
kept inputs state made (cell ∷ cells) i within =
    kept inputs state (made ++ cell_bit inputs state made cell ∷ []) cells i (omega (arith, length_push made (cell_bit inputs state made cell)))
    ∙ get_or_append_left made (cell_bit inputs state made cell ∷ []) false i within

source_kept : (inputs state made : List Bool) (cells : List Cell) (latches count : ℕ) (src : Src) → is_there count latches (length made) src ≡ true
    → source_bit inputs state (bits_from inputs state made cells) src ≡ source_bit inputs state made src
source_kept inputs state made cells latches count (Input i) there = refl
source_kept inputs state made cells latches count (Latch i) there = refl
source_kept inputs state made cells latches count One there = refl
source_kept inputs state made cells latches count Zero there = refl
source_kept inputs state made cells latches count (Made i) there = kept inputs state made cells i (ltb-true i (length made) there)

pub appending_keeps_bits : AppendingKeepsBits
appending_keeps_bits cells more inputs state latches count src there =
    ap (λ made. source_bit inputs state made src) (fold-append (λ made cell. made ++ cell_bit inputs state made cell ∷ []) [] cells more)
    ∙ source_kept inputs state (cell_bits inputs state cells) more latches count src (ap (λ n. is_there count latches n src) (length-cell_bits inputs state cells) ∙ there)

-- the bit of the cell that was added last
pub pushed_bit : (inputs state : List Bool) (cells : List Cell) (cell : Cell) (n : ℕ) → length cells ≡ n
    → bit_in (cells ++ cell ∷ []) inputs state (Made n) ≡ cell_bit inputs state (cell_bits inputs state cells) cell
pushed_bit inputs state cells cell n long =
    ap (λ made. get_or made n false) (fold_push (λ made c. made ++ cell_bit inputs state made c ∷ []) [] cells cell)
    ∙ get_or_push (cell_bits inputs state cells) (cell_bit inputs state (cell_bits inputs state cells) cell) false n (length-cell_bits inputs state cells ∙ long)
