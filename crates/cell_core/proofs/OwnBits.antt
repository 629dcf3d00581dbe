-- What a cell of a list makes.
use Rattle.std.proofs.Common.{◌≡◌, sym, ◌∙◌, ap, ap₂, ℕ, zero, suc, ◌+◌, ◌<◌, Bool, true, ◌&&◌, ◌||◌, not, List, [], ◌∷◌, ◌++◌, take, drop, length, get_or, arith}
use Rattle.std.proofs.lemmas.Bool.{and_parts, lt-ltb}
use Rattle.std.proofs.lemmas.List.{take_more, take-append-drop, length-take-le}
use Rattle.cell_core.specs.declared.cells.Src.TheVariants.{Cell as Made}
use Rattle.cell_core.specs.declared.cells.Cell.{Cell}
use Rattle.cell_core.specs.declared.cells.Cell.TheVariants.{Or, Xor, AndNot}
use Rattle.cell_core.specs.declared.list.CellList.{CellList}
use Rattle.cell_core.specs.Sources.{reads_there, are_in_order}
use Rattle.cell_core.specs.Meaning.{cell_bit, cell_bits, bit_in}
use Rattle.cell_core.proofs.Bits.{appending_keeps_bits, pushed_bit}

-- a cell in order reads what is there before it
pub cell_in_order : (inputs latches made : ℕ) (cells : List Cell) (i : ℕ) (d : Cell) → i < length cells → are_in_order inputs latches made cells ≡ true
    → reads_there inputs latches (made + i) (get_or cells i d) ≡ true
cell_in_order inputs latches made [] i d within order = absurd (omega arith)
cell_in_order inputs latches made (cell ∷ cells) zero d within order =
    ap (λ n. reads_there inputs latches n cell) (let e : made + 0 ≡ made = omega arith in e) ∙ (and_parts _ _ order).0
cell_in_order inputs latches made (cell ∷ cells) (suc i) d within order =
    ap (λ n. reads_there inputs latches n (get_or cells i d)) (let e : made + suc i ≡ suc made + i = omega arith in e)
    ∙ cell_in_order inputs latches (suc made) cells i d (omega arith) (and_parts _ _ order).1

-- a cell that reads only the first cells has its bit by them
pub cell_kept : (inputs state : List Bool) (cells more : List Cell) (count latches : ℕ) (cell : Cell) → reads_there count latches (length cells) cell ≡ true
    → cell_bit inputs state (cell_bits inputs state (cells ++ more)) cell ≡ cell_bit inputs state (cell_bits inputs state cells) cell
cell_kept inputs state cells more count latches (Or a b) there =
    ap₂ (λ x y. x || y) (appending_keeps_bits cells more inputs state latches count a (and_parts _ _ there).0) (appending_keeps_bits cells more inputs state latches count b (and_parts _ _ there).1)
cell_kept inputs state cells more count latches (Xor a b) there =
    ap₂ (λ x y. (x || y) && not (x && y)) (appending_keeps_bits cells more inputs state latches count a (and_parts _ _ there).0) (appending_keeps_bits cells more inputs state latches count b (and_parts _ _ there).1)
cell_kept inputs state cells more count latches (AndNot a b) there =
    ap₂ (λ x y. x && not y) (appending_keeps_bits cells more inputs state latches count a (and_parts _ _ there).0) (appending_keeps_bits cells more inputs state latches count b (and_parts _ _ there).1)

-- the bit of a cell of a list is what the cell makes of the list's bits
pub bit_of_cell : (list : CellList) (k : ℕ) (d : Cell) (inputs state : List Bool) → k < length list.cells
    → bit_in list.cells inputs state (Made k) ≡ cell_bit inputs state (cell_bits inputs state list.cells) (get_or list.cells k d)
bit_of_cell list k d inputs state within =
    let cells = list.cells in
    let cell = get_or cells k d in
    let front = take k cells in
    let long : length front ≡ k = length-take-le k cells (omega arith) in
    let long' : length (take (k + 1) cells) ≡ k + 1 = length-take-le (k + 1) cells (omega arith) in
    let e : 0 + k ≡ length front = omega arith in
    let reads : reads_there list.inputs (length list.starts) (length front) cell ≡ true =
    ap (λ n. reads_there list.inputs (length list.starts) n cell) (sym e) ∙ cell_in_order list.inputs (length list.starts) 0 cells k d within list.in_order in
    let whole : (n : ℕ) → take n cells ++ drop n cells ≡ cells = λ n. take-append-drop n cells in
    ap (λ c. bit_in c inputs state (Made k)) (sym (whole (k + 1)))
    ∙ appending_keeps_bits (take (k + 1) cells) (drop (k + 1) cells) inputs state 0 0 (Made k) (lt-ltb k (length (take (k + 1) cells)) (omega arith))
    ∙ ap (λ c. bit_in c inputs state (Made k)) (take_more cells k d within)
    ∙ pushed_bit inputs state front cell k long
    ∙ sym (cell_kept inputs state front (drop k cells) list.inputs (length list.starts) cell reads)
    ∙ ap (λ c. cell_bit inputs state (cell_bits inputs state c) cell) (whole k)
