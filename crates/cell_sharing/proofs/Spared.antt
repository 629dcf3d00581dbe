-- Cells that need not be made.
use Rattle.std.proofs.Common.{◌≡◌, refl, sym, ◌∙◌, ap, ap₂, ℕ, Bool, true, false, ◌&&◌, ◌||◌, not, List, length, arith}
use Rattle.std.specs.Prelude.{IsTrue}
use Rattle.std.proofs.lemmas.Bool.{and_parts, or_left, or_right, true≢false}
use Rattle.std.proofs.Math.Bool.{and-false, and-true, and_comm, or-false, or_comm, or_self}
use Rattle.cell_core.specs.declared.cells.Src.{Src}
use Rattle.cell_core.specs.declared.cells.Src.TheVariants.{Input, Latch, One, Zero, Cell as Made}
use Rattle.cell_core.specs.declared.cells.Cell.{Cell}
use Rattle.cell_core.specs.declared.cells.Cell.TheVariants.{Or, Xor, AndNot}
use Rattle.cell_core.specs.declared.list.CellList.{CellList}
use Rattle.cell_core.specs.Sources.{reads_there, is_one, reads_one}
use Rattle.cell_core.specs.Meaning.{source_bit, cell_bit, cell_bits}
use Rattle.cell_sharing.specs.Grown.{Answers}
use Rattle.cell_meaning.specs.Mapped.{IsCell}
use Rattle.cell_sharing.specs.Reduced.{StandsFor, HaveSameBit}
use Rattle.cell_sharing.proofs.Growing.{grows, grows_refl}
use Rattle.cell_sharing.proofs.Sharing.{cell_there, cell_says, cell_not_one}

-- the first operand, the second, constant 0
by_first : (cell : Cell) (a b : Src) → ((n l m : ℕ) → IsTrue (reads_there n l m cell) → IsTrue (reads_there n l m (Or a b))) → ((is_one a || is_one b) ≡ true → reads_one cell ≡ true)
    → ((inputs state made : List Bool) → source_bit inputs state made a ≡ cell_bit inputs state made cell) → StandsFor cell a
by_first cell a b t o e = record { bit = e; there = λ n l m h. (and_parts _ _ (t n l m h)).0; one = λ h. o (or_left (is_one a) (is_one b) h) }

by_second : (cell : Cell) (a b : Src) → ((n l m : ℕ) → IsTrue (reads_there n l m cell) → IsTrue (reads_there n l m (Or a b))) → ((is_one a || is_one b) ≡ true → reads_one cell ≡ true)
    → ((inputs state made : List Bool) → source_bit inputs state made b ≡ cell_bit inputs state made cell) → StandsFor cell b
by_second cell a b t o e = record { bit = e; there = λ n l m h. (and_parts _ _ (t n l m h)).1; one = λ h. o (or_right (is_one a) (is_one b) h) }

by_zero : (cell : Cell) → ((inputs state made : List Bool) → false ≡ cell_bit inputs state made cell) → StandsFor cell Zero
by_zero cell e = record { bit = e; there = λ n l m h. refl; one = λ h. absurd (true≢false (sym h)) }

xor_itself : (x : Bool) → false ≡ ((x || x) && not (x && x))
xor_itself true = refl
xor_itself false = refl

xor_nothing : (x : Bool) → x ≡ ((x || false) && not (x && false))
xor_nothing true = refl
xor_nothing false = refl

and_not_itself : (x : Bool) → false ≡ (x && not x)
and_not_itself true = refl
and_not_itself false = refl

xor_turned : (x y : Bool) → ((x || y) && not (x && y)) ≡ ((y || x) && not (y && x))
xor_turned x y = ap₂ (λ either both. either && not both) (or_comm x y) (and_comm x y)

pub same_or : (a b : Src) → a ≡ b → StandsFor (Or a b) a
same_or a b e = by_first (Or a b) a b (λ n l m h. h) (λ h. h) (λ i s m. sym (or_self (source_bit i s m a)) ∙ ap (λ x. source_bit i s m a || source_bit i s m x) e)

pub or_zero : (a b : Src) → b ≡ Zero → StandsFor (Or a b) a
or_zero a b e = by_first (Or a b) a b (λ n l m h. h) (λ h. h) (λ i s m. sym (or-false (source_bit i s m a)) ∙ ap (λ x. source_bit i s m a || source_bit i s m x) (sym e))

pub zero_or : (a b : Src) → a ≡ Zero → StandsFor (Or a b) b
zero_or a b e = by_second (Or a b) a b (λ n l m h. h) (λ h. h) (λ i s m. ap (λ x. source_bit i s m x || source_bit i s m b) (sym e))

pub same_xor : (a b : Src) → a ≡ b → StandsFor (Xor a b) Zero
same_xor a b e = by_zero (Xor a b) (λ i s m. xor_itself (source_bit i s m a) ∙ ap (λ x. (source_bit i s m a || source_bit i s m x) && not (source_bit i s m a && source_bit i s m x)) e)

pub xor_zero : (a b : Src) → b ≡ Zero → StandsFor (Xor a b) a
xor_zero a b e = by_first (Xor a b) a b (λ n l m h. h) (λ h. h) (λ i s m. xor_nothing (source_bit i s m a) ∙ ap (λ x. (source_bit i s m a || source_bit i s m x) && not (source_bit i s m a && source_bit i s m x)) (sym e))

pub zero_xor : (a b : Src) → a ≡ Zero → StandsFor (Xor a b) b
zero_xor a b e = by_second (Xor a b) a b (λ n l m h. h) (λ h. h) (λ i s m. sym (and-true (source_bit i s m b)) ∙ ap (λ x. (source_bit i s m x || source_bit i s m b) && not (source_bit i s m x && source_bit i s m b)) (sym e))

pub same_and_not : (a b : Src) → a ≡ b → StandsFor (AndNot a b) Zero
same_and_not a b e = by_zero (AndNot a b) (λ i s m. and_not_itself (source_bit i s m a) ∙ ap (λ x. source_bit i s m a && not (source_bit i s m x)) e)

pub and_not_zero : (a b : Src) → b ≡ Zero → StandsFor (AndNot a b) a
and_not_zero a b e = by_first (AndNot a b) a b (λ n l m h. h) (λ h. h) (λ i s m. sym (and-true (source_bit i s m a)) ∙ ap (λ x. source_bit i s m a && not (source_bit i s m x)) (sym e))

pub zero_and_not : (a b : Src) → a ≡ Zero → StandsFor (AndNot a b) Zero
zero_and_not a b e = by_zero (AndNot a b) (λ i s m. ap (λ x. source_bit i s m x && not (source_bit i s m b)) (sym e))

pub and_not_one : (a b : Src) → is_one b ≡ true → StandsFor (AndNot a b) Zero
and_not_one a (Input i) e = absurd (true≢false (sym e))
and_not_one a (Latch i) e = absurd (true≢false (sym e))
and_not_one a One e = by_zero (AndNot a One) (λ i s m. sym (and-false (source_bit i s m a)))
and_not_one a Zero e = absurd (true≢false (sym e))
and_not_one a (Made i) e = absurd (true≢false (sym e))

pub turned_or : (a b : Src) → HaveSameBit (Or b a) (Or a b)
turned_or a b i s m = or_comm (source_bit i s m b) (source_bit i s m a)

pub turned_xor : (a b : Src) → HaveSameBit (Xor b a) (Xor a b)
turned_xor a b i s m = xor_turned (source_bit i s m b) (source_bit i s m a)

-- they answer for the cell
pub stands : (list : CellList) (src : Src) (cell : Cell) → IsTrue (reads_there list.inputs (length list.starts) (length list.cells) cell) → StandsFor cell src
    → Answers list list 1 (reads_one cell ≡ true) src (λ inputs state. cell_bit inputs state (cell_bits inputs state list.cells) cell)
stands list src cell reads s =
    record {
      grows = grows list list list 0 0 1 _ _ _ (grows_refl list (reads_one cell ≡ true)) (grows_refl list (reads_one cell ≡ true)) (λ p. p) (λ p. p) (omega arith);
      there = s.there list.inputs (length list.starts) (length list.cells) reads;
      one = s.one;
      bit = λ inputs state. s.bit inputs state (cell_bits inputs state list.cells);
    }

pub alike : (list : CellList) (src : Src) (cell other : Cell) → IsCell list src other → HaveSameBit other cell
    → Answers list list 1 (reads_one cell ≡ true) src (λ inputs state. cell_bit inputs state (cell_bits inputs state list.cells) cell)
alike list src cell other is same =
    record {
      grows = grows list list list 0 0 1 _ _ _ (grows_refl list (reads_one cell ≡ true)) (grows_refl list (reads_one cell ≡ true)) (λ p. p) (λ p. p) (omega arith);
      there = cell_there list src other is;
      one = λ e. absurd (cell_not_one list src other is e);
      bit = λ inputs state. cell_says list src other is inputs state ∙ same inputs state (cell_bits inputs state list.cells);
    }
