-- The low cells of a list: what stands for its first cells, and how it is made.
use Rattle.std.specs.Prelude.{ℕ, ◌≤◌, ◌<◌, ◌≡◌, ◌&&◌, ◌||◌, not, cond, Bool, false, List, [], length, get_or, sum_by, take}
use Rattle.cell_core.specs.declared.cells.Src.{Src}
use Rattle.cell_core.specs.declared.cells.Src.TheVariants.{Input, Latch, One, Zero, Cell as Made}
use Rattle.cell_core.specs.declared.cells.Cell.{Cell}
use Rattle.cell_core.specs.declared.cells.Cell.TheVariants.{Or, Xor, AndNot}
use Rattle.cell_core.specs.declared.list.CellList.{CellList}
use Rattle.cell_core.specs.Sources.{is_one, read_one}
use Rattle.cell_core.specs.Meaning.{source_bit, bit_in}
use Rattle.cell_sharing.specs.Grown.{HasSource, Answers}
use Rattle.cell_polarity.specs.Zero.{zero_bit, complement_if, cells_for}
use Rattle.cell_polarity.specs.Complements.{StandsLow}

-- the source that stands for a source, if these stand for the cells
abbrev pub low_of : List Src → Src → Src
low_of lows (Input i) = Input i
low_of lows (Latch i) = Latch i
low_of lows One = Zero
low_of lows Zero = Zero
low_of lows (Made i) = get_or lows i Zero

-- the bit of a source at zero, if the cells have these bits at zero
abbrev pub zero_in : List Bool → Src → Bool
zero_in zeros src = source_bit [] [] zeros src

-- a source that a low cell may read
abbrev pub IsLowSource : CellList → Src → Type 0
IsLowSource list src = HasSource list src × (is_one src ≡ false)

-- both sources that stand for the operands of the cell may be read
abbrev pub ReadLow : CellList → List Src → Cell → Type 0
ReadLow list lows (Or a b) = IsLowSource list (low_of lows a) × IsLowSource list (low_of lows b)
ReadLow list lows (Xor a b) = IsLowSource list (low_of lows a) × IsLowSource list (low_of lows b)
ReadLow list lows (AndNot a b) = IsLowSource list (low_of lows a) × IsLowSource list (low_of lows b)

-- the bit of the operand itself
abbrev pub own_bit : Bool → Src → List Cell → List Bool → List Bool → Bool
own_bit one low cells inputs state = complement_if one (bit_in cells inputs state low)

-- the wanted bits of the low source for an OR, an XOR and an AND-NOT of two operands, the first of
-- which is 1 at zero if `p`, and the second if `q`
abbrev pub low_or : Bool → Bool → Src → Src → List Cell → List Bool → List Bool → Bool
low_or p q a b cells inputs state =
    complement_if (p || q) (own_bit p a cells inputs state || own_bit q b cells inputs state)

abbrev pub xor_bit : Bool → Bool → Bool
xor_bit p q = (p || q) && not (p && q)

abbrev pub low_xor : Bool → Bool → Src → Src → List Cell → List Bool → List Bool → Bool
low_xor p q a b cells inputs state =
    complement_if (xor_bit p q) (xor_bit (own_bit p a cells inputs state) (own_bit q b cells inputs state))

abbrev pub low_and_not : Bool → Bool → Src → Src → List Cell → List Bool → List Bool → Bool
low_and_not p q a b cells inputs state =
    complement_if (p && not q) (own_bit p a cells inputs state && not (own_bit q b cells inputs state))

-- the list has more cells, at most so many and none of which reads constant 1, and a source with
-- the wanted bits, which is not constant 1
abbrev pub AnswersLow : CellList → CellList → ℕ → Src → (List Bool → List Bool → Bool) → Type 0
AnswersLow old new count src wanted = Answers old new count ⊥ src wanted

-- the bits that the low source for a cell must have
abbrev pub low_bit : List Bool → List Src → Cell → List Cell → List Bool → List Bool → Bool
low_bit zeros lows (Or a b) =
    low_or (zero_in zeros a) (zero_in zeros b) (low_of lows a) (low_of lows b)
low_bit zeros lows (Xor a b) =
    low_xor (zero_in zeros a) (zero_in zeros b) (low_of lows a) (low_of lows b)
low_bit zeros lows (AndNot a b) =
    low_and_not (zero_in zeros a) (zero_in zeros b) (low_of lows a) (low_of lows b)

-- `cells_for`, if the cells have these bits at zero
abbrev pub cells_in : List Bool → Cell → ℕ
cells_in zeros (Or a b) = cond (zero_in zeros a && zero_in zeros b) 2 1
cells_in zeros (Xor a b) = 1
cells_in zeros (AndNot a b) = cond (not (zero_in zeros a) && zero_in zeros b) 2 1

-- the source stands for the other, and is not constant 1
pub record IsLow (old now : CellList) (src by : Src) : Type 0 where
  pub stands : StandsLow old now.cells src by
  pub other : is_one by ≡ false

-- these are the bits at zero of the first cells, and the sources that stand for them
pub record AreLow (old : CellList) (count : ℕ) (zeros : List Bool) (now : CellList)
    (lows : List Src) : Type 0 where
  pub zeros_long : length zeros ≡ count
  pub long : length lows ≡ count
  pub inputs : now.inputs ≡ old.inputs
  pub starts : now.starts ≡ old.starts
  pub zero_bits : (i : ℕ) → i < count → get_or zeros i false ≡ zero_bit old (Made i)
  pub each : (i : ℕ) → i < count → IsLow old now (Made i) (get_or lows i Zero)
  pub without_one : read_one now.cells ≡ false
  pub few : length now.cells ≤ sum_by (cells_for old) (take count old.cells)
