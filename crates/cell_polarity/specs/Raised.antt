-- Sources with their own bits, made of the low ones.
use Rattle.std.specs.Prelude.{ℕ, ◌<◌, ◌+◌, ◌≡◌, ◌⊎◌, cond, Bool, true, false, List, length, get_or, take, map, count_by, slice_get, Contains, Option, Some, None, IfSome}
use Rattle.std.specs.List.{list_any}
use Rattle.lists.specs.Items.{one_if}
use Rattle.cell_core.specs.declared.cells.Src.{Src}
use Rattle.cell_core.specs.declared.cells.Src.TheVariants.{Cell as Made}
use Rattle.cell_core.specs.declared.cells.Cell.{Cell}
use Rattle.cell_core.specs.declared.list.CellList.{CellList}
use Rattle.cell_core.specs.Sources.{reads_one}
use Rattle.cell_core.specs.Meaning.{bit_in, cell_bit, cell_bits}
use Rattle.cell_meaning.specs.Mapped.{IsCell}
use Rattle.cell_meaning.specs.Same.{cell_over, MovesBy}
use Rattle.cell_meaning.specs.Moved.{NewSources, new_source, goes_to, AreMoved}
use Rattle.cell_sharing.specs.Grown.{HasSource, Grows}
use Rattle.cell_polarity.specs.Zero.{zero_bit, complement_if}
use Rattle.cell_polarity.specs.Low.{AreLow}
use Rattle.cell_polarity.specs.Marks.{AreMarked}
use Rattle.cell_polarity.specs.Needed.{needed}

-- why constant 1 may be read: a kept cell reads it, or a wanted one is complemented
abbrev pub Reason : Bool → Bool → Bool → Cell → Type 0
Reason zero wanted kept own =
    ((kept ≡ true) × (reads_one own ≡ true))
    ⊎ ((wanted ≡ true) × (zero ≡ true))

-- The source has the cell's own bit, if there is one. There is one if the cell is kept, or 0 at
-- zero, or wanted; a kept cell stays the cell that it is, over new operands (`own`).
pub record IsRaised (old new : CellList) (low : Src) (zero wanted kept : Bool) (own : Cell)
    (by : Option Src) : Type 0 where
  pub grows : Grows old new (one_if wanted + one_if kept) (Reason zero wanted kept own)
  pub there : IfSome by (HasSource new)
  pub bit : IfSome by (λ src. (inputs state : List Bool) → bit_in new.cells inputs state src
      ≡ cond kept (cell_bit inputs state (cell_bits inputs state old.cells) own)
      (complement_if zero (bit_in old.cells inputs state low)))
  pub is : ((kept ≡ true) ⊎ ((zero ≡ false) ⊎ (wanted ≡ true))) → (src : Src) × (by ≡ Some src)
  pub stays : kept ≡ true → IfSome by (λ src. IsCell new src own)

-- a needed source is 1 at zero
abbrev pub SomeIsOne : CellList → List Src → Type 0
SomeIsOne old kept = list_any (zero_bit old) (needed old kept) ≡ true

-- The first cells have their sources: those that are kept, 0 at zero, or wanted.
pub record AreRaised (old low : CellList) (kept : List Src) (zeros marks stays : List Bool)
    (count : ℕ) (now : CellList) (news : NewSources) : Type 0 where
  pub long : length news ≡ length old.cells
  pub moved : AreMoved old now.cells news
  pub grows : Grows low now (count_by (λ mark. mark) (take count marks)
      + count_by (λ mark. mark) (take count stays)) (SomeIsOne old kept)
  pub have : (i : ℕ) → i < count
      → ((get_or stays i false ≡ true)
      ⊎ ((get_or zeros i false ≡ false) ⊎ (get_or marks i false ≡ true)))
      → (src : Src) × (get_or news i None ≡ Some src)
  pub stay : (i : ℕ) → i < count → get_or stays i false ≡ true → (cell : Cell)
      → slice_get old.cells i ≡ Some cell
      → IsCell now (goes_to news (Made i)) (cell_over (goes_to news) cell)

-- each needed source has a new one, with its bit
pub record HaveOwn (old : CellList) (kept : List Src) (now : CellList)
    (news : NewSources) : Type 0 where
  pub inputs : now.inputs ≡ old.inputs
  pub starts : now.starts ≡ old.starts
  pub moved : AreMoved old now.cells news
  pub own : (src : Src) → Contains (needed old kept) src → new_source news src ≡ Some (goes_to news src)

-- the new list has the same cells, and its ports and kept sources are the new sources
pub record IsPorted (old : CellList) (kept : List Src) (now : CellList) (news : NewSources)
    (new : CellList) (still : List Src) : Type 0 where
  pub cells : new.cells ≡ now.cells
  pub moves : MovesBy old (goes_to news) new
  pub follow : still ≡ map (goes_to news) kept

-- the list has low cells and then high ones, by marks at the needed cells that are 1 at zero and at
-- the kept ones
pub record AreGrown (old : CellList) (kept : List Src) (now : CellList)
    (news : NewSources) : Type 0 where
  pub low : CellList
  pub lows : List Src
  pub zeros : List Bool
  pub marks : List Bool
  pub stays : List Bool
  pub are_low : AreLow old (length old.cells) zeros low lows
  pub are_marked : AreMarked zeros (needed old kept) marks
  pub are_stays : AreMarked (map (λ zero. true) zeros) kept stays
  pub are_raised : AreRaised old low kept zeros marks stays (length old.cells) now news
