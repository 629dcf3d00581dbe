-- Marks of the words of a plane that may change: a byte for each word, and a list of the marked words.
use Rattle.std.specs.Prelude.{ℕ, ◌<◌, ◌≤◌, ◌≡◌, ◌≢◌, ◌⊎◌, Bool, true, false, List, length, get_or}
use Rattle.std.specs.Int.RustNames.{bit_and}
use Rattle.lane_kernel.specs.declared.free_cells.Free.{Free}
use Rattle.lane_kernel.specs.Around.{Way, beside, near_heads, free_of, next_word, StepsAlone, IsInner}
use Rattle.lane_kernel.specs.Around.Way.{north, south, west, east, north_west, north_east, south_west, south_east}

-- the mark of a word whose next heads need no other word, and below, of one whose next heads need
-- the words around it
abbrev pub lit_mark : ℕ
lit_mark = 1

abbrev pub beside_mark : ℕ
beside_mark = 2

-- a number stands in a list, from one place up to another
pub record IsAmong (list : List ℕ) (from to i : ℕ) : Type 0 where
  pub place : ℕ
  pub first : from ≤ place
  pub last : place < to
  pub is : get_or list place 0 ≡ i

-- The first `many` numbers of a list are places of inner words. Unless the list is full, each word
-- with a mark is among them.
pub record AreListed (stride : ℕ) (bytes list : List ℕ) (many : ℕ) : Type 0 where
  pub within : many ≤ length list
  pub inner : (k : ℕ) → k < many → IsInner stride (length bytes) (get_or list k 0)
  pub each : many < length list → (i : ℕ) → get_or bytes i 0 ≢ 0 → IsAmong list 0 many i

-- What the bytes promise. A word whose byte is 0 has no cells, or neither a head nor a tail. A word
-- whose byte is less than the mark 'beside' steps alone.
pub record IsMarked (stride : ℕ) (heads tails cells bytes : List ℕ) : Type 0 where
  pub dark : (i : ℕ) → get_or bytes i 0 ≡ 0
      → (get_or cells i 0 ≡ 0) ⊎ ((get_or heads i 0 ≡ 0) × (get_or tails i 0 ≡ 0))
  pub calm : (i : ℕ) → get_or bytes i 0 < beside_mark → StepsAlone stride heads tails cells i

-- all marks are cleared
abbrev pub AreCleared : List ℕ → Type 0
AreCleared bytes = (i : ℕ) → get_or bytes i 0 ≡ 0

-- the way back
abbrev pub opposite : Way → Way
opposite north = south
opposite south = north
opposite west = east
opposite east = west
opposite north_west = south_east
opposite north_east = south_west
opposite south_west = north_east
opposite south_east = north_west

-- word i has the mark 'beside', or none of its free cells is among those that lie beside heads
abbrev pub IsTold : (near : ℕ) (tails cells bytes : List ℕ) → ℕ → Type 0
IsTold near tails cells bytes i =
    (beside_mark ≤ get_or bytes i 0)
    ⊎ (bit_and near (free_of (get_or cells i 0) (get_or tails i 0)) ≡ 0)

-- the words beside word i, by these heads of word i; and below, those to the west and to the east
abbrev pub AreTold : (free : Free) (heads i : ℕ) (bytes : List ℕ) → Type 0
AreTold free heads i bytes =
    (way : Way) → IsTold (near_heads (opposite way) heads) free.tails.now free.cells.now bytes
    (beside free.stride way i)

abbrev pub is_across : Way → Bool
is_across north = false
is_across south = false
is_across way = true

abbrev pub AreToldAcross : (free : Free) (heads i : ℕ) (bytes : List ℕ) → Type 0
AreToldAcross free heads i bytes =
    (way : Way) → is_across way ≡ true
    → IsTold (near_heads (opposite way) heads) free.tails.now free.cells.now bytes
    (beside free.stride way i)

-- marks are only added
abbrev pub AreMore : (old new : List ℕ) → Type 0
AreMore old new = (i : ℕ) → get_or old i 0 ≤ get_or new i 0

-- the bits of a plane are set only where there are cells
abbrev pub AreOn : (cells words : List ℕ) → Type 0
AreOn cells words = (i : ℕ) → bit_and (get_or cells i 0) (get_or words i 0) ≡ get_or words i 0

-- a plane has as many words of tails, and as many marks of each generation, as words of cells
pub record AreAsLong (cells tails bytes soon : List ℕ) : Type 0 where
  pub long_tails : length tails ≡ length cells
  pub long_bytes : length bytes ≡ length cells
  pub long_soon : length soon ≡ length cells

-- the heads of word i one generation later, where `coming` has the heads as tails
abbrev pub coming_word : (coming : Free) (old_tails : List ℕ) → ℕ → ℕ
coming_word coming old_tails i =
    next_word coming.stride coming.tails.now old_tails coming.cells.now i

-- Within a generation, before an entry of the list. A word whose byte is not 0 still has its old
-- tails, and stands in the list from there on. In the others the new heads have taken the tails'
-- place, and `soon` says of them what `IsMarked` says of all words.
pub record IsUnderWay (coming : Free) (old_tails entries : List ℕ) (entry : ℕ)
    (tails bytes soon : List ℕ) : Type 0 where
  pub old : (i : ℕ) → get_or bytes i 0 ≢ 0 → get_or tails i 0 ≡ get_or old_tails i 0
  pub calm : (i : ℕ) → get_or bytes i 0 ≡ lit_mark
      → StepsAlone coming.stride coming.tails.now old_tails coming.cells.now i
  pub left : (i : ℕ) → get_or bytes i 0 ≢ 0 → IsAmong entries entry (length entries) i
  pub done : (i : ℕ) → get_or bytes i 0 ≡ 0 → get_or tails i 0 ≡ coming_word coming old_tails i
  pub dark : (i : ℕ) → get_or bytes i 0 ≡ 0 → get_or soon i 0 ≡ 0
      → (get_or coming.cells.now i 0 ≡ 0)
      ⊎ ((coming_word coming old_tails i ≡ 0) × (get_or coming.tails.now i 0 ≡ 0))
  pub told : (i : ℕ) → get_or bytes i 0 ≡ 0
      → AreTold coming (coming_word coming old_tails i) i soon
