-- The blocks of a lane that are kept for its rows of cells, and what stands west of them.
use Rattle.std.specs.Prelude.{ℕ, zero, suc, Bool, List, [], ◌<◌, ◌≤◌, ◌≡◌, ◌⊎◌, ◌+◌, ◌*◌, ◌++◌, IsTrue, None, length, get_or, map}
use Rattle.lane_core.specs.declared.plan.Plan.{Plan}
use Rattle.plan_layout.specs.declared.slot.Slot.TheVariants.{Nothing}
use Rattle.plan_layout.specs.Slots.{slot_of}
use Rattle.plan_layout.specs.Tape.{drawn_tiling}
use Rattle.pattern_writing.specs.Writer.{tag_of}
use Rattle.grid_assembly.specs.declared.west.West.{West}
use Rattle.grid_assembly.specs.West.{tape_end, IsWest}
use Rattle.rle_write.specs.declared.blocks.Stretch.{Stretch}
use Rattle.rle_write.specs.Dark.{bare_row}
use Rattle.rle_write.specs.Known.{IsKnownFrom}

-- from the k-th block of a lane eastward so many blocks stand again and again, up to a reach that
-- lies within the first `size` ones
pub record IsMotif (plan : Plan) (lane size k motif reach : ℕ) : Type 0 where
  pub some : 1 ≤ motif
  pub few : motif ≤ 4
  pub once : motif ≤ reach
  pub within : k + reach ≤ size
  pub again : (i : ℕ) → i + motif < reach → drawn_tiling plan (k + i + motif) lane ≡ drawn_tiling plan (k + i) lane

-- from the k-th block of a lane eastward the same stands in a number of blocks, within the first
-- `size` ones, and a motif; what is known of the blocks below it holds
pub record IsStretch (plan : Plan) (lane size k : ℕ) (stretch : Stretch) : Type 0 where
  pub some : 1 ≤ stretch.count
  pub within : k + stretch.count ≤ size
  pub alike : (i : ℕ) → i < stretch.count → slot_of stretch.slot ≡ drawn_tiling plan (k + i) lane
  pub repeats : IsMotif plan lane size k stretch.motif stretch.reach
  pub below : IsKnownFrom (drawn_tiling plan k) lane stretch.slot stretch.below

-- the motif of a block and its reach, by those east of it: a motif of this block alone, or one that
-- is longer by this block, or the same motif, which goes on
abbrev pub IsNextMotif : Stretch → Bool → (ℕ × ℕ) → Type 0
IsNextMotif east goes_on next =
    (next ≡ (1, 1))
    ⊎ (((next ≡ (east.motif + 1, east.motif + 1)) × ((east.reach ≡ east.motif) × (east.motif < 4)))
    ⊎ (IsTrue goes_on × ((next.0 ≡ east.motif) × ((east.reach ≤ next.1) × (next.1 ≤ east.reach + 1)))))

-- no stretch, in place of one that is not kept
abbrev pub no_stretch : Stretch
no_stretch = record { slot = Nothing; motif = 0; count = 0; reach = 0; below = record { above = 0; until = 0; next = None } }

-- the kept stretches are those of the first blocks of a lane of the drawing, from this block on
abbrev pub AreBlocksFrom : Plan → (lane first : ℕ) → List Stretch → Type 0
AreBlocksFrom plan lane first blocks =
    (k : ℕ) → first ≤ k → k < length blocks
    → IsStretch plan lane (length blocks) k (get_or blocks k no_stretch)

-- and so they are from the first block on
abbrev pub AreBlocks : Plan → ℕ → List Stretch → Type 0
AreBlocks plan lane blocks = AreBlocksFrom plan lane 0 blocks

-- what is known of the blocks below the kept ones holds on this lane, and on those below it
abbrev pub AreKnownBelow : Plan → ℕ → List Stretch → Type 0
AreKnownBelow plan lane blocks =
    (k : ℕ) → k < length blocks
    → IsKnownFrom (drawn_tiling plan k) lane (get_or blocks k no_stretch).slot (get_or blocks k no_stretch).below

-- from the k-th block of a lane eastward a number of blocks, at most four, stands so often
pub record IsFigure (plan : Plan) (lane size k figure often : ℕ) : Type 0 where
  pub some : 1 ≤ figure
  pub few : figure ≤ 4
  pub once : 1 ≤ often
  pub within : k + figure * often ≤ size
  pub again : (i : ℕ) → i + figure < figure * often → drawn_tiling plan (k + i + figure) lane ≡ drawn_tiling plan (k + i) lane

-- the tags of row y of so many of the kept blocks from this column on
abbrev pub tags_of_blocks : List Stretch → (column count y : ℕ) → List ℕ
tags_of_blocks blocks column zero y = []
tags_of_blocks blocks column (suc n) y =
    tags_of_blocks blocks column n y ++ map tag_of (bare_row (slot_of (get_or blocks (column + n) no_stretch).slot) y)

-- what row y has up to this x, where no block of its lane is looked up
pub record IsWestUpTo (plan : Plan) (y end : ℕ) (west : West) : Type 0 where
  pub ends : end ≡ tape_end plan
  pub row : IsWest plan y west
