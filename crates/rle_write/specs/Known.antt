-- What is known of a column of blocks from a lane on.
use Rattle.std.specs.Prelude.{ℕ, ◌+◌, ◌≡◌, ◌≤◌, ◌<◌, nat_lt, cond, Option, Some, IfSome}
use Rattle.tile_core.specs.declared.kind.Kind.{Kind}
use Rattle.tile_core.specs.declared.kind.Kind.TheVariants.{East}
use Rattle.tiling.specs.Tiling as tiling
use Rattle.tiling.specs.Tiling.Piece.{Tile}
use Rattle.tiling.specs.Tiling.Slot.{Whole, Upper, Lower}
use Rattle.lane_core.specs.declared.instr.Instr.{Instr}
use Rattle.lane_core.specs.Instrs.{lane_of}
use Rattle.plan_layout.specs.declared.slot.Slot.{Slot}
use Rattle.plan_layout.specs.Layout.{body_slot}
use Rattle.plan_layout.specs.Slots.{slot_of}
use Rattle.rle_write.specs.declared.body.Below.{Below}

-- what stands on a lane, if this is the first instruction that does not lie above it
abbrev pub near_slot : ℕ → Instr → tiling.Slot
near_slot lane instr = cond (nat_lt lane (lane_of instr)) (Whole (Tile East)) (body_slot lane (Some instr))

-- From a lane on the same stands on each lane before `until`, and then a tile of the next kind, if
-- there is one.
pub record IsKnownFrom (at : ℕ → tiling.Slot) (lane : ℕ) (slot : Slot) (below : Below) : Type 0 where
  pub until : (l : ℕ) → lane ≤ l → l < below.until → slot_of slot ≡ at l
  pub upper : (kind : Kind) → below.next ≡ Some kind → lane ≤ below.until → Upper (Tile kind) ≡ at below.until
  pub lower : (kind : Kind) → below.next ≡ Some kind → lane ≤ below.until + 1
      → Lower (Tile kind) ≡ at (below.until + 1)

-- a slot stands on the lane, and this is known below it
pub record StandsKnown (at : ℕ → tiling.Slot) (lane : ℕ) (slot : Slot) (below : Below) : Type 0 where
  pub here : slot_of slot ≡ at lane
  pub known : IsKnownFrom at lane slot below

-- whatever column this is known of, the slot that was found stands on the lane
abbrev pub IsKnownOn : ℕ → Slot → Below → Option Slot → Type 0
IsKnownOn lane slot below found =
    (at : ℕ → tiling.Slot) → IsKnownFrom at lane slot below → IfSome found (λ s. StandsKnown at lane s below)

-- the same of this number of lanes at most
pub record IsKnownWithin (lanes : ℕ) (below within : Below) : Type 0 where
  pub until : within.until ≤ below.until
  pub few : within.until ≤ lanes
  pub next : (kind : Kind) → within.next ≡ Some kind
      → (below.next ≡ Some kind) × ((within.until ≡ below.until) × (below.until + 1 < lanes))
