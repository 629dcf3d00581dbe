-- Bits that are due, each at a generation, in the order of the generations.
use Rattle.std.specs.Prelude.{◌≡◌, ◌≢◌, ◌≤◌, ◌<◌, ◌⊎◌, ⊤, ℕ, pos, ◌+◌, ◌*◌, nat_le, nat_lt, Bool, true, false, if◌then◌else◌, List, [], ◌∷◌, All, Contains}
use Rattle.ww_rule.specs.Wireworld.{Plane, is_head}
use Rattle.vcd_write.specs.declared.due_bits.DueBit.{DueBit}
use Rattle.vcd_write.specs.declared.due_bits.DueBits.{DueBits}
use Rattle.vcd_write.specs.declared.due_bits.Raster.{Raster}

-- the bits stand in the order of their generations, from g on
abbrev pub AreDueFrom : ℕ → List DueBit → Type 0
AreDueFrom g [] = ⊤
AreDueFrom g (bit ∷ bits) = (g ≤ bit.generation) × AreDueFrom bit.generation bits

-- There is a first bit, and it comes no later than the first of the others, if there are others.
abbrev pub comes_first : List DueBit → List DueBit → Bool
comes_first [] others = false
comes_first (bit ∷ bits) [] = true
comes_first (bit ∷ bits) (other ∷ others) = nat_le bit.generation other.generation

-- Both queues are in order from a generation on, and the bits of variables that have begun come
-- within a period.
pub record AreInOrder (g period : ℕ) (due : DueBits) : Type 0 where
  pub unbegun : AreDueFrom g due.unbegun.items
  pub begun : AreDueFrom g due.begun.items
  pub near : All (λ bit. bit.generation ≤ g + period) due.begun.items

-- The bit was the first of one of the queues, and was taken from it.
abbrev pub IsTakenFrom : DueBit → DueBits → DueBits → Type 0
IsTakenFrom bit old new =
    ((old.unbegun.items ≡ bit ∷ new.unbegun.items) × (old.begun.items ≡ new.begun.items))
    ⊎ ((old.unbegun.items ≡ new.unbegun.items) × (old.begun.items ≡ bit ∷ new.begun.items))

-- the next bit of the same variable, if there is one
abbrev pub next_bit : Raster → DueBit → List DueBit
next_bit raster bit =
    if nat_lt (bit.place + raster.variables) raster.bits
    then record {
      generation = bit.generation + raster.period;
      place = bit.place + raster.variables;
      x = bit.x;
      y = bit.y;
    } ∷ []
    else []

-- The place is one of the raster, and the bit and the later bits of its variable come up to the
-- raster's last generation.
pub record IsWithin (raster : Raster) (bit : DueBit) : Type 0 where
  pub some : raster.variables ≢ 0
  pub place : bit.place < raster.bits
  pub early : (j : ℕ) → bit.place + j * raster.variables < raster.bits
      → bit.generation + j * raster.period ≤ raster.last

-- The bits are those that planes show at the cell of a bit that is due: its own at its generation,
-- and each later one of its variable a period later.
abbrev pub ShowsDueBits : (shown : ℕ → Bool) → (ℕ → Plane) → Raster → DueBit → Type 0
ShowsDueBits shown planes raster bit =
    (j : ℕ) → bit.place + j * raster.variables < raster.bits
    → shown (bit.place + j * raster.variables)
    ≡ is_head (planes (bit.generation + j * raster.period) (pos bit.x) (pos bit.y))

-- the place is that of one of these bits, or of a later one of the same variable
pub record IsStillDue (raster : Raster) (due : List DueBit) (place : ℕ) : Type 0 where
  pub bit : DueBit
  pub is_there : Contains due bit
  pub cycles : ℕ
  pub is_later : place ≡ bit.place + cycles * raster.variables

-- These bits are due at first: planes show each of them and the later bits of its variable, and
-- each place of the raster is that of one of these bits or of a later one of its variable.
pub record AreFirstBits (shown : ℕ → Bool) (planes : ℕ → Plane) (raster : Raster)
    (due : List DueBit) : Type 0 where
  pub each : All (ShowsDueBits shown planes raster) due
  pub all : (place : ℕ) → place < raster.bits → IsStillDue raster due place
