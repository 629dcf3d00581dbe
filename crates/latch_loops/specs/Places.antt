-- Where the nets of a program are found among its columns.
use Rattle.std.specs.Prelude.{ℕ, zero, suc, ◌+◌, ◌<◌, ◌≤◌, ◌≡◌, ◌⊎◌, true, false, List, length, take, slice_index_or, Option, Some, None}
use Rattle.lane_core.specs.declared.instr.Instr.{Instr}
use Rattle.lane_core.specs.declared.plan.NetPlace.{NetPlace}
use Rattle.lane_core.specs.Instrs.{is_on}
use Rattle.column_packer.specs.Numbers.{used_by, column_numbers}

-- the last of so many columns, or the start if there is none
abbrev pub last_of : ℕ → Option ℕ
last_of zero = None
last_of (suc c) = Some c

-- the column of the last instruction up to this one that works on the lane, or the start if there
-- is none
abbrev pub column_of_place : List Instr → ℕ → Option ℕ → Option ℕ
column_of_place instrs lane None = None
column_of_place instrs lane (Some n) = last_of (used_by (take (n + 1) instrs) lane)

-- the place of a net in the columns
abbrev pub closed_place : List Instr → NetPlace → NetPlace
closed_place instrs place =
    record { lane = place.lane; after = column_of_place instrs place.lane place.after }

-- Instruction m is the last one, up to number n, that works on the lane.
pub record IsLastUse (instrs : List Instr) (lane n m : ℕ) (d : Instr) : Type 0 where
  pub before : m ≤ n
  pub on : is_on lane (slice_index_or instrs m d) ≡ true
  pub later : (j : ℕ) → m < j → j ≤ n → is_on lane (slice_index_or instrs j d) ≡ false

-- none of the instructions up to number n works on the lane
abbrev pub NoUse : List Instr → ℕ → ℕ → Instr → Type 0
NoUse instrs lane n d = (j : ℕ) → j ≤ n → is_on lane (slice_index_or instrs j d) ≡ false

-- a place is at the column of its lane's last use, or at the start if there is none
abbrev pub PlacesAreLastUses : Type 0
PlacesAreLastUses =
    (instrs : List Instr) (lane n : ℕ) (d : Instr) → n < length instrs
    → ((m : ℕ) × IsLastUse instrs lane n m d
    × (column_of_place instrs lane (Some n) ≡ Some (slice_index_or (column_numbers instrs) m 0)))
    ⊎ (NoUse instrs lane n d × (column_of_place instrs lane (Some n) ≡ None))
