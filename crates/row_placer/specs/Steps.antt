-- What the steps of a placer do to its lanes.
use Rattle.std.specs.Prelude.{ℕ, ◌+◌, ◌-◌, ◌*◌, ◌<◌, ◌≤◌, ◌≡◌, ◌++◌, ◌∷◌, [], length, get_or, set, slice_get, Some}
use Rattle.lane_core.specs.declared.instr.Instr.{Instr}
use Rattle.lane_core.specs.Instrs.{lane_of}
use Rattle.row_placer.specs.declared.roles.Tag.{Tag}
use Rattle.row_placer.specs.declared.job.Job.{Job}
use Rattle.row_placer.specs.declared.job.NumberedCell.{NumberedCell}
use Rattle.row_placer.specs.declared.lanes.Lanes.{Lanes}
use Rattle.row_placer.specs.Told.{tag_on, gate_instr, SameTags, Exchanged, GateExchanged, Rearranged}
use Rattle.row_placer.specs.Ready.{IsGateOf, HoldAllPorts, AreSettled}

-- no gate is made, and the job stays the same
pub record KeepsGates (old new : Lanes) : Type 0 where
  pub made : new.made.items ≡ old.made.items
  pub job : new.job ≡ old.job

-- an instruction is added, after which its two lanes have these tags
pub record DoesInstr (old new : Lanes) (instr : Instr) (upper lower : Tag) : Type 0 where
  pub tags : new.tags.items
      ≡ set (set old.tags.items (lane_of instr) upper) (lane_of instr + 1) lower
  pub instrs : new.instrs.items ≡ old.instrs.items ++ instr ∷ []

-- so many instructions are added, and the number of lanes stays
pub record AddsInstrs (old new : Lanes) (n : ℕ) : Type 0 where
  pub long : length new.tags.items ≡ length old.tags.items
  pub count : length new.instrs.items ≡ length old.instrs.items + n

-- at most so many instructions are added, and the number of lanes stays
pub record AddsAtMost (old new : Lanes) (most : ℕ) : Type 0 where
  pub long : length new.tags.items ≡ length old.tags.items
  pub count : length new.instrs.items ≤ length old.instrs.items + most

-- each lane gets the tag of the lane that `from` names, by so many instructions
pub record MovesTags (old new : Lanes) (from : ℕ → ℕ) (n : ℕ) : Type 0 where
  pub lanes : Rearranged old.tags.items new.tags.items from
  pub same : SameTags old.tags.items new.tags.items
  pub long : length new.tags.items ≡ length old.tags.items
  pub count : length new.instrs.items ≡ length old.instrs.items + n

-- two lanes come side by side between them, the upper one to `at`
pub record MeetsAt (old new : Lanes) (upper lower at : ℕ) : Type 0 where
  pub low : upper ≤ at
  pub high : at < lower
  pub first : tag_on new.tags.items at ≡ tag_on old.tags.items upper
  pub second : tag_on new.tags.items (at + 1) ≡ tag_on old.tags.items lower
  pub same : SameTags old.tags.items new.tags.items
  pub adds : AddsInstrs old new (lower - upper - 1)

-- the lane `at` and the next one get the tag of the lane `from`, and one lane with the tag `over`
-- is given up for it
pub record CopiesTag (old new : Lanes) (from at : ℕ) (over : Tag) : Type 0 where
  pub upper : tag_on new.tags.items at ≡ tag_on old.tags.items from
  pub lower : tag_on new.tags.items (at + 1) ≡ tag_on old.tags.items from
  pub exchanged : Exchanged old.tags.items new.tags.items over (tag_on old.tags.items from)

-- the value that the next gate makes
abbrev pub next_value : Lanes → ℕ
next_value lanes = lanes.job.base + length lanes.made.items

-- the gate that is made next
pub record IsNextGate (lanes : Lanes) (gate : NumberedCell) : Type 0 where
  pub within : length lanes.made.items < length lanes.job.gates
  pub known : IsGateOf lanes.job (length lanes.made.items) gate

-- the last instruction is that of the next gate, on this lane
abbrev pub EndsWithNextGate : Lanes → ℕ → Type 0
EndsWithNextGate lanes lane =
    (gate : NumberedCell) → slice_get lanes.instrs.items (length lanes.instrs.items - 1) ≡ Some
    (gate_instr (get_or lanes.job.gates (length lanes.made.items) gate).kind lane)

-- the next gate is made: a lane with each operand is given up for its value and a free lane
pub record MakesGate (old new : Lanes) (gate : NumberedCell) : Type 0 where
  pub exchanged : GateExchanged old.tags.items new.tags.items gate (next_value old)
  pub made : length new.made.items ≡ length old.made.items + 1

-- the lanes are as the job begins: nothing is placed
pub record PlacesNothing (lanes : Lanes) : Type 0 where
  pub tags : lanes.tags.items ≡ lanes.job.start
  pub instrs : length lanes.instrs.items ≡ 0
  pub made : length lanes.made.items ≡ 0

-- the lanes place all that a job asks for, by at most so many instructions: its gates, its ports,
-- and the loops among these on the lowest lanes
pub record PlacesJob (job : Job) (loops : ℕ) (lanes : Lanes) : Type 0 where
  pub job_is : lanes.job ≡ job
  pub long : length lanes.tags.items ≡ length job.start
  pub made : length lanes.made.items ≡ length job.gates
  pub held : HoldAllPorts job lanes.tags.items
  pub settled : AreSettled job loops lanes.tags.items
  pub count : length lanes.instrs.items
      ≤ length job.gates *
      (3 * length job.start) + length job.ports * length job.start + loops * length job.start
