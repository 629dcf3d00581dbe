-- What tags tell about bits.
use Rattle.std.specs.Prelude.{ℕ, ◌+◌, ◌<◌, ◌≡◌, ◌==◌, Bool, ◌&&◌, ◌||◌, not, cond, List, length, get_or, slice_get, Option, Some, option_and_then, count_by}
use Rattle.lane_core.specs.declared.instr.Instr.{Instr}
use Rattle.lane_core.specs.declared.instr.Instr.TheVariants as instrs
use Rattle.lane_core.specs.declared.plan.NetPlace.{NetPlace}
use Rattle.lane_core.specs.Entering.{bits_after}
use Rattle.lane_core.specs.Instrs.{after_instrs, bit_on, lane_of, upper_bit, lower_bit}
use Rattle.row_placer.specs.declared.job.CellKind.{CellKind}
use Rattle.row_placer.specs.declared.job.CellKind.TheVariants.{Or, Xor, AndNot}
use Rattle.row_placer.specs.declared.job.NumberedCell.{NumberedCell}
use Rattle.row_placer.specs.declared.roles.Role.{Role}
use Rattle.row_placer.specs.declared.roles.Role.TheVariants.{Free, Kept, First, Second, Port}
use Rattle.row_placer.specs.declared.roles.Tag.{Tag}
use Rattle.row_placer.specs.declared.job.Job.{Job}

-- a number for each role, by which roles are compared
abbrev pub role_code : Role → ℕ
role_code Free = 0
role_code Kept = 1
role_code First = 2
role_code Second = 3
role_code (Port i) = 4 + i

abbrev pub tag : ℕ → Role → Tag
tag value role = record { value = value; role = role }

abbrev pub free_tag : Tag
free_tag = record { value = 0; role = Free }

-- the tag on a lane
abbrev pub tag_on : List Tag → ℕ → Tag
tag_on tags lane = get_or tags lane free_tag

-- the tag that goes when a kept value is used: its own at the last use, and else that of a free
-- lane
abbrev pub taken_tag : ℕ → Bool → Tag
taken_tag value last = cond last (tag value Kept) free_tag

-- a bit fits a tag: it is that of the value, and on a free lane any bit does
abbrev pub FitsTag : (ℕ → Bool) → Tag → Bool → Type 0
FitsTag bit t b = 0 < role_code t.role → b ≡ bit t.value

abbrev pub HoldsTags : (ℕ → Bool) → List Tag → List Bool → Type 0
HoldsTags bit tags bits = (lane : ℕ) → FitsTag bit (get_or tags lane free_tag) (bit_on bits lane)

abbrev pub is_tag : ℕ → Role → Tag → Bool
is_tag value role t = (role_code t.role == role_code role) && (t.value == value)

abbrev pub gate_bit : CellKind → Bool → Bool → Bool
gate_bit Or a b = a || b
gate_bit Xor a b = (a || b) && not (a && b)
gate_bit AndNot a b = a && not b

-- the bits of values agree with the gates that make them
abbrev pub Agrees : Job → (ℕ → Bool) → Type 0
Agrees job bit =
    (g : ℕ) (d : NumberedCell) → g < length job.gates
    → bit (job.base + g) ≡ gate_bit (get_or job.gates g d).kind (bit (get_or job.gates g d).first)
    (bit (get_or job.gates g d).second)

-- the instruction of a gate
abbrev pub gate_instr : CellKind → ℕ → Instr
gate_instr Or lane = instrs.Or lane
gate_instr Xor lane = instrs.Xor lane
gate_instr AndNot lane = instrs.AndNot lane

-- whatever bits the values have, if they agree with the gates and the lanes begin with the bits of
-- their tags, the tags tell the bits after the instructions
abbrev pub Told : Job → List Tag → List Instr → Type 0
Told job tags instrs =
    (bit : ℕ → Bool) → Agrees job bit → (bits : List Bool) → length bits ≡ length job.start
    → HoldsTags bit job.start bits → HoldsTags bit tags (after_instrs instrs bits)

-- whatever bits the values have, if they agree with the gates and the lanes begin with the bits of
-- their tags, the places of the gates that are made have their values
abbrev pub MadeTold : Job → List Instr → List NetPlace → Type 0
MadeTold job instrs made =
    (bit : ℕ → Bool) → Agrees job bit → (bits : List Bool) → length bits ≡ length job.start
    → HoldsTags bit job.start bits
    → (g : ℕ) (d : NetPlace) → g < length made
    → bit_on (bits_after after_instrs instrs (get_or made g d).after bits) (get_or made g d).lane
    ≡ bit (job.base + g)

-- the instruction after which a place is found
abbrev pub instr_at : List Instr → Option ℕ → Option Instr
instr_at instrs after = option_and_then (slice_get instrs) after

-- the place of each gate that is made is on the lane and after the instruction of that gate
abbrev pub IsGateAt : List Instr → CellKind → NetPlace → Type 0
IsGateAt instrs kind place = instr_at instrs place.after ≡ Some (gate_instr kind place.lane)

abbrev pub MadeAt : Job → List Instr → List NetPlace → Type 0
MadeAt job instrs made =
    (g : ℕ) (gate : NumberedCell) (place : NetPlace) → g < length made
    → IsGateAt instrs (get_or job.gates g gate).kind (get_or made g place)

-- the instruction puts bits that fit these tags on its two lanes
abbrev pub PutsTags : Job → List Tag → Instr → Tag → Tag → Type 0
PutsTags job tags instr upper lower =
    (bit : ℕ → Bool) → Agrees job bit → (a b : Bool)
    → FitsTag bit (get_or tags (lane_of instr) free_tag) a
    → FitsTag bit (get_or tags (lane_of instr + 1) free_tag) b
    → FitsTag bit upper (upper_bit instr a b) × FitsTag bit lower (lower_bit instr a b)

-- how many lanes have this tag
abbrev pub count : ℕ → Role → List Tag → ℕ
count value role tags = count_by (is_tag value role) tags

abbrev pub SameTags : List Tag → List Tag → Type 0
SameTags old new = (p : Tag → Bool) → count_by p new ≡ count_by p old

-- one lane with the tag `gone` now has the tag `come`, as far as the counts of tags show
abbrev pub Exchanged : List Tag → List Tag → Tag → Tag → Type 0
Exchanged old new gone come =
    (p : Tag → Bool) → count_by p new + cond (p gone) 1 0 ≡ count_by p old + cond (p come) 1 0

-- two lanes have exchanged their tags for others, as far as the counts of tags show
abbrev pub BothExchanged : List Tag → List Tag → Tag → Tag → Tag → Tag → Type 0
BothExchanged old new gone gone' come come' =
    (p : Tag → Bool) → count_by p new + (cond (p gone) 1 0 + cond (p gone') 1 0) ≡ count_by p old +
    (cond (p come) 1 0 + cond (p come') 1 0)

-- a gate's operands have been exchanged for its value and a free lane
abbrev pub GateExchanged : List Tag → List Tag → NumberedCell → ℕ → Type 0
GateExchanged old new gate value =
    BothExchanged old new (tag gate.first First) (tag gate.second Second) (tag value Kept) free_tag

-- each lane has the tag that the lane `from lane` had
abbrev pub Rearranged : List Tag → List Tag → (ℕ → ℕ) → Type 0
Rearranged old new from = (lane : ℕ) → tag_on new lane ≡ tag_on old (from lane)

-- the tags of a gate's operands on its upper and on its lower lane
abbrev pub upper_operand : NumberedCell → Bool → Tag
upper_operand gate turned = cond turned (tag gate.second Second) (tag gate.first First)

abbrev pub lower_operand : NumberedCell → Bool → Tag
lower_operand gate turned = cond turned (tag gate.first First) (tag gate.second Second)
