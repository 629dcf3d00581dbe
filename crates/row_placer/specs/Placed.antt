-- What holds for a program when all is placed.
use Rattle.std.specs.Prelude.{ℕ, ◌+◌, ◌-◌, ◌<◌, ◌≤◌, ◌≡◌, ◌≢◌, Bool, List, ◌++◌, ◌*◌, ◌^◌, take, length, map, get_or, None, All}
use Rattle.lane_core.specs.Places.{AreDistinctBelow}
use Rattle.lane_core.specs.declared.plan.NetPlace.{NetPlace}
use Rattle.lane_core.specs.declared.plan.Program.{Program}
use Rattle.lane_core.specs.Instrs.{bit_on}
use Rattle.cell_core.specs.declared.cells.Src.{Src}
use Rattle.cell_core.specs.declared.cells.Src.TheVariants.{Input, Latch, One, Zero, Cell as Made}
use Rattle.cell_core.specs.declared.list.CellList.{CellList}
use Rattle.row_placer.specs.declared.roles.Role.TheVariants.{Free, Kept, Port}
use Rattle.row_placer.specs.declared.roles.Tag.{Tag}
use Rattle.cell_meaning.specs.Computes.{ComputesByProgram}
use Rattle.row_placer.specs.declared.job.Job.{Job}
use Rattle.row_placer.specs.Told.{tag, free_tag, count, role_code, Told, MadeTold}
use Rattle.row_placer.specs.Ready.{AreSettled, ReadyForGate}
use Rattle.cell_core.specs.Loops.{loop_data, loop_state, loop_count}
use Rattle.row_placer.specs.Numbers.{number, gate_of}
use Rattle.row_placer.specs.Empty.{IsEmpty}
use Rattle.row_placer.specs.Entries.{AreAtEntries, AreAtCells}
use Rattle.row_placer.specs.Uses.{idle}
use Rattle.cell_core.specs.Meaning.{Fits}
use Rattle.row_placer.specs.Programs.{program_bits}

-- the job is that of the list
pub record IsJobOf (list : CellList) (job : Job) : Type 0 where
  pub base : job.base ≡ list.inputs + loop_count list + 1
  pub gates : job.gates ≡ map (gate_of list) list.cells
  pub ports : job.ports ≡ map (number list) (loop_data list ++ list.outs)

-- a lane that is not free at the start is the home of its value, which is kept
abbrev pub AreAtHome : List ℕ → List Tag → Type 0
AreAtHome homes start =
    (lane : ℕ) → 0 < role_code (get_or start lane free_tag).role
    → (v : ℕ) × (v < length homes) × (get_or homes v 0 ≡ lane)
    × (get_or start lane free_tag ≡ tag v Kept)

-- the homes of the inputs, of the loops on the lowest lanes, and perhaps of constant 0 on a dark
-- lane
pub record AreHomes (list : CellList) (lanes : ℕ) (ins homes : List ℕ) : Type 0 where
  pub ins_long : length ins ≡ list.inputs
  pub ins_apart : AreDistinctBelow (lanes - loop_count list) ins
  pub least : list.inputs + loop_count list ≤ length homes
  pub most : length homes ≤ list.inputs + loop_count list + 1
  pub inputs : (i : ℕ) → i < list.inputs → get_or homes i 0 ≡ get_or ins i 0
  pub loops : (s : ℕ) → s < loop_count list
      → get_or homes (list.inputs + s) 0 ≡ lanes - loop_count list + s
  pub dark : list.inputs + loop_count list < length homes
      → (get_or homes (list.inputs + loop_count list) 0 < lanes - loop_count list)
      × ((i : ℕ) → i < list.inputs → get_or ins i 0 ≢ get_or homes
      (list.inputs + loop_count list) 0)

abbrev pub net_place_of : CellList → List ℕ → List NetPlace → Src → NetPlace
net_place_of list homes made (Made i) = get_or made i (record { lane = 0; after = None })
net_place_of list homes made (Input i) = record { lane = get_or homes i 0; after = None }
net_place_of list homes made (Latch i) =
    record { lane = get_or homes (list.inputs + i) 0; after = None }
net_place_of list homes made One =
    record { lane = get_or homes (list.inputs + length list.starts) 0; after = None }
net_place_of list homes made Zero =
    record { lane = get_or homes (list.inputs + loop_count list) 0; after = None }

-- each home has its value's bit at the start
abbrev pub HomesHold : CellList → Program → List ℕ → ((List Bool) → (List Bool) → ℕ → Bool) → Type 0
HomesHold list p homes bit =
    (inputs state : List Bool) → Fits list inputs state → (v : ℕ) → v < length homes
    → bit_on (program_bits list p inputs state) (get_or homes v 0) ≡ bit inputs state v

pub record IsPlaced (list : CellList) (job : Job) (p : Program) (homes : List ℕ) (tags : List Tag)
    (made : List NetPlace) : Type 0 where
  pub job_of : IsJobOf list job
  pub lanes : length tags ≡ p.lanes
  pub start : length job.start ≡ p.lanes
  pub home : AreAtHome homes job.start
  pub told : Told job tags p.instrs
  pub made_told : MadeTold job p.instrs made
  pub all_made : length made ≡ length list.cells
  pub latches : p.latches ≡ loop_state list list.starts
  pub ins_long : length p.ins ≡ list.inputs
  pub room : loop_count list ≤ p.lanes
  pub settled : AreSettled job (loop_count list) tags
  pub outs_long : length p.outs ≡ length list.outs
  pub outs : (o : ℕ) → o < length list.outs
      → get_or tags (get_or p.outs o 0) free_tag
      ≡ tag (get_or job.ports (loop_count list + o) 0) (Port (loop_count list + o))
  pub nets : p.nets ≡ map (net_place_of list homes made) list.nets
  pub zero_home : All (λ src. src ≡ Zero → list.inputs + loop_count list < length homes) list.nets
  pub known_home : list.inputs + loop_count list ≤ length homes

-- each used value is kept on its home, the other lanes are free, and so are the homes of unused
-- values
pub record IsStart (homes left : List ℕ) (lanes : ℕ) (start : List Tag) : Type 0 where
  pub long : length start ≡ lanes
  pub home : AreAtHome homes start
  pub kept : (v : ℕ) → v < length homes → 1 ≤ get_or left v 0
      → get_or start (get_or homes v 0) free_tag ≡ tag v Kept
  pub free : lanes + idle left (length homes) ≤ count 0 Free start + length homes

-- these are the lanes of the outputs
abbrev pub AreOuts : Job → ℕ → List Tag → List ℕ → Type 0
AreOuts job loops tags outs =
    (o : ℕ) → o < length outs → (get_or outs o 0 < length tags)
    × (get_or tags (get_or outs o 0) free_tag
    ≡ tag (get_or job.ports (loops + o) 0) (Port (loops + o)))

-- the lanes are few, with so many to spare, and no more than the spare ones if the list is empty
pub record AreFewLanes (list : CellList) (spare lanes : ℕ) : Type 0 where
  pub most : lanes
      ≤ list.inputs + 2 * loop_count list + length list.outs + length list.cells + 2 + spare
  pub empty : IsEmpty list → lanes ≤ spare

-- the job of the list is ready for its first gate
pub record IsPrepared (list : CellList) (job : Job) (left homes : List ℕ) : Type 0 where
  pub job_of : IsJobOf list job
  pub ready : ReadyForGate job 0 job.start left
  pub counted : length left ≡ job.base + length job.gates
  pub home : AreAtHome homes job.start
  pub homes_of : AreHomes list (length job.start) (take list.inputs homes) homes
  pub zero : All (λ src. src ≡ Zero → list.inputs + loop_count list < length homes) list.nets
  pub ports : All (λ v. v < job.base + length job.gates) job.ports
  pub room : loop_count list ≤ length job.start
  pub below : All (λ lane. lane < length job.start) homes

-- if the source is constant 0, constant 0 has a home
abbrev pub HasHomeIfZero : CellList → List ℕ → Src → Type 0
HasHomeIfZero list homes src = src ≡ Zero → list.inputs + loop_count list < length homes

-- sources have places: each one that no cell makes has a home, except perhaps constant 0, and each
-- cell is made
pub record HavePlaces (list : CellList) (homes : List ℕ) (made : List NetPlace) : Type 0 where
  pub small : list.inputs + loop_count list + 1 + length list.cells < 2 ^ 32
  pub known_home : list.inputs + loop_count list ≤ length homes
  pub all_made : length made ≡ length list.cells

-- the list is short enough to be placed
abbrev pub IsPlaceable : CellList → Type 0
IsPlaceable list = list.inputs + loop_count list + length list.outs + length list.cells < 2 ^ 20

-- the list is placed on so many lanes
pub record IsPlacedOn (list : CellList) (lanes : ℕ) (p : Program) : Type 0 where
  pub wide : p.lanes ≡ lanes
  pub computes : ComputesByProgram list p
  pub instrs : length p.instrs ≤
      (3 * length list.cells + length list.outs + 2 * loop_count list) * p.lanes
  pub entries : AreAtEntries list p.lanes p.ins p.nets
  pub made : AreAtCells list p.instrs p.nets

-- the list is placed with no more spare lanes than these, and on the spare lanes alone if it is
-- empty
pub record IsPlacedWithin (list : CellList) (spare : ℕ) (p : Program) : Type 0 where
  pub computes : ComputesByProgram list p
  pub instrs : length p.instrs ≤
      (3 * length list.cells + length list.outs + 2 * loop_count list) * p.lanes
  pub lanes : p.lanes
      ≤ list.inputs + 2 * loop_count list + length list.outs + length list.cells + 2 + spare
  pub empty : IsEmpty list → p.lanes ≤ spare
  pub entries : AreAtEntries list p.lanes p.ins p.nets
  pub made : AreAtCells list p.instrs p.nets
