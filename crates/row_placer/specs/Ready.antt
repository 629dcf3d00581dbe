-- Lanes that are ready for uses.
use Rattle.std.specs.Prelude.{ℕ, ◌+◌, ◌<◌, ◌≤◌, ◌≡◌, ◌≢◌, ◌^◌, List, ◌++◌, ◌-◌, length, get_or, drop, All}
use Rattle.row_placer.specs.declared.roles.Role.TheVariants.{Free, Kept, Port}
use Rattle.row_placer.specs.declared.roles.Tag.{Tag}
use Rattle.row_placer.specs.declared.job.Job.{Job}
use Rattle.row_placer.specs.declared.job.NumberedCell.{NumberedCell}
use Rattle.row_placer.specs.Told.{count, tag, free_tag}
use Rattle.row_placer.specs.Uses.{uses_of, uses_left, times, owed, owed_ports}

-- each value below the limit that is used is kept on a lane, enough lanes are free, and the uses
-- are counted
pub record Ready (us : List ℕ) (limit least : ℕ) (tags : List Tag) (table : List ℕ) : Type 0 where
  pub kept : (v : ℕ) → v < limit → 1 ≤ times v us → 1 ≤ count v Kept tags
  pub free : least ≤ count 0 Free tags
  pub left : (v : ℕ) → v < length table → get_or table v 0 ≡ times v us
  pub wide : limit ≤ length table

abbrev pub ReadyForGate : Job → ℕ → List Tag → List ℕ → Type 0
ReadyForGate job g tags left =
    Ready (uses_of (drop g job.gates) ++ job.ports) (job.base + g)
    (owed job.ports (job.base + g) (drop g job.gates)) tags left

abbrev pub ReadyForPort : Job → ℕ → List Tag → List ℕ → Type 0
ReadyForPort job i tags left =
    Ready (drop i job.ports) (job.base + length job.gates) (owed_ports (drop i job.ports)) tags left

-- the first n ports have lanes of their own
abbrev pub HoldPorts : Job → ℕ → List Tag → Type 0
HoldPorts job n tags = (i : ℕ) → i < n → 1 ≤ count (get_or job.ports i 0) (Port i) tags

-- each port has a lane of its own
abbrev pub HoldAllPorts : Job → List Tag → Type 0
HoldAllPorts job tags = HoldPorts job (length job.ports) tags

-- the first n loops have come to their lanes
abbrev pub AreSettled : Job → ℕ → List Tag → Type 0
AreSettled job n tags =
    (s : ℕ) → s < n → get_or tags (length tags - 1 - s) free_tag ≡ tag (get_or job.ports s 0)
    (Port s)

-- a value can be used: it is kept on a lane, it has uses left, and a lane is free for a copy if
-- this use is not the last
pub record IsUsable (value : ℕ) (tags : List Tag) (left : List ℕ) : Type 0 where
  pub within : value < length left
  pub has : 1 ≤ count value Kept tags
  pub some : 1 ≤ uses_left left value
  pub free : uses_left left value ≢ 1 → 1 ≤ count 0 Free tags

-- how many values a job has
abbrev pub value_count : Job → ℕ
value_count job = job.base + length job.gates

-- the job has the value of each port
abbrev pub ArePortsKnown : Job → Type 0
ArePortsKnown job = All (λ v. v < value_count job) job.ports

-- the gate is the one with this number
abbrev pub IsGateOf : Job → ℕ → NumberedCell → Type 0
IsGateOf job g gate = get_or job.gates g gate ≡ gate

-- a job can be run: its lanes are few and ready for the first gate, all values are counted, and the
-- first of its ports are loops
pub record IsRunnable (job : Job) (loops : ℕ) (left : List ℕ) : Type 0 where
  pub few : length job.start < 2 ^ 32
  pub ready : ReadyForGate job 0 job.start left
  pub wide : value_count job ≤ length left
  pub known : ArePortsKnown job
  pub among_ports : loops ≤ length job.ports
  pub room : loops ≤ length job.start
