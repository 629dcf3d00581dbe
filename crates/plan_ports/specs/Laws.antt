-- The port table of a plan can be written, and read back.
use Rattle.std.specs.Prelude.{◌≢◌, ◌<◌, ◌≤◌, ◌*◌, ℕ}
use Rattle.lane_core.specs.declared.plan.Plan.{Plan}
use Rattle.lane_core.specs.Plans.{IsAdmissible, period_of, size_of}
use Rattle.netlist_core.specs.declared.flat.Flat.{Flat}
use Rattle.netlist_meaning.specs.Flat.{IsInRange, IsNamed}
use Rattle.pattern_reading.specs.declared.ports.Ports.{Ports}
use Rattle.pattern_reading.specs.SoundTable.{IsSoundTable}
use Rattle.pattern_reading.specs.Laws.{HasCellsInside}
use Rattle.plan_ports.specs.Tables.{IsTableOf, HasPortNames, HasTablePlaces}

-- what the law that a written text reads back requires of a table beside a pattern of this size
pub record IsReadable (width height : ℕ) (ports : Ports) : Type 0 where
  pub sound : IsSoundTable ports
  pub inside : HasCellsInside width height ports

-- a plan's period has room for so many contexts: it has room for one, and for more if each has 32
-- generations of it
pub record HasRoom (plan : Plan) (c : ℕ) : Type 0 where
  pub some : c ≢ 0
  pub room : 1 < c → 32 * c ≤ period_of plan

-- the table of every admissible plan with room for the contexts is readable, if ports have distinct
-- names, nets have distinct names at each place, and all names and places can stand in a table
abbrev pub TablesAreReadable : Type 0
TablesAreReadable =
    (flat : Flat) (plan : Plan) (c : ℕ) (ports : Ports) → IsInRange flat → IsNamed flat
    → HasPortNames flat → HasTablePlaces flat → IsAdmissible plan → HasRoom plan c
    → IsTableOf flat plan c ports
    → IsReadable (size_of plan).0 (size_of plan).1 ports
