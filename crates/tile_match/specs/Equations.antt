-- The box and the ports of a circuit's drawing, by numbers.
use Rattle.std.specs.Prelude.{ℕ, ◌<◌, ◌≡◌, ◌^◌, ◌*◌, ◌+◌, ◌-◌, ◌≤◌, ◌==◌, ◌⊎◌, List, [], map, if◌then◌else◌}
use Rattle.ww_rule.specs.Grid.{Grid}
use Rattle.lane_core.specs.Places.{AreDistinctBelow}
use Rattle.lane_core.specs.Plans.{row_of}
use Rattle.pattern_reading.specs.declared.ports.PortLine.{PortLine}
use Rattle.pattern_reading.specs.declared.ports.Ports.{Ports}
use Rattle.pattern_reading.specs.Ports.{cells_of}

-- the cells of ports are at one x, in the signal rows of different lanes below a limit
pub record ArePortsAt (x limit : ℕ) (lines : List PortLine) : Type 0 where
  pub lanes : List ℕ
  pub distinct : AreDistinctBelow limit lanes
  pub cells : cells_of lines ≡ map (λ lane. (x, row_of lane)) lanes

-- a box without cells, and a table without inputs and outputs
pub record IsBareBox (width height : ℕ) (ports : Ports) : Type 0 where
  pub width_is : width ≡ 0
  pub height_is : height ≡ 0
  pub latency : ports.l ≡ 0
  pub period : ports.p ≡ 32
  pub ins : ports.ins ≡ []
  pub outs : ports.outs ≡ []

-- a box and ports of so many lanes, columns and loops
pub record IsFilledBox (width height : ℕ) (ports : Ports) (lanes columns loops : ℕ) : Type 0 where
  pub some_lanes : 1 ≤ lanes
  pub some_columns : 1 ≤ columns
  pub few_lanes : lanes < 2 ^ 32
  pub few_columns : columns < 2 ^ 40
  pub loops_on_lanes : loops ≤ lanes
  pub loops_in_columns : loops ≤ columns
  pub latency : ports.l ≡ 32 * columns
  pub period : ports.p ≡ (if loops == 0 then 32 else 32 * (2 * columns + 4 * loops))
  pub width_is : width ≡ 32 * (columns + 2 * loops) + 1
  pub height_is : height ≡ 16 * (lanes + loops)
  pub ins : ArePortsAt (32 * loops) (lanes - loops) ports.ins
  pub outs : ArePortsAt (32 * (loops + columns)) (lanes - loops) ports.outs

-- the table is that of one context, and its box has no cells, or has the size of some lanes,
-- columns and loops
abbrev pub HasSomeSize : Grid → Ports → Type 0
HasSomeSize grid ports =
    (ports.c ≡ 1)
    × (IsBareBox grid.width grid.height ports
    ⊎ ((lanes columns loops : ℕ) × IsFilledBox grid.width grid.height ports lanes columns loops))
