-- Port tables of routed planes, and what a plane shows of the runs of a list of cells.
use Rattle.std.specs.Prelude.{pos, ℕ, ◌+◌, ◌*◌, ◌≤◌, ◌≡◌, ◌↔◌, ◌⊎◌, Bool, true, List, Some, slice_get, Contains}
use Rattle.ww_rule.specs.declared.pattern.State.TheVariants.{Head, Conductor}
use Rattle.ww_rule.specs.Wireworld.{Plane, driven}
use Rattle.ww_rule.specs.Grid.{Grid, plane_of}
use Rattle.ww_rule.specs.Injections.{MeetsConductors}
use Rattle.pattern_reading.specs.declared.ports.Ports.{Ports}
use Rattle.pattern_reading.specs.declared.ports.PortLine.{PortLine}
use Rattle.pattern_reading.specs.declared.ports.NetLine.{NetLine}
use Rattle.carries.specs.Cells.{Spells, drive}
use Rattle.cell_core.specs.declared.cells.Src.TheVariants.{Input, Zero}
use Rattle.cell_core.specs.declared.list.CellList.{CellList}
use Rattle.routed_circuits.specs.Runs.{src_at, list_bit}
use Rattle.routed_circuits.specs.Lists.{Point, SourcedGate, SourcedWire, all_points, ComputesList}

-- the point of an IN line, which is an input of the list, by its number
abbrev pub in_point : PortLine → ℕ → Point
in_point line i = (((pos line.x, pos line.y), 0), Input i)

-- The table of a routed plane. The driven inputs are those of the IN lines, and others that have
-- constant 0, which nothing drives. The OUT and NET lines are points that have the sources of the
-- list's outputs and nets, in order: an OUT line at the latency, a NET line at its offset. So both
-- stand at ports of gates, never on a wire.
pub record IsTableOfPoints (list : CellList) (ins points : List Point) (ports : Ports)
    (plane : Plane) : Type 0 where
  pub in_lines : (i : ℕ) (line : PortLine) → slice_get ports.ins i ≡ Some line
      → Contains ins (in_point line i)
  pub others : (point : Point) → Contains ins point → (point.1 ≡ Zero)
      ⊎ ((i : ℕ) × (line : PortLine) × (slice_get ports.ins i ≡ Some line)
      × (point ≡ in_point line i))
  pub conductors : (i : ℕ) (line : PortLine) → slice_get ports.ins i ≡ Some line
      → plane (pos line.x) (pos line.y) ≡ Conductor
  pub out_lines : (o : ℕ) (line : PortLine) → slice_get ports.outs o ≡ Some line
      → Contains points (((pos line.x, pos line.y), ports.l), src_at list.outs o)
  pub net_lines : (k : ℕ) (line : NetLine) → slice_get ports.nets k ≡ Some line
      → Contains points (((pos line.x, pos line.y), line.offset), src_at list.nets k)

-- the cell is a head at generation g exactly when g = first + t period for a cycle t in which the
-- bit is 1
abbrev pub ShowsBits : (first period : ℕ) → (ℕ → Bool) → (g : ℕ) → Plane → (x y : ℕ) → Type 0
ShowsBits first period bit g plane x y =
    (plane (pos x) (pos y) ≡ Head) ↔ ((t : ℕ) × (g ≡ first + t * period) × (bit t ≡ true))

-- when any rows of input bits drive the plane, each injection meets a conductor, and the cells of
-- OUT and NET lines show the bits of the list's outputs and nets, without a last generation
pub record ShowsListRuns (plane : Plane) (ports : Ports) (list : CellList) : Type 0 where
  pub conductors : (rows : List (List Bool)) → MeetsConductors (drive ports rows) plane
  pub outs : (rows : List (List Bool)) (o : ℕ) (line : PortLine)
      → slice_get ports.outs o ≡ Some line → (g : ℕ)
      → ShowsBits ports.l ports.p (λ t. list_bit list rows t (src_at list.outs o)) g
      (driven (drive ports rows) plane g) line.x line.y
  pub nets : (rows : List (List Bool)) (k : ℕ) (line : NetLine)
      → slice_get ports.nets k ≡ Some line → (g : ℕ)
      → ShowsBits line.offset ports.p (λ t. list_bit list rows t (src_at list.nets k)) g
      (driven (drive ports rows) plane g) line.x line.y

-- The text of a routed circuit: it spells a pattern and a port table of one context, and the pattern
-- shows the runs of the list.
pub record SpellsListRuns (text : List ℕ) (list : CellList) : Type 0 where
  pub grid : Grid
  pub ports : Ports
  pub spells : Spells text grid ports
  pub contexts : ports.c ≡ 1
  pub shows : ShowsListRuns (plane_of grid.rows) ports list

-- a routed plane with such a table shows the runs of the list that it computes
abbrev pub RoutedShowRuns : Type 0
RoutedShowRuns =
    (list : CellList) (gates : List SourcedGate) (wires : List SourcedWire) (ins : List Point)
    (plane : Plane) (ports : Ports) → 3 ≤ ports.p
    → ComputesList ports.p list gates wires ins plane
    → IsTableOfPoints list ins (all_points gates) ports plane
    → ShowsListRuns plane ports list
