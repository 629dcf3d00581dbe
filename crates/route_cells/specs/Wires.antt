-- Wires that keep time, by where they begin and end.
use Rattle.std.specs.Prelude.{pos, ℕ, suc, ◌+◌, ◌*◌, ◌<◌, ◌≤◌, ◌≡◌, false, if◌then◌else◌, Bool, List, length}
use Rattle.lists.specs.Items.{flag_at}
use Rattle.ww_rule.specs.declared.pattern.State.{State}
use Rattle.ww_rule.specs.declared.pattern.State.TheVariants.{Head, Conductor}
use Rattle.gate_laws.specs.Signals.{cell_state}
use Rattle.gate_library.specs.declared.ports.PortCell.{PortCell}
use Rattle.route_tables.specs.declared.tables.TableWire.{TableWire}
use Rattle.route_tables.specs.declared.tables.Tables.{Tables}
use Rattle.route_tables.specs.Serials.{listed_cell}
use Rattle.route_tables.specs.Tables.{box_plane, point_at, input_point}
use Rattle.route_cells.specs.Chains.{LatchesLeadBack}
use Rattle.route_cells.specs.Electrons.{comes_at, state_before}

-- The electrons on a wire that ends here are these bits on their way. None would be in the wire's
-- first cell, or before it.
pub record CarriesBits (t : Tables) (states : List State) (period : ℕ) (wire : TableWire)
    (to : PortCell) (bits : List Bool) : Type 0 where
  pub clear : (c : ℕ) → c < length bits → wire.size ≤ to.generation + c * period → flag_at bits c ≡ false
  pub end : cell_state (box_plane t states) (pos to.x, pos to.y)
      ≡ (if comes_at to.generation period bits 0 then Head else Conductor)
  pub cells : (i : ℕ) → i < wire.size → (rest : ℕ) → i + suc rest ≡ wire.size
      → cell_state (box_plane t states) (listed_cell t.cells (wire.start + i))
      ≡ state_before to.generation period bits rest

-- The wire takes as many generations from the one port to the other as its cycles ask. Its latches
-- lead from the one's source to the other's, and their start bits are on it.
pub record WireKeepsTime (t : Tables) (states : List State) (period : ℕ) (wire : TableWire)
    (from to : PortCell) : Type 0 where
  pub takes : from.generation + suc wire.size ≡ to.generation + wire.cycles * period
  pub bits : List Bool
  pub all : length bits ≡ wire.cycles
  pub leads : LatchesLeadBack t.list (input_point t wire.to).1 bits (point_at t wire.from).1
  pub carries : CarriesBits t states period wire to bits
