-- What gives a net its bit.
use Rattle.std.specs.Prelude.{ℕ, ◌≡◌, [], ◌++◌, Some, slice_get, Contains}
use Rattle.netlist_core.specs.declared.model.Design.{Design}
use Rattle.netlist_core.specs.declared.model.Model.{Model}
use Rattle.netlist_core.specs.declared.model.Cover.{Cover}
use Rattle.netlist_core.specs.declared.model.LatchRow.{LatchRow}
use Rattle.netlist_core.specs.Names.{Name, port_names}
use Rattle.netlist_meaning.specs.Places.{Place, main_model, model_at}
use Rattle.netlist_meaning.specs.Nets.{Net, net_at, IsNet, Joined}
use Rattle.netlist_rules.specs.ModelFaults.{AreFaultless}

-- a driver: a name of the main model's `.inputs` or `.clock`, or a cover or a latch of a place, by
-- its number there
pub data Driver : Type 0 where
  port : Name → Driver
  cover : Place → ℕ → Driver
  latch : Place → ℕ → Driver

-- the driver drives this net by itself
pub data Drives (design : Design) : Driver → Net → Type 0 where
  of_port : {main : Model} {name : Name} → main_model design ≡ Some main
      → Contains (port_names (main.ins ++ main.clocks)) name
      → Drives design (port name) (net_at [] name)
  of_cover : {place : Place} {model : Model} {number : ℕ} {c : Cover}
      → model_at design place ≡ Some model → slice_get model.covers number ≡ Some c
      → Drives design (cover place number) (net_at place c.out)
  of_latch : {place : Place} {model : Model} {number : ℕ} {l : LatchRow}
      → model_at design place ≡ Some model → slice_get model.latches number ≡ Some l
      → Drives design (latch place number) (net_at place l.output)

-- nets that are joined have at most one driver among them
abbrev pub AtMostOneDriver : Design → Type 0
AtMostOneDriver design =
    (a b : Net) (d e : Driver) → Joined design a b → Drives design d a → Drives design e b → d ≡ e

abbrev pub FaultlessHaveAtMostOneDriver : Type 0
FaultlessHaveAtMostOneDriver =
    (design : Design) → AreFaultless design.models → AtMostOneDriver design

-- in a design without a fault each net is joined with one that has a driver
abbrev pub FaultlessHaveDrivers : Type 0
FaultlessHaveDrivers =
    (design : Design) → AreFaultless design.models → (net : Net) → IsNet design net
    → (driver : Driver) × (source : Net) × Drives design driver source × Joined design source net
