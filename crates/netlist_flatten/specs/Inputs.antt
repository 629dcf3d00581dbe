-- The inputs among ports, and the classes of controls.
use Rattle.std.specs.Prelude.{ℕ, ◌≡◌, List, map, get_or, Some, Contains}
use Rattle.netlist_core.specs.declared.model.Design.{Design}
use Rattle.netlist_core.specs.declared.model.Port.{Port}
use Rattle.netlist_core.specs.declared.flat.NetId.{NetId}
use Rattle.netlist_core.specs.declared.flat.FlatPort.{FlatPort}
use Rattle.netlist_core.specs.declared.flat.FlatLatch.{FlatLatch}
use Rattle.netlist_meaning.specs.FlatOf.{PortsWithoutControl, flat_port}

-- the flat inputs are those of the ports that are not the control
pub record AreInputs (design : Design) (ports : List Port) (inputs : List FlatPort) : Type 0 where
  pub in_ports : List Port
  pub are_in_ports : PortsWithoutControl design ports in_ports
  pub are_flat : inputs ≡ map (flat_port design) in_ports

-- the control of one of the latches has that class
abbrev pub HasControlClass : List ℕ → List FlatLatch → ℕ → Type 0
HasControlClass classes latches class =
    (latch : FlatLatch) × (id : NetId) × Contains latches latch × (latch.control ≡ Some id)
    × (get_or classes id.0 0 ≡ class)
