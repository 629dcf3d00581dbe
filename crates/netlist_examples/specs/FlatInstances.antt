-- A small flat netlist: a latch, and two nodes of which the first reads the second, with a clock.
use Rattle.std.specs.Prelude.{ℕ, List, [], ◌∷◌, Some, true}
use Rattle.netlist_core.specs.declared.model.Trigger.TheVariants.{Rise}
use Rattle.netlist_core.specs.declared.flat.NetId.{NetId}
use Rattle.netlist_core.specs.declared.flat.Net.{Net}
use Rattle.netlist_core.specs.declared.flat.Node.{Node}
use Rattle.netlist_core.specs.declared.flat.FlatPort.{FlatPort}
use Rattle.netlist_core.specs.declared.flat.FlatLatch.{FlatLatch}
use Rattle.netlist_core.specs.declared.flat.Flat.{Flat}

abbrev pub net_numbered : ℕ → NetId
net_numbered n = record { 0 = n }

abbrev pub small_net : ℕ → Net
small_net n = record { place = []; name = []; class = n }

abbrev pub small_port : ℕ → FlatPort
small_port n = record { line = 0; net = net_numbered n }

abbrev pub data_latch : FlatLatch
data_latch =
    record {
      line = 0;
      input = net_numbered 2;
      output = net_numbered 1;
      kind = Some Rise;
      control = Some (net_numbered 4);
      init = 0;
    }

abbrev pub small_node : List NetId → ℕ → Node
small_node ins out = record { line = 0; ins = ins; out = net_numbered out; rows = []; on = true }

-- net 0 is an input, net 1 the latch's output, net 4 the clock
abbrev pub small_flat : List NetId → Flat
small_flat read = record {
  nets = small_net 0 ∷ small_net 1 ∷ small_net 2 ∷ small_net 3 ∷ small_net 4 ∷ [];
  ins = small_port 0 ∷ [];
  outs = small_port 2 ∷ [];
  clocks = [];
  nodes = small_node (net_numbered 3 ∷ net_numbered 1 ∷ []) 2 ∷ small_node read 3 ∷ [];
  latches = data_latch ∷ [];
  control = Some (net_numbered 4);
  weight = 0;
  listed = true;
}

-- the second node reads the input
abbrev pub chained_flat : Flat
chained_flat = small_flat (net_numbered 0 ∷ [])

-- the second node reads the first
abbrev pub looped_flat : Flat
looped_flat = small_flat (net_numbered 2 ∷ [])
