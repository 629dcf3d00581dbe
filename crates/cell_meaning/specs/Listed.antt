-- The nets of a flat netlist that port tables list.
use Rattle.std.specs.Prelude.{ℕ, List, map}
use Rattle.netlist_core.specs.declared.flat.Net.{Net as FlatNet}
use Rattle.netlist_core.specs.declared.flat.Flat.{Flat}
use Rattle.netlist_meaning.specs.Flat.{listed_nets}

-- the classes of the listed nets, in order
abbrev pub listed_classes : Flat → List ℕ
listed_classes flat = map (λ (net : FlatNet). net.class) (listed_nets flat)
