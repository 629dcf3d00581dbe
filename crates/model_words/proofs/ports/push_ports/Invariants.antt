use Rattle.std.proofs.Common.{◌≡◌, ◌||◌, take}
use Rattle.netlist_core.specs.Names.{Name, is_named}
use Rattle.lists.specs.Names.{holds_name}
use Rattle.model_words.proofs.ports.push_ports.Given as goal

abbrev pub invariant-loop-port : goal.invariant-loop-port
invariant-loop-port l = (name : Name) → holds_name l.names name ≡ (holds_name l.initial.names name || is_named (take l.port-index l.ports) name)
