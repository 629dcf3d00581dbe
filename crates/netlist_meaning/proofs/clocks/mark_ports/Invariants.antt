use Rattle.std.proofs.Common.{ℕ, ◌≡◌, ◌<◌, ◌==◌, cond, false, length, get_or, take}
use Rattle.std.specs.List.{list_any}
use Rattle.netlist_meaning.specs.Flat.{port_classes}
use Rattle.netlist_meaning.proofs.clocks.mark_ports.Given as goal

abbrev pub invariant-loop-port : goal.invariant-loop-port
invariant-loop-port l = (class : ℕ) → class < length l.flat.nets → get_or l.marks class false ≡ cond (list_any (λ marked. marked == class) (port_classes l.flat (take l.port-index l.ports))) l.mark (get_or l.initial.marks class false)
