-- The port table of a routed circuit.
use Rattle.std.specs.Prelude.{◌≡◌, ◌≢◌, ◌<◌, ◌≤◌, ◌^◌, List, Option, All}
use Rattle.ww_rule.specs.declared.pattern.Pattern.{Pattern}
use Rattle.routed_plans.specs.declared.nets.SeenPort.{SeenPort}
use Rattle.netlist_core.specs.declared.flat.Flat.{Flat}
use Rattle.netlist_meaning.specs.Flat.{names_of_ports, listed_nets}
use Rattle.place_paths.specs.Paths.{names_and_paths}
use Rattle.plan_ports.specs.Tables.{named_paths}
use Rattle.pattern_reading.specs.Numbers.{greatest_number}
use Rattle.pattern_reading.specs.Laws.{HasCellsInside}
use Rattle.pattern_reading.specs.declared.ports.Ports.{Ports}
use Rattle.pattern_reading.specs.Ports.{names_of}
use Rattle.routed_plans.specs.Drawn.{items_drawn}

-- the table names the inputs and the outputs of the flat netlist, and those of its listed nets whose
-- ports are drawn, each in order; it has one context
pub record NamesRouted (flat : Flat) (shown : List (Option SeenPort)) (ports : Ports) : Type 0 where
  pub ins : names_of ports.ins ≡ names_of_ports flat flat.ins
  pub outs : names_of ports.outs ≡ names_of_ports flat flat.outs
  pub nets : names_and_paths ports.nets ≡ named_paths (items_drawn shown (listed_nets flat))
  pub contexts : ports.c ≡ 1

-- the table can be written beside the pattern: its period is not 0, its numbers fit 64 bits (offsets
-- fit 32), and its cells lie in the pattern's box
pub record FitsPattern (pattern : Pattern) (ports : Ports) : Type 0 where
  pub width : pattern.width < 2 ^ 64
  pub height : pattern.height < 2 ^ 64
  pub period : ports.p ≢ 0
  pub p : ports.p ≤ greatest_number
  pub l : ports.l ≤ greatest_number
  pub offsets : All (λ line. line.offset < 4294967296) ports.nets
  pub inside : HasCellsInside pattern.width pattern.height ports
