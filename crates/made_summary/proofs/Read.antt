-- What is written of a plan reads as the plan's pattern and its table.
use Rattle.std.proofs.Common.{ℕ, ◌<◌, ◌^◌, List, arith}
use Rattle.std.specs.List.{AllByRecursion}
use Rattle.std.proofs.lemmas.List.Elements.{All-from_recursion, All-map}
use Rattle.ww_rule.specs.Grid.{AreInBox}
use Rattle.lane_core.specs.Plans.{size_of}
use Rattle.grid_assembly.specs.PlanDrawing.{start_grid}
use Rattle.grid_assembly.proofs.Pattern.{patterns_are_planes}
use Rattle.pattern_reading.specs.declared.ports.PortLine.{PortLine}
use Rattle.pattern_reading.specs.Ports.{cells_of}
use Rattle.pattern_reading.specs.Laws.{IsPortInside}
use Rattle.pattern_writing.proofs.Written.{written_text}
use Rattle.flat_designs.proofs.Sound.{flat_is_in_range}
use Rattle.flat_designs.proofs.Whole.{flat_is_named}
use Rattle.netlist_meaning.specs.Weight.{weight}
use Rattle.netlist_plans.proofs.Names.{texts_have_port_names}
use Rattle.plan_ports.proofs.Readable.{one_has_room, small_size, tables_are_readable}
use Rattle.plan_carries.proofs.SeenNets.{places_fit}
use Rattle.made_summary.specs.Laws.{WrittenPlansRead}

-- the cells of the lines lie in the box in which the lines do
pub lines_in_box : (width height : ℕ) (ports : List PortLine) → AllByRecursion (IsPortInside width height) ports → AreInBox width height (cells_of ports)
lines_in_box width height ports h = All-map (λ (cell : ℕ × ℕ). (cell.0 < width) × (cell.1 < height)) (λ (port : PortLine). (port.x, port.y)) ports (All-from_recursion (IsPortInside width height) ports h)

pub written_plans_read : WrittenPlansRead
written_plans_read text design flat plan ports of_text light is_flat admissible table =
    let faultless = of_text.faultless in
    let size = small_size plan admissible in
    let range = flat_is_in_range design flat faultless is_flat (let w : weight design < 2 ^ 31 = light in omega (arith, w)) in
    let sound = tables_are_readable flat plan 1 ports range (flat_is_named design flat faultless is_flat) (texts_have_port_names text design flat of_text is_flat) (places_fit design flat faultless light is_flat) admissible (one_has_room plan) table in
    let reads = written_text (start_grid plan) ports (record { in_rows = (patterns_are_planes plan admissible).box; width = omega (arith, size.0); height = omega (arith, size.1) }) sound.sound sound.inside in
    record { spells = record { reads = reads.0; table = reads.1 }; inside = lines_in_box (size_of plan).0 (size_of plan).1 ports.ins sound.inside.ins }
