use Rattle.std.proofs.Common.{ap₂, map, take}
use Rattle.ww_rule.specs.declared.pattern.State.TheVariants.{Tail}
use Rattle.tile_core.specs.Interface.{cell_at, chosen}
use Rattle.tile_timing.specs.Window.{shown}
use Rattle.tile_timing.specs.Law.{drawing_of, marked}
use Rattle.tile_timing.proofs.Ports.{same_planes}
use Rattle.tile_timing.proofs.law.is_at_rest.Goals as goal

pub returns : goal.returns
returns c =
    same_planes c.is_marked.result (shown c.args.cells.now 32) _ _ (ap₂ (λ ports bits. marked (drawing_of c.args.base.now) (chosen (map cell_at ports) bits) Tail) (ap₂ take c.lanes-lanes.ensures c.exits-exits.ensures) c.answer.ensures) c.is_marked.ensures
