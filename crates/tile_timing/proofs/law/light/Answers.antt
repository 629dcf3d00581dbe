use Rattle.std.proofs.Common.{◌∙◌, ap₂, map, take, length, ◌≡◌, rules}
use Rattle.ww_rule.specs.declared.pattern.State.TheVariants.{Head}
use Rattle.tile_core.specs.Interface.{cell_at, chosen}
use Rattle.tile_timing.specs.Law.{drawing_of, marked}
use Rattle.tile_timing.proofs.Ports.{two_bits}
use Rattle.tile_timing.proofs.law.light.Goals as goal

pub returns-clause-shows : goal.returns-clause-shows
returns-clause-shows c =
    let two : length c.args.lit ≡ 2 = search rules in
    c.draw_marked.ensures.shows
    ∙ ap₂ (λ ports bits. marked (drawing_of c.args.base.now) (chosen (map cell_at ports) bits) Head) (ap₂ take c.lanes-lanes.ensures c.entries-entries.ensures) (two_bits c.args.lit two)
