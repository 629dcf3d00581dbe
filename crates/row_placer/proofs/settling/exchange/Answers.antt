use Rattle.std.proofs.Common.{refl}
use Rattle.row_placer.proofs.Carry.{tags_swapped}
use Rattle.row_placer.proofs.settling.exchange.Goals as goal

pub returns-clause-moved : goal.returns-clause-moved
returns-clause-moved c =
    (tags_swapped c.args.tags.now.items _ c.args.lane c.index-upper.result.now c.index-lower.result.now c.requires c.index-upper.ensures c.index-lower.ensures refl).0
