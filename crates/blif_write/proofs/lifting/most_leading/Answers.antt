use Rattle.std.proofs.Common.{◌≡◌, ◌+◌, ap, ◌∙◌, max, drop}
use Rattle.lifted_designs.specs.Names.{leading, most_leading}
use Rattle.blif_write.proofs.Leading.{most_next, most_none}
use Rattle.blif_write.proofs.lifting.most_leading.Goals as goal

pub loop-name-preserved : goal.loop-name-preserved
loop-name-preserved c =
    let e : c.max-most.result ≡ max c.loop-name.most (leading c.name-item.result) = cc in
    ap (λ most. max most (most_leading (drop (c.loop-name.name-index + 1) c.args.names.now))) e
    ∙ most_next c.args.names.now c.loop-name.name-index c.name-item.result c.loop-name.most c.loop-name-test.true c.name-item.is
    ∙ c.loop-name.invariant

pub returns : goal.returns
returns c = most_none c.args.names.now c.loop-name.name-index c.loop-name.most c.loop-name-test.false ∙ c.loop-name.invariant
