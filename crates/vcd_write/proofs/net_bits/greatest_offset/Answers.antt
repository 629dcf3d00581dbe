use Rattle.std.proofs.Common.{◌∙◌, ap, sym, max}
use Rattle.vcd_write.proofs.Variables.{greatest_next}
use Rattle.vcd_write.proofs.net_bits.greatest_offset.Goals as goal

pub loop-net-preserved : goal.loop-net-preserved
loop-net-preserved c =
    let next = greatest_next c.args.nets.now c.loop-net.net-index c.net-item.result c.loop-net-test.true c.net-item.is in
    c.max-greatest.ensures ∙ ap (λ g. max c.net-item.result.offset g) c.loop-net.invariant ∙ sym next
