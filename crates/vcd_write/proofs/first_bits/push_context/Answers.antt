use Rattle.std.proofs.Common.{◌≡◌, sym, ap, arith, length}
use Rattle.vcd_write.specs.FirstBits.{first_bit}
use Rattle.vcd_write.proofs.FirstBits.{push_net}
use Rattle.vcd_write.proofs.first_bits.push_context.Goals as goal

pub loop-net-preserved : goal.loop-net-preserved
loop-net-preserved c =
    let net = c.net-item.result in
    let due = c.loop-net.due in
    let long : c.len-place.result ≡ length due.items = omega (arith, c.len-place.ensures, due.ok) in
    push_net c.args.due.now.items due.items c.push.new.self.items c.args.nets.now c.args.context c.loop-net.net-index net (first_bit c.len-place.result (record { context = c.args.context; net = net })) c.loop-net.invariant c.loop-net-test.true (sym c.net-item.is)
    (ap (λ p. first_bit p (record { context = c.args.context; net = net })) long) c.in_ok-push.ensures.items
