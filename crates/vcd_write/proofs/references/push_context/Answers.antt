use Rattle.std.proofs.Common.{◌∙◌}
use Rattle.vcd_write.proofs.Named.{names_more, references_more}
use Rattle.vcd_write.proofs.references.push_context.Goals as goal

pub loop-net-preserved : goal.loop-net-preserved
loop-net-preserved c =
    let nets = c.args.nets.now in
    let i = c.loop-net.net-index in
    let net = c.net-item.result in
    record {
      references = references_more c.args.contexts c.args.context nets i net c.loop-net-test.true c.net-item.is c.args.references.now.items c.loop-net.references.items c.of.result c.push.new.self.items c.loop-net.invariant.references
          (c.of.ensures ∙ c.in_ok-reference_of.ensures.reference) c.in_ok-push.ensures.items;
      bytes = names_more nets i net c.loop-net-test.true c.net-item.is c.in_ok-reference_of.ensures.bytes c.loop-net.invariant.bytes;
    }
