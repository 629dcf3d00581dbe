use Rattle.std.proofs.Common.{◌∙◌, take, arith}
use Rattle.std.proofs.lemmas.List.{length-take-le}
use Rattle.aiger_meaning.proofs.Pushes.{many_named, named_more}
use Rattle.aiger_meaning.proofs.nets.push_named.Goals as goal

pub push_net-requires : goal.push_net-requires
push_net-requires c =
    omega (
      arith,
      c.requires,
      c.loop-name-test.true,
      many_named c.args.nets.now.items c.loop-name.nets.items (take c.loop-name.name-index c.args.names.now) c.loop-name.invariant,
      length-take-le c.loop-name.name-index c.args.names.now (omega (arith, c.loop-name-test.true)),
    )

pub loop-name-preserved : goal.loop-name-preserved
loop-name-preserved c =
    named_more c.args.nets.now.items c.loop-name.nets.items c.push_net.new.nets.items c.args.names.now c.loop-name.name-index _ c.as_slice.result.now c.loop-name-test.true (c.as_slice.ensures ∙ c.name-item.is) c.loop-name.invariant c.in_ok-push_net.ensures
