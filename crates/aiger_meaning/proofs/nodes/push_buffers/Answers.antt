use Rattle.std.proofs.Common.{ℕ, ◌+◌, refl, ◌∙◌, ap, List, ◌++◌, length, map, take, arith}
use Rattle.std.proofs.lemmas.List.{length-take-le, take_all}
use Rattle.std.proofs.lemmas.Result.{err_from_is_err_and}
use Rattle.aiger_meaning.specs.FlatOf.{nodes_from, buffer}
use Rattle.aiger_meaning.proofs.Pushes.{many_read, read_more}
use Rattle.aiger_meaning.proofs.nodes.push_buffers.Goals as goal

pub push_node-requires-clause-room : goal.push_node-requires-clause-room
push_node-requires-clause-room c =
    omega (
      arith,
      c.requires.room,
      c.loop-lit-test.true,
      many_read buffer c.args.aig.now (length c.args.aig.now.inputs + length c.args.aig.now.latches) c.args.nodes.now.items c.loop-lit.nodes.items (take c.loop-lit.lit-index c.args.lits.now) c.loop-lit.invariant,
      length-take-le c.loop-lit.lit-index c.args.lits.now (omega (arith, c.loop-lit-test.true)),
    )

pub returns-in_err-push_node : goal.returns-in_err-push_node
returns-in_err-push_node c = rw ((err_from_is_err_and c.from_residual.result c.from_residual.ensures.1).1) tt

pub returns : goal.returns
returns c =
    c.loop-lit.invariant
    ∙ ap (λ (lits : List ℕ). c.args.nodes.now.items ++ nodes_from c.args.aig.now (length c.args.aig.now.inputs + length c.args.aig.now.latches + length c.args.nodes.now.items) (map buffer lits))
    (take_all c.loop-lit.lit-index c.args.lits.now c.loop-lit-test.false)

pub loop-lit-preserved : goal.loop-lit-preserved
loop-lit-preserved c =
    read_more buffer c.args.aig.now (length c.args.aig.now.inputs + length c.args.aig.now.latches) c.args.nodes.now.items c.loop-lit.nodes.items c.push_node.new.nodes.items c.args.lits.now c.loop-lit.lit-index _ _
    c.loop-lit-test.true refl c.loop-lit.invariant c.in_ok-push_node.ensures
