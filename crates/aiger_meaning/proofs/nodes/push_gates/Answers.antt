use Rattle.std.proofs.Common.{◌+◌, ◌<◌, ◌≤◌, ◌∙◌, ap, List, ◌++◌, get_or, length, map, take, arith}
use Rattle.std.proofs.lemmas.List.{length-take-le, take_all}
use Rattle.aiger_text.specs.SoundAig.{sides_of}
use Rattle.std.proofs.lemmas.Result.{err_from_is_err_and}
use Rattle.aiger_meaning.specs.FlatOf.{nodes_from}
use Rattle.aiger_meaning.proofs.Pushes.{many_read, read_more}
use Rattle.aiger_meaning.proofs.nodes.push_gates.Goals as goal
use Rattle.aiger_text.specs.declared.aig.AigAnd.{AigAnd}

abbrev no_gate : AigAnd
no_gate = record { lhs = 0; rhs0 = 0; rhs1 = 0 }

pub push_node-requires-clause-room : goal.push_node-requires-clause-room
push_node-requires-clause-room c =
    let low : c.loop-gate.gate-index < length c.args.aig.now.ands = omega (arith, c.loop-gate-test.true, ap length c.as_slice-gate-items.ensures) in
    omega (
      arith,
      c.requires.room,
      low,
      many_read sides_of c.args.aig.now (length c.args.aig.now.inputs + length c.args.aig.now.latches) c.args.nodes.now.items c.loop-gate.nodes.items (take c.loop-gate.gate-index c.args.aig.now.ands) c.loop-gate.invariant,
      length-take-le c.loop-gate.gate-index c.args.aig.now.ands (omega (arith, low)),
    )

pub returns-in_err-push_node : goal.returns-in_err-push_node
returns-in_err-push_node c = rw ((err_from_is_err_and c.from_residual.result c.from_residual.ensures.1).1) tt

pub returns : goal.returns
returns c =
    let past : length c.args.aig.now.ands ≤ c.loop-gate.gate-index = omega (arith, c.loop-gate-test.false, ap length c.as_slice-gate-items.ensures) in
    c.loop-gate.invariant
    ∙ ap (λ (gates : List AigAnd). c.args.nodes.now.items ++ nodes_from c.args.aig.now (length c.args.aig.now.inputs + length c.args.aig.now.latches + length c.args.nodes.now.items) (map sides_of gates))
    (take_all c.loop-gate.gate-index c.args.aig.now.ands past)

pub loop-gate-preserved : goal.loop-gate-preserved
loop-gate-preserved c =
    let low : c.loop-gate.gate-index < length c.args.aig.now.ands = omega (arith, c.loop-gate-test.true, ap length c.as_slice-gate-items.ensures) in
    read_more sides_of c.args.aig.now (length c.args.aig.now.inputs + length c.args.aig.now.latches) c.args.nodes.now.items c.loop-gate.nodes.items c.push_node.new.nodes.items c.args.aig.now.ands c.loop-gate.gate-index no_gate _
    low (ap (λ gs. sides_of (get_or gs c.loop-gate.gate-index no_gate)) c.as_slice-gate-items.ensures) c.loop-gate.invariant c.in_ok-push_node.ensures
