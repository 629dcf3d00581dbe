use Rattle.std.proofs.Common.{◌∙◌, ap, length, arith}
use Rattle.std.proofs.lemmas.List.{length-append, length-map}
use Rattle.aiger_text.specs.declared.aig.AigLatch.{AigLatch}
use Rattle.aiger_meaning.proofs.Pushes.{many_gates, nodes_are}
use Rattle.aiger_meaning.proofs.Values.{nexts_of}
use Rattle.aiger_meaning.proofs.nodes.nodes_of.Goals as goal

pub push_buffers-requires-clause-room : goal.push_buffers-requires-clause-room
push_buffers-requires-clause-room c =
    omega (
      arith,
      many_gates c.args.aig.now c.zero_node.result c.new-nodes.result.items c.push.new.self.items c.push_gates.new.nodes.items c.new-nodes.ensures.items c.zero_node.ensures c.in_ok-push.ensures.items c.in_ok-push_gates.ensures,
      ap length (c.deref.ensures.value ∙ c.in_ok-buffers.ensures),
      length-append (nexts_of c.args.aig.now) c.args.aig.now.outputs,
      length-map c.args.aig.now.latches (λ (latch : AigLatch). latch.next),
      c.requires.small,
    )

pub returns : goal.returns
returns c =
    nodes_are c.args.aig.now c.zero_node.result c.new-nodes.result.items c.push.new.self.items c.push_gates.new.nodes.items c.new-nodes.ensures.items c.zero_node.ensures c.in_ok-push.ensures.items c.in_ok-push_gates.ensures
    c.deref.result.now c.push_buffers.new.nodes.items (c.deref.ensures.value ∙ c.in_ok-buffers.ensures) c.in_ok-push_buffers.ensures
