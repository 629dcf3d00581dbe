use Rattle.std.proofs.Common.{◌∙◌, sym, ap, refl, arith, get_or}
use Rattle.netlist_core.specs.declared.flat.Node.{Node}
use Rattle.netlist_meaning.specs.Flat.{class_of, no_node}
use Rattle.std.proofs.lemmas.Option.{get_or_from_slice_get}
use Rattle.netlist_eval.proofs.Turns.{settle_more}
use Rattle.netlist_eval.proofs.settle.settle.Goals as goal

pub loop-n-preserved : goal.loop-n-preserved
loop-n-preserved c =
    let flat = c.args.flat.now in
    settle_more flat c.args.order.now c.args.bits.now c.loop-n.bits c.loop-n.n-index (get_or c.args.order.now c.loop-n.n-index 0) c.class_of.result c.node_bit-bit.result (omega arith) c.loop-n.invariant refl
    (c.class_of.ensures ∙ ap (λ (it : Node). class_of flat it.out) (sym (get_or_from_slice_get flat.nodes _ c.get.result.now no_node c.get.ensures))) c.node_bit-bit.ensures
