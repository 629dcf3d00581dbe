use Rattle.std.proofs.Common.{◌≡◌, ◌∙◌, sym, refl, arith, length, get_or, false}
use Rattle.std.proofs.lemmas.List.{length-map}
use Rattle.netlist_core.specs.declared.flat.FlatLatch.{FlatLatch}
use Rattle.netlist_meaning.specs.Flat.{class_of}
use Rattle.netlist_eval.specs.Eval.{latch_classes}
use Rattle.netlist_eval.proofs.Turns.{put_more, put_end, latch_at}
use Rattle.netlist_eval.proofs.settle.put_state.Goals as goal

pub loop-k-preserved : goal.loop-k-preserved
loop-k-preserved c =
    let flat = c.args.flat.now in
    let long : length (latch_classes flat flat.latches) ≡ length flat.latches = length-map flat.latches (λ (it : FlatLatch). class_of flat it.output) in
    put_more (latch_classes flat flat.latches) c.args.state.now c.args.bits.now c.loop-k.bits c.loop-k.k c.class_of.result (get_or c.args.state.now c.loop-k.k false)
    (c.requires.state ∙ sym long) (omega (arith, long)) c.loop-k.invariant (c.class_of.ensures ∙ latch_at flat c.loop-k.k c.get.result.now (omega arith) c.get.ensures) refl

pub returns : goal.returns
returns c =
    let flat = c.args.flat.now in
    let long : length (latch_classes flat flat.latches) ≡ length flat.latches = length-map flat.latches (λ (it : FlatLatch). class_of flat it.output) in
    put_end (latch_classes flat flat.latches) c.args.state.now c.args.bits.now c.loop-k.bits c.loop-k.k (c.requires.state ∙ sym long) (omega (arith, long)) c.loop-k.invariant
