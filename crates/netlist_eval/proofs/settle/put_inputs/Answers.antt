use Rattle.std.proofs.Common.{◌≡◌, ◌∙◌, sym, refl, arith, length, get_or, false}
use Rattle.std.proofs.lemmas.List.{length-map}
use Rattle.netlist_core.specs.declared.flat.FlatPort.{FlatPort}
use Rattle.netlist_meaning.specs.Flat.{class_of, port_classes}
use Rattle.netlist_eval.proofs.Turns.{put_more, put_end, input_at}
use Rattle.netlist_eval.proofs.settle.put_inputs.Goals as goal

pub loop-k-preserved : goal.loop-k-preserved
loop-k-preserved c =
    let flat = c.args.flat.now in
    let long : length (port_classes flat flat.ins) ≡ length flat.ins = length-map flat.ins (λ (port : FlatPort). class_of flat port.net) in
    put_more (port_classes flat flat.ins) c.args.inputs.now c.args.bits.now c.loop-k.bits c.loop-k.k c.class_of.result (get_or c.args.inputs.now c.loop-k.k false)
    (c.requires.inputs ∙ sym long) (omega (arith, long)) c.loop-k.invariant (c.class_of.ensures ∙ input_at flat c.loop-k.k c.get.result.now (omega arith) c.get.ensures) refl

pub returns : goal.returns
returns c =
    let flat = c.args.flat.now in
    let long : length (port_classes flat flat.ins) ≡ length flat.ins = length-map flat.ins (λ (port : FlatPort). class_of flat port.net) in
    put_end (port_classes flat flat.ins) c.args.inputs.now c.args.bits.now c.loop-k.bits c.loop-k.k (c.requires.inputs ∙ sym long) (omega (arith, long)) c.loop-k.invariant
