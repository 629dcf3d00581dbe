use Rattle.std.proofs.Common.{arith, ap, ◌∙◌, List, length}
use Rattle.netlist_core.specs.declared.flat.FlatPort.{FlatPort}
use Rattle.netlist_meaning.specs.Flat.{class_of}
use Rattle.netlist_eval.specs.Eval.{class_bit}
use Rattle.netlist_eval.proofs.Rows.{map_told}
use Rattle.netlist_eval.proofs.Valuations.{no_port}
use Rattle.netlist_eval.proofs.settle.read_outputs.Goals as goal

pub returns : goal.returns
returns c = map_told (λ port. class_bit c.args.bits.now (class_of c.args.flat.now port.net)) c.args.flat.now.outs no_port c.loop-k.outputs (c.loop-k.auto.outputs ∙ c.requires.outputs) (λ k l. c.loop-k.invariant k (let e = ap (λ (v : List FlatPort). length v) c.as_slice-port-items.ensures in omega (arith, e)))
