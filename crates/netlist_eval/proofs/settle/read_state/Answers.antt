use Rattle.std.proofs.Common.{arith, ap, ◌∙◌, List, length}
use Rattle.netlist_core.specs.declared.flat.FlatLatch.{FlatLatch}
use Rattle.netlist_meaning.specs.Flat.{class_of}
use Rattle.netlist_eval.specs.Eval.{class_bit}
use Rattle.netlist_eval.proofs.Rows.{map_told}
use Rattle.netlist_eval.proofs.Valuations.{no_latch}
use Rattle.netlist_eval.proofs.settle.read_state.Goals as goal

pub returns : goal.returns
returns c = map_told (λ latch. class_bit c.args.bits.now (class_of c.args.flat.now latch.input)) c.args.flat.now.latches no_latch c.loop-k.state (c.loop-k.auto.state ∙ c.requires.state) (λ k l. c.loop-k.invariant k (let e = ap (λ (v : List FlatLatch). length v) c.as_slice-latch-items.ensures in omega (arith, e)))
