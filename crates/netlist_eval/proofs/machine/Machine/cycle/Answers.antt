use Rattle.std.proofs.Common.{◌≡◌, ◌∙◌, sym, subst, ap, arith, length, take, drop, ◌++◌}
use Rattle.std.proofs.lemmas.List.{take_at}
use Rattle.netlist_core.specs.declared.flat.FlatPort.{FlatPort}
use Rattle.netlist_core.specs.declared.flat.FlatLatch.{FlatLatch}
use Rattle.netlist_meaning.specs.Flat.{class_of}
use Rattle.netlist_eval.specs.Eval.{class_bit, evaluated, Held}
use Rattle.netlist_meaning.specs.FlatValuation.{IsCycle}
use Rattle.netlist_eval.proofs.Turns.{same_read}
use Rattle.netlist_eval.proofs.Valuations.{evaluated_solves}
use Rattle.netlist_eval.proofs.machine.Machine.cycle.Goals as goal

pub returns-clause-cycle : goal.returns-clause-cycle
returns-clause-cycle c =
    let s = c.self.inside in
    let view : ◌≡◌ {A = Held} (record { flat = s.flat.now; state = s.state.items }) c.args.self.now = c.self.view_is in
    subst (λ (held : Held). IsCycle held.flat c.args.inputs.now held.state c.run_cycle.new.outputs (take s.state.len (c.run_cycle.new.state ++ drop (length c.run_cycle.new.state) s.state.items))) view
    (record {
      bits = class_bit (evaluated s.flat.now s.order.nodes c.args.inputs.now s.state.items s.bits.items);
      solves = evaluated_solves s.flat.now c.self.invariant.0 s.order.nodes c.self.invariant.1 c.args.inputs.now s.state.items s.bits.items (c.requires.inputs ∙ ap (λ (h : Held). length h.flat.ins) (sym view)) c.self.invariant.3 c.self.invariant.2;
      outputs_are = c.run_cycle.ensures.outputs ∙ same_read (λ (port : FlatPort). class_of s.flat.now port.net) s.flat.now.outs s.flat.now c.args.inputs.now s.order.nodes c.as_slice.result.now s.state.items c.deref_mut-2.result.now s.bits.items c.deref_mut.result.now c.as_slice.ensures c.deref_mut-2.ensures.value c.deref_mut.ensures.value;
      next_is = take_at c.run_cycle.new.state (drop (length c.run_cycle.new.state) s.state.items) s.state.len (omega (arith, s.state.ok.0, c.run_cycle.auto.state, c.deref_mut-2.ensures.len))
          ∙ c.run_cycle.ensures.state ∙ same_read (λ (latch : FlatLatch). class_of s.flat.now latch.input) s.flat.now.latches s.flat.now c.args.inputs.now s.order.nodes c.as_slice.result.now s.state.items c.deref_mut-2.result.now s.bits.items c.deref_mut.result.now c.as_slice.ensures c.deref_mut-2.ensures.value c.deref_mut.ensures.value;
    })
