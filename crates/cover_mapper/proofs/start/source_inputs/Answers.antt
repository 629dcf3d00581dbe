use Rattle.std.proofs.Common.{refl, ◌∙◌, ap, List, length, arith, get_or}
use Rattle.netlist_core.specs.declared.flat.FlatPort.{FlatPort}
use Rattle.netlist_meaning.specs.Flat.{class_of}
use Rattle.cover_mapper.proofs.Starting.{input_within, input_sourced}
use Rattle.cover_mapper.proofs.start.source_inputs.Goals as goal

pub bounds-sources-class_of : goal.bounds-sources-class_of
bounds-sources-class_of c =
    omega (
      arith,
      c.loop-i.invariant.long,
      input_within c.args.flat.now c.requires.sound c.loop-i.i _ c.class_of.result
          (omega (arith, c.loop-i-test.true, ap length c.as_slice-port-items.ensures))
          (c.class_of.ensures ∙ ap (λ (l : List FlatPort). class_of c.args.flat.now (get_or l c.loop-i.i _).net) c.as_slice-port-items.ensures),
    )

pub loop-i-preserved : goal.loop-i-preserved
loop-i-preserved c =
    input_sourced c.args.flat.now c.requires.sound c.args.list.now c.loop-i.sources c.loop-i.i _ c.class_of.result c.loop-i.i
    (omega (arith, c.loop-i-test.true, ap length c.as_slice-port-items.ensures)) c.requires.inputs
    (c.class_of.ensures ∙ ap (λ (l : List FlatPort). class_of c.args.flat.now (get_or l c.loop-i.i _).net) c.as_slice-port-items.ensures) refl c.loop-i.invariant
