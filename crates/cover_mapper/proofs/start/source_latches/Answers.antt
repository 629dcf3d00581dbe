use Rattle.std.proofs.Common.{refl, ◌∙◌, ap, List, length, arith, get_or}
use Rattle.netlist_core.specs.declared.flat.FlatLatch.{FlatLatch}
use Rattle.netlist_meaning.specs.Flat.{class_of}
use Rattle.cover_mapper.proofs.Starting.{latch_within, latch_sourced}
use Rattle.cover_mapper.proofs.start.source_latches.Goals as goal

pub bounds-sources-class_of : goal.bounds-sources-class_of
bounds-sources-class_of c =
    omega (
      arith,
      c.loop-i.invariant.long,
      latch_within c.args.flat.now c.requires.sound c.loop-i.i _ c.class_of.result
          (omega (arith, c.loop-i-test.true, ap length c.as_slice-latch-items.ensures))
          (c.class_of.ensures ∙ ap (λ (l : List FlatLatch). class_of c.args.flat.now (get_or l c.loop-i.i _).output) c.as_slice-latch-items.ensures),
    )

pub loop-i-preserved : goal.loop-i-preserved
loop-i-preserved c =
    latch_sourced c.args.flat.now c.requires.sound c.args.list.now c.loop-i.sources c.loop-i.i _ c.class_of.result c.loop-i.i
    (omega (arith, c.loop-i-test.true, ap length c.as_slice-latch-items.ensures)) c.requires.starts
    (c.class_of.ensures ∙ ap (λ (l : List FlatLatch). class_of c.args.flat.now (get_or l c.loop-i.i _).output) c.as_slice-latch-items.ensures) refl c.loop-i.invariant
