use Rattle.std.proofs.Common.{◌+◌, Vec, Bool, get_or, refl, sym, subst}
use Rattle.std.proofs.lemmas.Option.{slice_get-get_or}
use Rattle.lists.proofs.Options.{none_where}
use Rattle.netlist_flatten.proofs.Controls.{MarkedBefore, marked_none, marked_some, marked_all, mark_there}
use Rattle.netlist_flatten.proofs.ports.control_classes.Goals as goal
use Rattle.netlist_flatten.proofs.ports.control_classes.Goals.{in-Some, in_default}

pub loop-latch-preserved : goal.loop-latch-preserved
loop-latch-preserved c =
    elim c.match-latch.branch [
      | in-Some w ↦
          subst (λ (v : Vec Bool _). MarkedBefore c.args.classes.now c.args.latches.now (c.loop-latch.latch-index + 1) v.items) (sym w.marks-is)
          (marked_some c.args.classes.now c.args.latches.now c.loop-latch.latch-index c.loop-latch.marks.items _ w.in-Some.id (get_or c.args.classes.now w.in-Some.id.0 0)
          (slice_get-get_or c.args.latches.now c.loop-latch.latch-index _ c.loop-latch-test.true) w.in-Some.is refl
          (mark_there c.args.classes.now c.args.latches.now c.loop-latch.latch-index _ w.in-Some.id c.requires.classes c.requires.latches (slice_get-get_or c.args.latches.now c.loop-latch.latch-index _ c.loop-latch-test.true) w.in-Some.is) c.loop-latch.invariant)
      | in_default w ↦
          subst (λ (v : Vec Bool _). MarkedBefore c.args.classes.now c.args.latches.now (c.loop-latch.latch-index + 1) v.items) (sym w.marks-is)
          (marked_none c.args.classes.now c.args.latches.now c.loop-latch.latch-index c.loop-latch.marks.items _ (slice_get-get_or c.args.latches.now c.loop-latch.latch-index _ c.loop-latch-test.true) (none_where _ w.in_default.not-Some) c.loop-latch.invariant)
    ]

pub returns-clause-marked : goal.returns-clause-marked
returns-clause-marked c = marked_all c.args.classes.now c.args.latches.now c.loop-latch.latch-index c.loop-latch.marks.items c.loop-latch-test.false c.loop-latch.invariant
