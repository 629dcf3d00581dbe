use Rattle.std.proofs.Common.{◌≡◌, refl, sym, subst, ℕ, ◌+◌, List, take, arith}
use Rattle.std.proofs.lemmas.Bool.{false≢true}
use Rattle.std.proofs.lemmas.List.{take_all}
use Rattle.macro_grid.specs.Spans.{AreDistinctWithin}
use Rattle.macro_grid.proofs.Spans.{IsMarked, marked_start, marked_past, marked_once, marked_twice}
use Rattle.macro_grid.proofs.ports.are_distinct_in_span.Goals as goal
use Rattle.macro_grid.proofs.ports.are_distinct_in_span.Goals.{in-Some+else-marks-place, in_default}

pub loop-lane-init : goal.loop-lane-init
loop-lane-init c = marked_start 65536 c.args.from

pub loop-lane-preserved : goal.loop-lane-preserved
loop-lane-preserved c =
    let lanes = c.args.lanes.now in
    let i = c.loop-lane.lane-index in
    elim c.match-place_in_span.branch [
      | in-Some+else-marks-place w ↦
          subst (IsMarked 65536 c.args.from (take (i + 1) lanes)) (sym w.marks-is)
          (marked_once 65536 c.args.from lanes i w.in-Some.place c.loop-lane.marks (omega arith) c.loop-lane.invariant
          w.in-Some.ensures.0 w.in-Some.ensures.1 w.if-marks-place.false)
      | in_default w ↦
          subst (IsMarked 65536 c.args.from (take (i + 1) lanes)) (sym w.marks-is)
          (marked_past 65536 c.args.from lanes i c.loop-lane.marks (omega arith) c.loop-lane.invariant w.in_default.ensures)
    ]

pub returns-then-marks-place : goal.returns-then-marks-place
returns-then-marks-place c = (
  λ no. absurd (false≢true no),
  λ h. absurd (marked_twice 65536 c.args.from c.args.lanes.now c.loop-lane.lane-index c.in-Some.place c.loop-lane.marks
      (omega arith) c.loop-lane.invariant c.in-Some.ensures.0 c.in-Some.ensures.1 c.if-marks-place.true h),
)

pub returns : goal.returns
returns c =
    let whole : take c.loop-lane.lane-index c.args.lanes.now ≡ c.args.lanes.now = take_all _ _ c.loop-lane-test.false in
    (λ yes. subst (λ (ys : List ℕ). AreDistinctWithin c.args.from (c.args.from + 65536) ys) whole c.loop-lane.invariant.distinct, λ h. refl)
