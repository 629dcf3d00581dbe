use Rattle.std.proofs.Common.{rules, ◌≡◌, refl, ◌<◌, true, false, get_or, arith}
use Rattle.std.proofs.lemmas.Bool.{false≢true}
use Rattle.std.proofs.lemmas.List.{get_or_default}
use Rattle.tile_match.proofs.LaneMarks.{marked_once, marked_twice}
use Rattle.tile_match.proofs.marks.are_distinct.Goals as goal

pub loop-lane-preserved : goal.loop-lane-preserved
loop-lane-preserved c =
    let fresh : get_or c.loop-lane.marks.items (get_or c.args.lanes.now c.loop-lane.lane-index 0) false ≡ false = search rules in
    marked_once c.args.limit c.args.lanes.now c.loop-lane.lane-index (get_or c.args.lanes.now c.loop-lane.lane-index 0) c.loop-lane.marks.items (omega arith) refl
    (c.requires.below c.loop-lane.lane-index 0 (omega arith)) fresh c.loop-lane.invariant

pub returns-then-index : goal.returns-then-index
returns-then-index c = (
  λ no. absurd (false≢true no),
  λ all. (let low : get_or c.args.lanes.now c.loop-lane.lane-index 0 < c.args.limit = c.requires.below c.loop-lane.lane-index 0 (omega arith) in
      let moved : get_or c.loop-lane.marks.items (get_or c.args.lanes.now c.loop-lane.lane-index 0) false ≡ get_or c.loop-lane.marks.items (get_or c.args.lanes.now c.loop-lane.lane-index 0) c.index.result.now =
      get_or_default c.loop-lane.marks.items (get_or c.args.lanes.now c.loop-lane.lane-index 0) false c.index.result.now (omega (arith, low, c.loop-lane.invariant.marks.full)) in
      let lit : get_or c.loop-lane.marks.items (get_or c.args.lanes.now c.loop-lane.lane-index 0) false ≡ true = cc in
      absurd (marked_twice c.args.limit c.args.lanes.now c.loop-lane.lane-index (get_or c.args.lanes.now c.loop-lane.lane-index 0) c.loop-lane.marks.items (omega arith) refl lit c.loop-lane.invariant.marks all)),
)
