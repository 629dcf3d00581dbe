use Rattle.std.proofs.Common.{true, map, Bool}
use Rattle.std.proofs.lemmas.Result.{IfOk-weaker}
use Rattle.cell_polarity.specs.Marks.{AreMarked}
use Rattle.cell_polarity.specs.Needed.{needed}
use Rattle.cell_polarity.proofs.Marking.{same_marked}
use Rattle.cell_polarity.proofs.high.grow.Goals as goal
use Rattle.cell_polarity.proofs.high.grow.Goals.{After-deref-4}

marked : (c : After-deref-4) → AreMarked c.lower.new.low.zeros.items (needed c.args.old.now c.args.kept.now) c.deref-3.result.now
marked c = same_marked (λ flags. flags) c.deref.result.now c.lower.new.low.zeros.items (needed c.args.old.now c.args.kept.now) c.in_ok-marks.marks.items c.deref-3.result.now c.deref.ensures.value c.deref-3.ensures.value c.in_ok-marks.ensures

stay : (c : After-deref-4) → AreMarked (map (λ (zero : Bool). true) c.lower.new.low.zeros.items) c.args.kept.now c.deref-4.result.now
stay c = same_marked (map (λ (zero : Bool). true)) c.deref-2.result.now c.lower.new.low.zeros.items c.args.kept.now c.in_ok-stays.stays.items c.deref-4.result.now c.deref-2.ensures.value c.deref-4.ensures.value c.in_ok-stays.ensures

pub raise_all-requires-clause-marks : goal.raise_all-requires-clause-marks
raise_all-requires-clause-marks c = marked (goal.at.raise_all-requires-clause-marks c).After-deref-4

pub raise_all-requires-clause-stays : goal.raise_all-requires-clause-stays
raise_all-requires-clause-stays c = stay (goal.at.raise_all-requires-clause-stays c).After-deref-4

pub returns : goal.returns
returns c =
    let at = (goal.at.returns c).After-deref-4 in
    let low = c.lower.new.low in
    IfOk-weaker c.raise_all.result _ _ (λ news raised. record {
      low = low.list;
      lows = low.lows.items;
      zeros = low.zeros.items;
      marks = c.deref-3.result.now;
      stays = c.deref-4.result.now;
      are_low = c.in_ok-lower.ensures;
      are_marked = marked at;
      are_stays = stay at;
      are_raised = raised;
    }) c.raise_all.ensures
