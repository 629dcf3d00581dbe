use Rattle.std.proofs.Common.{refl, sym, ◌∙◌, ap, ◌+◌, get_or, arith}
use Rattle.std.proofs.lemmas.Result.{on_ok_weaker}
use Rattle.row_placer.specs.Told.{free_tag}
use Rattle.row_placer.specs.Steps.{MakesGate, AddsInstrs}
use Rattle.row_placer.proofs.Carry.{kept_on, next_kept, made_after, swapped_upper, swapped_lower}
use Rattle.row_placer.proofs.lanes.Lanes.gate.Goals as goal

pub make-requires : goal.make-requires
make-requires c =
    let e = c.in_ok-at.ensures.met in
    record {
      lane = omega (arith, e.high, c.find-y.ensures.within, e.adds.long);
      next = next_kept c.args.self.now c.meet.new.self c.args.gate c.in_ok-at.ensures.kept c.requires.next;
      upper = e.first ∙ c.find-x.ensures.here;
      lower = e.second ∙ c.find-y.ensures.here;
      order = λ _. refl;
    }

pub returns-in_ok-at : goal.returns-in_ok-at
returns-in_ok-at c =
    let e = c.in_ok-at.ensures.met in
    let kept = c.in_ok-at.ensures.kept in
    let new = c.make.new.self in
    let m = c.make.ensures in
    record {
      made = on_ok_weaker c.make.result (λ (made : MakesGate c.meet.new.self new c.args.gate). made_after c.args.self.now c.meet.new.self new c.args.gate kept e.same made) m.made;
      adds = on_ok_weaker c.make.result
          (λ (adds : AddsInstrs c.meet.new.self new 1). record {
            long = adds.long ∙ e.adds.long;
            count = omega (arith, adds.count, e.adds.count, c.find-y.ensures.within, c.if-x-y.true);
          }) m.adds;
      job = m.job ∙ kept.job;
    }

pub make-requires-then-is_and_not : goal.make-requires-then-is_and_not
make-requires-then-is_and_not c =
    let at = c.in_ok-at-2.at in
    let e = c.in_ok-at-2.ensures.met in
    let s = c.in_ok-swap.ensures in
    let met = c.meet-else-x-y.new.self in
    record {
      lane = omega (arith, e.high, c.find-x.ensures.within, e.adds.long, s.moved.long);
      next = next_kept c.args.self.now c.swap.new.self c.args.gate (kept_on c.args.self.now met c.swap.new.self c.in_ok-at-2.ensures.kept s.kept) c.requires.next;
      upper = s.moved.lanes at ∙ ap (λ l. get_or met.tags.items l free_tag) (swapped_upper at at refl) ∙ e.second ∙ c.find-x.ensures.here;
      lower = s.moved.lanes (at + 1) ∙ ap (λ l. get_or met.tags.items l free_tag) (swapped_lower at (at + 1) refl) ∙ e.first ∙ c.find-y.ensures.here;
      order = λ _. refl;
    }

pub returns-in_ok-swap : goal.returns-in_ok-swap
returns-in_ok-swap c =
    let e = c.in_ok-at-2.ensures.met in
    let s = c.in_ok-swap.ensures in
    let turned = c.swap.new.self in
    let new = c.make-then-is_and_not.new.self in
    let m = c.make-then-is_and_not.ensures in
    let kept = kept_on c.args.self.now c.meet-else-x-y.new.self turned c.in_ok-at-2.ensures.kept s.kept in
    record {
      made = on_ok_weaker c.make-then-is_and_not.result
          (λ (made : MakesGate turned new c.args.gate). made_after c.args.self.now turned new c.args.gate kept (λ p. s.moved.same p ∙ e.same p) made) m.made;
      adds = on_ok_weaker c.make-then-is_and_not.result
          (λ (adds : AddsInstrs turned new 1). record {
            long = adds.long ∙ s.moved.long ∙ e.adds.long;
            count = omega (arith, adds.count, s.moved.count, e.adds.count, c.find-x.ensures.within, e.low, e.high);
          }) m.adds;
      job = m.job ∙ kept.job;
    }

pub make-requires-else-is_and_not : goal.make-requires-else-is_and_not
make-requires-else-is_and_not c =
    let e = c.in_ok-at-2.ensures.met in
    record {
      lane = omega (arith, e.high, c.find-x.ensures.within, e.adds.long);
      next = next_kept c.args.self.now c.meet-else-x-y.new.self c.args.gate c.in_ok-at-2.ensures.kept c.requires.next;
      upper = e.first ∙ c.find-y.ensures.here;
      lower = e.second ∙ c.find-x.ensures.here;
      order = λ is. sym (c.is_and_not.ensures.yes is) ∙ c.if-is_and_not.false;
    }

pub returns-else-is_and_not : goal.returns-else-is_and_not
returns-else-is_and_not c =
    let e = c.in_ok-at-2.ensures.met in
    let kept = c.in_ok-at-2.ensures.kept in
    let met = c.meet-else-x-y.new.self in
    let new = c.make-else-is_and_not.new.self in
    let m = c.make-else-is_and_not.ensures in
    record {
      made = on_ok_weaker c.make-else-is_and_not.result (λ (made : MakesGate met new c.args.gate). made_after c.args.self.now met new c.args.gate kept e.same made) m.made;
      adds = on_ok_weaker c.make-else-is_and_not.result
          (λ (adds : AddsInstrs met new 1). record {
            long = adds.long ∙ e.adds.long;
            count = omega (arith, adds.count, e.adds.count, c.find-x.ensures.within, e.low, e.high);
          }) m.adds;
      job = m.job ∙ kept.job;
    }
