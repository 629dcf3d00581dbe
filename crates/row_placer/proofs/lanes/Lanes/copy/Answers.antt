use Rattle.std.proofs.Common.{refl, ◌∙◌, ap, ◌+◌, get_or, arith}
use Rattle.row_placer.specs.Told.{free_tag}
use Rattle.row_placer.proofs.Carry.{kept_on, copied_after, swapped_upper, swapped_lower}
use Rattle.row_placer.proofs.lanes.Lanes.copy.Goals as goal

pub returns-in_ok-fork : goal.returns-in_ok-fork
returns-in_ok-fork c =
    let at = c.in_ok-at.at in
    let e = c.in_ok-at.ensures.met in
    let f = c.in_ok-fork.ensures in
    let low = c.choose_free-free.ensures.within in
    record {
      within = omega (arith, e.high, low);
      copied = copied_after c.args.self.now c.meet.new.self c.fork.new.self c.args.lane at e.same e.first (e.second ∙ c.choose_free-free.ensures.here) f.copied;
      adds = record { long = f.adds.long ∙ e.adds.long; count = omega (arith, f.adds.count, e.adds.count, low, e.low, e.high) };
      kept = kept_on c.args.self.now c.meet.new.self c.fork.new.self c.in_ok-at.ensures.kept f.kept;
    }

pub returns-in_ok-fork-2 : goal.returns-in_ok-fork-2
returns-in_ok-fork-2 c =
    let at = c.in_ok-at-2.at in
    let e = c.in_ok-at-2.ensures.met in
    let s = c.in_ok-swap.ensures in
    let f = c.in_ok-fork-2.ensures in
    let met = c.meet-else-lane-free.new.self in
    let turned = c.swap.new.self in
    record {
      within = omega (arith, e.high, c.requires.within);
      copied = copied_after c.args.self.now turned c.fork-else-lane-free.new.self c.args.lane at (λ p. s.moved.same p ∙ e.same p)
          (s.moved.lanes at ∙ ap (λ l. get_or met.tags.items l free_tag) (swapped_upper at at refl) ∙ e.second)
          (s.moved.lanes (at + 1) ∙ ap (λ l. get_or met.tags.items l free_tag) (swapped_lower at (at + 1) refl) ∙ e.first ∙ c.choose_free-free.ensures.here) f.copied;
      adds = record {
        long = f.adds.long ∙ s.moved.long ∙ e.adds.long;
        count = omega (arith, f.adds.count, s.moved.count, e.adds.count, c.requires.within, e.low, e.high);
      };
      kept = kept_on c.args.self.now turned c.fork-else-lane-free.new.self (kept_on c.args.self.now met turned c.in_ok-at-2.ensures.kept s.kept) f.kept;
    }
