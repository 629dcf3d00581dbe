use Rattle.std.proofs.Common.{◌≡◌, ◌∙◌, ap, ◌+◌, ◌<◌, ℕ, get_or, arith}
use Rattle.std.proofs.lemmas.Bool.Decides.{nat_tests}
use Rattle.channel_router.specs.Routes.{brought}
use Rattle.row_placer.specs.Told.{free_tag}
use Rattle.row_placer.proofs.Carry.{brought_to, kept_on}
use Rattle.row_placer.proofs.Ports.{brought_past}
use Rattle.row_placer.proofs.lanes.Lanes.meet.Goals as goal

stays : (lower at : ℕ) → at < lower → brought lower (at + 1) at ≡ at
stays lower at low = grind (arith, nat_tests)

pub bring-requires : goal.bring-requires
bring-requires c = record {
  from = omega (arith, c.requires.order, c.requires.within);
  to = omega (arith, c.joining-at.ensures.high, c.requires.within);
}

pub bring-requires-2 : goal.bring-requires-2
bring-requires-2 c =
    let long = c.in_ok-bring.ensures.moved.long in
    record {
      from = omega (arith, long, c.requires.within);
      to = omega (arith, long, c.joining-at.ensures.high, c.requires.within);
    }

pub returns : goal.returns
returns c =
    let at = c.joining-at.result in
    let tags = c.args.self.now.tags.items in
    let between = c.joining-at.ensures in
    let one = c.in_ok-bring.ensures in
    let two = c.in_ok-bring-2.ensures in
    record {
      met = record {
        low = between.low;
        high = between.high;
        first = two.moved.lanes at
            ∙ ap (λ l. get_or c.bring.new.self.tags.items l free_tag) (stays c.args.lower at between.high)
            ∙ one.moved.lanes at
            ∙ ap (λ l. get_or tags l free_tag) (brought_to c.args.upper at);
        second = two.moved.lanes (at + 1)
            ∙ ap (λ l. get_or c.bring.new.self.tags.items l free_tag) (brought_to c.args.lower (at + 1))
            ∙ one.moved.lanes c.args.lower
            ∙ ap (λ l. get_or tags l free_tag) (brought_past c.args.upper at c.args.lower between.low between.high);
        same = λ p. two.moved.same p ∙ one.moved.same p;
        adds = record {
          long = two.moved.long ∙ one.moved.long;
          count = omega (arith, between.low, between.high, one.moved.count, two.moved.count);
        };
      };
      kept = kept_on c.args.self.now c.bring.new.self c.bring-2.new.self one.kept two.kept;
    }
