use Rattle.std.proofs.Common.{◌≡◌, refl, sym, ◌∙◌, ap, ◌+◌, inl, inr, true, false, [], arith}
use Rattle.vcd_write.specs.DueBits.{comes_first}
use Rattle.vcd_write.proofs.DueOrder.{by_option, if_some, taken_front, order_first, before_others, after_others, some_first, none_first, none_taken, no_more, near_rest, up_to_later}
use Rattle.vcd_write.proofs.due_bits.DueBits.take_earliest.Goals as goal

pub returns-then-comes_first-clause-taken : goal.returns-then-comes_first-clause-taken
returns-then-comes_first-clause-taken c =
    let begun = c.args.self.now.begun.items in
    let unbegun = c.args.self.now.unbegun.items in
    let first : comes_first begun unbegun ≡ true = sym c.comes_first.ensures ∙ c.if-comes_first.true in
    by_option c.pop_front.result
    (λ none. absurd (none_taken begun c.pop_front.new.self.items c.pop_front.result (some_first begun unbegun first) (λ d some. c.pop_front.ensures.value d (omega (arith, c.args.self.now.begun.ok, some))) none))
    (λ bit is. inr (refl, taken_front begun c.pop_front.new.self.items c.pop_front.result bit c.pop_front.ensures.items is))

pub returns-then-comes_first-clause-order : goal.returns-then-comes_first-clause-order
returns-then-comes_first-clause-order c =
    let begun = c.args.self.now.begun.items in
    let unbegun = c.args.self.now.unbegun.items in
    let first : comes_first begun unbegun ≡ true = sym c.comes_first.ensures ∙ c.if-comes_first.true in
    if_some c.pop_front.result
    (λ bit is g period order.
    let front = taken_front begun c.pop_front.new.self.items c.pop_front.result bit c.pop_front.ensures.items is in
    let next = order_first g begun bit c.pop_front.new.self.items front order.begun in (
      next.0,
      record {
        unbegun = before_others begun unbegun g bit c.pop_front.new.self.items front first order.unbegun;
        begun = next.1;
        near = near_rest g period begun bit c.pop_front.new.self.items front next.0 order.near;
      },
    ))

pub returns-else-comes_first-clause-taken : goal.returns-else-comes_first-clause-taken
returns-else-comes_first-clause-taken c =
    let begun = c.args.self.now.begun.items in
    let unbegun = c.args.self.now.unbegun.items in
    let first : comes_first begun unbegun ≡ false = sym c.comes_first.ensures ∙ c.if-comes_first.false in
    by_option c.pop_front-else-comes_first.result
    (λ none.
    let empty : unbegun ≡ [] = no_more unbegun c.pop_front-else-comes_first.result (λ d some. c.pop_front-else-comes_first.ensures.value d (omega (arith, c.args.self.now.unbegun.ok, some))) none in
    (empty, none_first begun (sym (ap (comes_first begun) empty) ∙ first)))
    (λ bit is. inl (taken_front unbegun c.pop_front-else-comes_first.new.self.items c.pop_front-else-comes_first.result bit c.pop_front-else-comes_first.ensures.items is, refl))

pub returns-else-comes_first-clause-order : goal.returns-else-comes_first-clause-order
returns-else-comes_first-clause-order c =
    let begun = c.args.self.now.begun.items in
    let unbegun = c.args.self.now.unbegun.items in
    let first : comes_first begun unbegun ≡ false = sym c.comes_first.ensures ∙ c.if-comes_first.false in
    if_some c.pop_front-else-comes_first.result
    (λ bit is g period order.
    let front = taken_front unbegun c.pop_front-else-comes_first.new.self.items c.pop_front-else-comes_first.result bit c.pop_front-else-comes_first.ensures.items is in
    let next = order_first g unbegun bit c.pop_front-else-comes_first.new.self.items front order.unbegun in (
      next.0,
      record {
        unbegun = next.1;
        begun = after_others begun unbegun g bit c.pop_front-else-comes_first.new.self.items front first order.begun;
        near = up_to_later (g + period) (bit.generation + period) begun (omega (arith, next.0)) order.near;
      },
    ))
