use Rattle.std.proofs.Common.{arith}
use Rattle.std.proofs.lemmas.Result.{IfOk-weaker}
use Rattle.route_tables.proofs.wires.is_wire_there.Goals as goal

pub returns : goal.returns
returns c =
    IfOk-weaker c.goes_on.result _ _ (λ _ goes. record {
      begins = c.has_ends.ensures.begins c.if-not-has_ends.false;
      ends = c.has_ends.ensures.ends c.if-not-has_ends.false;
      two_ends = c.has_ends.ensures.two_ends c.if-not-has_ends.false;
      some = omega arith;
      inside = omega arith;
      grouped = c.is_grouped.ensures c.if-not-is_grouped.false;
      goes_on = goes;
    }) c.goes_on.ensures
