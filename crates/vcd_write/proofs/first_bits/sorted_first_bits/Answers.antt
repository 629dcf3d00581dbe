use Rattle.std.proofs.lemmas.List.Sorted.{IsNonDecreasingBy-from_sort_by_key}
use Rattle.std.proofs.Common.{rules}
use Rattle.vcd_write.proofs.FirstBits.{in_order_from_zero}
use Rattle.vcd_write.proofs.first_bits.sorted_first_bits.Goals as goal

pub returns-clause-order : goal.returns-clause-order
returns-clause-order c =
    in_order_from_zero c.sort_by_key.new.self.items (IsNonDecreasingBy-from_sort_by_key (λ bit. bit.generation) _ c.in_ok-sort_by_key.ensures.sorted (λ a r q k. search rules))
