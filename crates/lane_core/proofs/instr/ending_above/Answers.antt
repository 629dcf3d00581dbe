use Rattle.std.proofs.Common.{◌+◌, ltb, arith, rules}
use Rattle.std.proofs.lemmas.List.Sorted.{IsPartitionPoint-from_clause, IsPartitionedBy-ltb}
use Rattle.std.proofs.lemmas.Bool.Decides.{nat_tests}
use Rattle.lane_core.specs.Instrs.{lane_of}
use Rattle.lane_core.proofs.Lookup.{in_order}
use Rattle.lane_core.proofs.instr.ending_above.Goals as goal

pub returns : goal.returns
returns c =
    let parted = IsPartitionedBy-ltb (λ i. lane_of i + 1) _ c.args.lane (in_order _ c.requires) in
    let point = IsPartitionPoint-from_clause (λ i. ltb (lane_of i + 1) c.args.lane) _ _ c.partition_point.ensures.partitioned parted (λ a r q k. search rules) in
    record {
      within = c.partition_point.ensures.bound;
      above = λ k d low high. (let e = point.0 k d low high in grind (arith, nat_tests));
      others = λ k d low high. (let e = point.1 k d low high in grind (arith, nat_tests));
    }
