use Rattle.std.proofs.Common.{◌≡◌, ◌≢◌, flat_map, map, All}
use Rattle.std.specs.List.{range_with_len}
use Rattle.vcd_write.specs.NetWaves.{IsByteName, nets_in, reference_of}
use Rattle.vcd_write.proofs.references.references_of.Given as goal

abbrev pub invariant-loop-context : goal.invariant-loop-context
invariant-loop-context l = record {
  references : l.references.items ≡ map (reference_of l.ports.c) (flat_map (λ context. nets_in context l.ports.nets) (range_with_len 0 l.context));
  bytes : l.context ≢ 0 → All (λ net. IsByteName net.name) l.ports.nets;
}
